-- The line at the front of the bytes left, and what the head says. Assumes nothing.
use Rattle.definitions.specs.Answers.{size_with}
use mathlib.Core.Path.{◌≡◌, refl, sym, ap, ap₂, ◌∙◌}
use mathlib.Core.Bool.{Bool, true, false, ◌&&◌}
use mathlib.Core.List.{List}
use Prim.Native.Nat.{ℕ, ◌≤◌, ◌<◌}
use native.Mathlib.Omega.{arith}
use lib.IntN.{ℤ, pos, nat_abs}
use lib.ListN.{length, take}
use borrow.Author.Tests.{lt-ltb, le-ltb}
use Rattle.std.specs.Prelude.{if◌then◌else◌, Result, Ok, Err, Option, Some, None}
use Rattle.integers.specs.Words.{within_z}
use Rattle.integers.specs.Tests.{and_left, and_right}
use lib.Dec.{T}
use lib.Signed.{lt_z}
use Rattle.definitions.specs.declared.Rulebook.{Rulebook}
use Rattle.definitions.specs.declared.Line.{Line}
use Rattle.definitions.specs.declared.CaseSize.{CaseSize}
use Rattle.definitions.specs.declared.Refusal.{Refusal}
use Rattle.definitions.specs.declared.Refusal.TheVariants.{NotInColumns, NotDue, OutsideLimits, CutShort}
use Rattle.definitions.specs.Rules.{rules_in, coherent, edge_places}
use Rattle.definitions.specs.Refusals.{first_refusal}
use Rattle.definitions.specs.Case.{lent_length}
use Rattle.calls.specs.Calls.{read_line_answer}
use Rattle.definitions.specs.CaseFiles.{is_cut, first_line, head_tests, headed, case_size}
use Rattle.case_lines.specs.Dues.{bytes_of_line}
use Rattle.casefile.specs.Reads.{line_from, is_of_kind, limits_z, Few, head_answer}
use Rattle.casefile.proofs.Tests.{due-10, within-nat}

module _ (b : Rulebook) (t : List ℕ) where
  pub cut_short : length t < bytes_of_line b → line_from b t ≡ Err CutShort
  unfolding line_from
  cut_short h = simp (lt-ltb (length t) (bytes_of_line b) h)

  pub not-cut : bytes_of_line b ≤ length t → line_from b t ≡ read_line_answer (rules_in b) (take (bytes_of_line b) t)
  unfolding line_from
  not-cut h = simp (le-ltb (length t) (bytes_of_line b) h)

-- what a line that was read, or refused, says of the bytes
pub data Front (b : Rulebook) (t : List ℕ) : Result Line Refusal → Type 0 where
  cut : is_cut (rules_in b) t ≡ true → Front b t (Err CutShort)
  bad : is_cut (rules_in b) t ≡ false → first_line (rules_in b) t ≡ None → Front b t (Err NotInColumns)
  good : {l : Line} → is_cut (rules_in b) t ≡ false → first_line (rules_in b) t ≡ Some l → Front b t (Ok l)

pub front : (b : Rulebook) (t : List ℕ) → Front b t (line_from b t)
unfolding line_from read_line_answer
front b t = go (is_cut (rules_in b) t) (first_line (rules_in b) t) refl refl
  where
    go : (short : Bool) (o : Option Line) → is_cut (rules_in b) t ≡ short → first_line (rules_in b) t ≡ o
        → Front b t (if short then Err CutShort else (elim o [ None ↦ Err NotInColumns | Some l ↦ Ok l ]))
    go true o e f = cut e
    go false None e f = bad e f
    go false (Some l) e f = good e f

-- ---- the head

module _ (b : Rulebook) (l : Line) where
  pub head-kind : is_of_kind (pos 10) true false l ≡ false → Err NotDue ≡ head_answer b (first_refusal (head_tests (rules_in b) (Some l))) l
  head-kind h = rw (due-10 b l, h)

  pub head-limits : is_of_kind (pos 10) true false l ≡ true → limits_z b l.a l.b l.c ≡ false
      → Err OutsideLimits ≡ head_answer b (first_refusal (head_tests (rules_in b) (Some l))) l
  head-limits h k = rw (due-10 b l, h, k)

  pub head-good : is_of_kind (pos 10) true false l ≡ true → limits_z b l.a l.b l.c ≡ true
      → head_answer b None l ≡ head_answer b (first_refusal (head_tests (rules_in b) (Some l))) l
  head-good h k = rw (due-10 b l, h, k)

-- what limits say of the sizes
pub limits-in : (b : Rulebook) (n d m : ℤ) → T (limits_z b n d m)
    → ((lt_z n (pos 0) ≡ false) × (1 ≤ nat_abs n) × (nat_abs n ≤ (rules_in b).variables))
    × ((lt_z d (pos 0) ≡ false) × (1 ≤ nat_abs d) × (nat_abs d ≤ (rules_in b).values))
    × ((lt_z m (pos 0) ≡ false) × (0 ≤ nat_abs m) × (nat_abs m ≤ (rules_in b).edges))
limits-in b n d m t =
    let p = and_left (within_z (pos 1) (pos (rules_in b).variables) n && within_z (pos 1) (pos (rules_in b).values) d)
    (within_z (pos 0) (pos (rules_in b).edges) m) t in (
      within-nat 1 (rules_in b).variables n (and_left (within_z (pos 1) (pos (rules_in b).variables) n) (within_z (pos 1) (pos (rules_in b).values) d) p),
      within-nat 1 (rules_in b).values d (and_right (within_z (pos 1) (pos (rules_in b).variables) n) (within_z (pos 1) (pos (rules_in b).values) d) p),
      within-nat 0 (rules_in b).edges m (and_right (within_z (pos 1) (pos (rules_in b).variables) n && within_z (pos 1) (pos (rules_in b).values) d)
          (within_z (pos 0) (pos (rules_in b).edges) m) t),
    )

pub limits-few : (b : Rulebook) (n d m : ℤ) → T (limits_z b n d m) → Few 256 n × Few 8 d × Few edge_places m
limits-few b n d m t =
    let ((x, p, u), (y, q, v), (z, r, w)) = limits-in b n d m t in
    let h = coherent b in
    ((x, omega (arith, u, h.variables-few)), (y, omega (arith, v, h.values-few)), (z, omega (arith, w, h.edges_placed)))

-- by whether the bytes are cut short, and the line
head_size : Rulebook → Bool → Option Line → Result CaseSize Refusal
head_size b short o = elim (if short then Some CutShort else first_refusal (head_tests (rules_in b) o)) [
  | None ↦ Ok (size_with (headed b o).n (headed b o).d (headed b o).m (lent_length (rules_in b) (headed b o)))
  | Some x ↦ Err x
]

size_is : (b : Rulebook) (t : List ℕ) → head_size b (is_cut (rules_in b) t) (first_line (rules_in b) t) ≡ case_size b t
unfolding head_size
size_is b t = refl

size-some : (b : Rulebook) (l : Line) → head_answer b (first_refusal (head_tests (rules_in b) (Some l))) l ≡ head_size b false (Some l)
unfolding head_size
size-some b l = go (first_refusal (head_tests (rules_in b) (Some l)))
  where
    go : (o : Option Refusal) → head_answer b o l ≡ elim o [
      | None ↦ Ok (size_with (headed b (Some l)).n (headed b (Some l)).d (headed b (Some l)).m (lent_length (rules_in b) (headed b (Some l))))
      | Some x ↦ Err x
    ]
    go None = refl
    go (Some x) = refl

pub head-refused : (b : Rulebook) (t : List ℕ) {f : Result Line Refusal} {x : Refusal} → Front b t f → f ≡ Err x → Err x ≡ case_size b t
unfolding head_size
head-refused b t (cut e) p = (cc) ∙ ap (λ short. head_size b short (first_line (rules_in b) t)) (sym e) ∙ size_is b t
head-refused b t (bad e f) p = (cc) ∙ ap₂ (head_size b) (sym e) (sym f) ∙ size_is b t
head-refused b t (good e f) p = cc

pub size-read : (b : Rulebook) (t : List ℕ) {f : Result Line Refusal} {l : Line} → Front b t f → f ≡ Ok l
    → head_answer b (first_refusal (head_tests (rules_in b) (Some l))) l ≡ case_size b t
size-read b t (cut e) p = cc
size-read b t (bad e f) p = cc
size-read b t {l} (good {l = k} e f) p =
    let q : l ≡ k = cc in
    size-some b l ∙ ap (λ l. head_size b false (Some l)) q ∙ ap₂ (head_size b) (sym e) (sym f) ∙ size_is b t
