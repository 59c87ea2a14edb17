-- What is left to read, one line a step. Assumes nothing.
use Rattle.case_lines.specs.Dues.{bytes_of_line}
use mathlib.Core.Path.{◌≡◌, refl, sym, ap, ◌∙◌}
use mathlib.Core.Bool.{Bool, true, false}
use mathlib.Core.List.{List, [], ◌∷◌}
use Prim.Native.Nat.{ℕ, suc, ◌+◌, ◌*◌, ◌≤◌, ◌<◌}
use native.Mathlib.Numerals.{add-one}
use native.Mathlib.Omega.{arith}
use lib.IntN.{ℤ}
use lib.ListN.{length, drop, length-set, length-drop, drop_of_length-le}
use lib.Seq.{drop-cons, drop-drop}
use Rattle.std.specs.Prelude.{if◌then◌else◌, Result, Ok, Err, Option, Some, None, ⊤}
use Rattle.definitions.specs.declared.Rulebook.{Rulebook}
use Rattle.definitions.specs.declared.Line.{Line}
use Rattle.definitions.specs.declared.Refusal.{Refusal}
use Rattle.definitions.specs.declared.Refusal.TheVariants.{CutShort}
use Rattle.definitions.specs.Rules.{rules_in}
use Rattle.definitions.specs.Refusals.{first_refusal}
use Rattle.definitions.specs.CaseFiles.{CaseDue, variable-weight, edge-ends, edge-weight, due_tests, took, Reading, CaseCall, case_refused, case_taken, is_cut}
use Rattle.definitions.specs.CaseFiles.{first_line, read_dues}
use Rattle.case_lines.specs.declared.Sizes.{Sizes}
use Rattle.case_lines.specs.Dues.{due_at, lines_due}
use Rattle.casefile.specs.Steps.{reading_of, due_refusal, SteppedAt, left_from}
use Rattle.tables.proofs.Order.{outcome-done, outcome-refused}
use Rattle.casefile.proofs.Taken.{kept, table-changed, ends-whole}
use Rattle.case_lines.proofs.Dues.{all_dues, dues-length, dues-at}

abbrev pub on_refusal : Rulebook → Option Refusal → CaseCall → ℕ → List ℤ → CaseCall
on_refusal b None next at w = next
on_refusal b (Some x) next at w = case_refused b x at w

pub read-cons : (b : Rulebook) (g : Reading) (at : ℕ) (due : CaseDue) (ds : List CaseDue) (t : List ℕ)
    → read_dues b g at (due ∷ ds) t ≡ on_refusal b (due_refusal b g due t)
    (read_dues b (took g due (first_line (rules_in b) t)) (at + 1) ds (drop (bytes_of_line b) t)) at g.table
unfolding due_refusal
read-cons b g at due ds t = go (is_cut (rules_in b) t) (first_refusal (due_tests (rules_in b) g due (first_line (rules_in b) t)))
    (read_dues b (took g due (first_line (rules_in b) t)) (at + 1) ds (drop (bytes_of_line b) t))
  where
    go : (short : Bool) (o : Option Refusal) (next : CaseCall) → (elim short [
      | true ↦ case_refused b CutShort at g.table
      | false ↦
          elim o [
            | None ↦ next
            | Some x ↦ case_refused b x at g.table
          ]
    ]) ≡ on_refusal b (if short then Some CutShort else o) next at g.table
    go true o next = refl
    go false None next = refl
    go false (Some x) next = refl

-- all of it, after the head
pub left-first : (s : Sizes) (g : Reading) (t : List ℕ) → left_from s g 0 t ≡ read_dues s.rulebook g 1 (all_dues s) (drop (bytes_of_line s.rulebook) t)
unfolding left_from
left-first s g t =
    let e : bytes_of_line s.rulebook * 1 ≡ bytes_of_line s.rulebook = omega arith in
    ap (λ n. read_dues s.rulebook g 1 (all_dues s) (drop n t)) e

module _ (s : Sizes) (g : Reading) (q : ℕ) (t : List ℕ) where
  abbrev next : CaseCall
  next = left_from s (took g (due_at s q) (first_line (rules_in s.rulebook) (drop (bytes_of_line s.rulebook * (q + 1)) t))) (q + 1) t

  left_step : q < lines_due s → left_from s g q t ≡ on_refusal s.rulebook
      (due_refusal s.rulebook g (due_at s q) (drop (bytes_of_line s.rulebook * (q + 1)) t)) next (q + 1) g.table
  unfolding left_from
  left_step h =
      let e : bytes_of_line s.rulebook * (q + 1 + 1) ≡ bytes_of_line s.rulebook * (q + 1) + bytes_of_line s.rulebook = omega arith in
      let c : drop q (all_dues s) ≡ due_at s q ∷ drop (q + 1) (all_dues s) =
      rw add-one (drop-cons (all_dues s) q (edge-ends 0) (omega (arith, dues-length s))
      ∙ ap (λ due. due ∷ drop (suc q) (all_dues s)) (dues-at s q (edge-ends 0) h)) in
      ap (λ ds. read_dues s.rulebook g (q + 1) ds (drop (bytes_of_line s.rulebook * (q + 1)) t)) c
      ∙ read-cons s.rulebook g (q + 1) (due_at s q) (drop (q + 1) (all_dues s)) (drop (bytes_of_line s.rulebook * (q + 1)) t)
      ∙ rw (e, ← (drop-drop (bytes_of_line s.rulebook) (bytes_of_line s.rulebook * (q + 1)) t))

  -- the line was taken, and g is what it left
  pub left-taken : {u : Reading} → q < lines_due s → due_refusal s.rulebook g (due_at s q) (drop (bytes_of_line s.rulebook * (q + 1)) t) ≡ None
      → u ≡ took g (due_at s q) (first_line (rules_in s.rulebook) (drop (bytes_of_line s.rulebook * (q + 1)) t)) → left_from s g q t ≡ left_from s u (q + 1) t
  left-taken h e f = left_step h ∙ ap (λ o. on_refusal s.rulebook o next (q + 1) g.table) e ∙ ap (λ g. left_from s g (q + 1) t) (sym f)

  pub left-refused : {x : Refusal} → q < lines_due s → due_refusal s.rulebook g (due_at s q) (drop (bytes_of_line s.rulebook * (q + 1)) t) ≡ Some x
      → left_from s g q t ≡ case_refused s.rulebook x (q + 1) g.table
  left-refused h e = left_step h ∙ ap (λ o. on_refusal s.rulebook o next (q + 1) g.table) e

  pub left_end : lines_due s ≤ q → left_from s g q t ≡ case_taken g (q + 1)
  unfolding left_from
  left_end h = ap (λ ds. read_dues s.rulebook g (q + 1) ds (drop (bytes_of_line s.rulebook * (q + 1)) t))
      (drop_of_length-le (all_dues s) {i = q} (omega (arith, dues-length s)))

-- ---- the loop over the lines

took-length : (g : Reading) (due : CaseDue) (o : Option Line) → length (took g due o).table ≡ length g.table
took-length g due None = refl
took-length g (variable-weight i k) (Some l) = simp length-set
took-length g (edge-ends e) (Some l) = refl
took-length g (edge-weight e k j) (Some l) = simp length-set

module _ (s : Sizes) (lower upper : List ℕ) (w : List ℤ) (q : ℕ) (t : List ℕ) {r : Result ⊤ Refusal} {g : Reading} (h : q < lines_due s)
    (step : SteppedAt s lower upper w (drop (bytes_of_line s.rulebook * (q + 1)) t) (due_at s q) r g) where
  abbrev refusal : Option Refusal
  refusal = due_refusal s.rulebook (reading_of s lower upper w) (due_at s q) (drop (bytes_of_line s.rulebook * (q + 1)) t)

  pub line_taken : r ≡ Ok tt → bytes_of_line s.rulebook * (q + 1) ≤ length t
      → (bytes_of_line s.rulebook * (q + 1 + 1) ≤ length t) × (length g.table ≡ length w)
      × (left_from s (reading_of s lower upper w) q t ≡ left_from s g (q + 1) t)
  line_taken e m =
      let d : refusal ≡ None = outcome-done (sym e ∙ step.answer) in
      let u : g ≡ took (reading_of s lower upper w) (due_at s q) (first_line (rules_in s.rulebook) (drop (bytes_of_line s.rulebook * (q + 1)) t)) = step.left
      ∙ sym (table-changed refusal (took (reading_of s lower upper w) (due_at s q)
      (first_line (rules_in s.rulebook) (drop (bytes_of_line s.rulebook * (q + 1)) t))) (reading_of s lower upper w) d) in (
        omega (
          arith,
          ends-whole s.rulebook (reading_of s lower upper w) (due_at s q) (drop (bytes_of_line s.rulebook * (q + 1)) t) d,
          length-drop
              (bytes_of_line s.rulebook * (q + 1)) t,
        ),
        ap (λ g. length g.table) u ∙ took-length (reading_of s lower upper w) (due_at s q)
            (first_line (rules_in s.rulebook) (drop (bytes_of_line s.rulebook * (q + 1)) t)),
        left-taken s (reading_of s lower upper w) q t h d u,
      )

  pub line_refused : {x : Refusal} → r ≡ Err x → case_refused s.rulebook x (q + 1) g.table ≡ left_from s (reading_of s lower upper w) q t
  line_refused {x} e =
      let d : refusal ≡ Some x = outcome-refused (sym e ∙ step.answer) in
      let u : g ≡ reading_of s lower upper w = step.left ∙ sym (kept refusal
      (took (reading_of s lower upper w) (due_at s q) (first_line (rules_in s.rulebook) (drop (bytes_of_line s.rulebook * (q + 1)) t)))
      (reading_of s lower upper w) d) in
      ap (λ g. case_refused s.rulebook x (q + 1) g.table) u ∙ sym (left-refused s (reading_of s lower upper w) q t h d)

-- ---- a case that was read has all its lines

pub dues-whole : (b : Rulebook) (ds : List CaseDue) (g : Reading) (at : ℕ) (t : List ℕ) {lines : ℕ}
    → (read_dues b g at ds t).read.answer ≡ Ok lines → lines * bytes_of_line b ≤ at * bytes_of_line b + length t
dues-whole b [] g at t {lines} e = let n : at ≡ lines = cc in omega (arith, ap (λ n. n * bytes_of_line b) n)
dues-whole b (due ∷ ds) g at t {lines} e = go (due_refusal b g due t) refl (sym (ap (λ c. c.read.answer) (read-cons b g at due ds t)) ∙ e)
    (dues-whole b ds (took g due (first_line (rules_in b) t)) (at + 1) (drop (bytes_of_line b) t))
  where
    next : CaseCall
    next = read_dues b (took g due (first_line (rules_in b) t)) (at + 1) ds (drop (bytes_of_line b) t)

    go : (o : Option Refusal) → due_refusal b g due t ≡ o → (on_refusal b o next at g.table).read.answer ≡ Ok lines
        → (next.read.answer ≡ Ok lines → lines * bytes_of_line b ≤ (at + 1) * bytes_of_line b + length (drop (bytes_of_line b) t))
        → lines * bytes_of_line b ≤ at * bytes_of_line b + length t
    go None d e r = omega (arith, r e, ends-whole b g due t d, length-drop (bytes_of_line b) t)
    go (Some x) d e r = let z : ◌≡◌ {A = ℕ} 0 1 = cc in omega arith
