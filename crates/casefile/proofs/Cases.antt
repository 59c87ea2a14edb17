-- The head of a case file, and then its lines. Assumes nothing.
use Rattle.definitions.specs.declared.RefusedAt.{RefusedAt}
use Rattle.definitions.specs.Answers.{size_with}
use mathlib.Core.Path.{◌≡◌, refl, sym, ap, ap₂, ◌∙◌}
use mathlib.Core.Bool.{Bool, true, false, not, ◌&&◌}
use mathlib.Core.Logic.{◌≢◌, ⊎_elim}
use mathlib.Core.List.{List, [], ◌∷◌}
use Prim.Native.Nat.{ℕ, ◌*◌, ◌≤◌}
use native.Mathlib.Omega.{arith}
use lib.IntN.{ℤ}
use lib.Dec.{eqb, nltb→le}
use lib.ListN.{length, length-drop}
use borrow.Author.Tests.{eq-eqb, ne_eqb}
use Rattle.std.specs.Prelude.{if◌then◌else◌, Result, Ok, Err, Option, Some, None}
use Rattle.integers.specs.Tests.{is_true, false-is, either, and_left, and_right, not-not-iff}
use Rattle.definitions.specs.declared.Rulebook.{Rulebook}
use Rattle.definitions.specs.declared.Case.{Case}
use Rattle.definitions.specs.declared.Line.{Line}
use Rattle.definitions.specs.declared.CaseRead.{CaseRead}
use Rattle.definitions.specs.declared.CaseSize.{CaseSize}
use Rattle.definitions.specs.declared.Refusal.{Refusal}
use Rattle.definitions.specs.declared.Refusal.TheVariants.{WrongLength, CutShort}
use Rattle.definitions.specs.Rules.{rules_in, full_length}
use Rattle.definitions.specs.Refusals.{first_refusal}
use Rattle.definitions.specs.Lines.{not_due}
use Rattle.definitions.specs.Case.{lent_length}
use Rattle.definitions.specs.CaseFiles.{CaseCall, Reading, case_of, headed, head_tests, head_refusal, is_cut, first_line, after_first, dues, read_dues, case_refused}
use Rattle.definitions.specs.CaseFiles.{case_taken, read_lines, case_size}
use Rattle.theory.proofs.Validity.{none-applies, own-lent}
use Rattle.case_lines.specs.declared.Sizes.{Sizes}
use Rattle.case_lines.specs.Dues.{SizesLimited, places_of}
use Rattle.casefile.specs.Steps.{reading_of, left_from, no_ends, call_with}
use Rattle.case_lines.specs.Dues.{bytes_of_line}
use Rattle.casefile.specs.Reads.{limits_z}
use Rattle.casefile.proofs.Heads.{limits-in}
use Rattle.case_lines.proofs.Dues.{sizes-few}
use Rattle.casefile.proofs.Left.{left-first, dues-whole}

-- ---- what is handed back of a call

module _ (b : Rulebook) {call : CaseCall} {u : CaseRead} (r : Result ℕ RefusedAt) (g : Reading) (e : call_with b r g ≡ call) where
  pub handed-refused : {x : RefusedAt} → r ≡ Err x → u ≡ (case_refused b x.refusal x.line g.table).read → (u ≡ call.read)
      × (g.table ≡ call.table)
  handed-refused p q = let d = sym (ap (λ r. call_with b r g) p) ∙ e in (q ∙ ap (λ c. c.read) d, ap (λ c. c.table) d)

  pub handed-taken : {lines : ℕ} → r ≡ Ok lines → u ≡ (case_taken g lines).read → (u ≡ call.read) × (g.table ≡ call.table)
  handed-taken p q = let d = sym (ap (λ r. call_with b r g) p) ∙ e in (q ∙ ap (λ c. c.read) d, ap (λ c. c.table) d)

pub handed-same : {call other : CaseCall} {u : CaseRead} {v : List ℤ} → other ≡ call → (u ≡ call.read) × (v ≡ call.table) → (u ≡ other.read)
    × (v ≡ other.table)
handed-same e (p, q) = (p ∙ sym (ap (λ c. c.read) e), q ∙ sym (ap (λ c. c.table) e))

-- ---- by the refusal of the head, and the case that it names

size_by : Rulebook → Option Refusal → Case → Result CaseSize Refusal
size_by b o c = elim o [
  | None ↦ Ok (size_with c.n c.d c.m (lent_length (rules_in b) c))
  | Some x ↦ Err x
]

size_none : (b : Rulebook) (o : Option Refusal) (c : Case) {z : CaseSize} → size_by b o c ≡ Ok z
    → (o ≡ None) × (size_with c.n c.d c.m (lent_length (rules_in b) c) ≡ z)
unfolding size_by
size_none b None c e = (refl, (cc))
size_none b (Some x) c e = ((cc), (cc))

size-some : (b : Rulebook) (o : Option Refusal) (c : Case) {x : Refusal} → size_by b o c ≡ Err x → o ≡ Some x
unfolding size_by
size-some b None c e = cc
size-some b (Some y) c e = cc

headed-is : (b : Rulebook) (o : Option Line) → headed b o ≡ case_of b (headed b o).n (headed b o).d (headed b o).m
headed-is b None = refl
headed-is b (Some l) = refl

module _ (b : Rulebook) (t : List ℕ) (w : List ℤ) where
  case_by : Option Refusal → Case → CaseCall
  case_by o c = elim o [
    | None ↦
        if eqb (length w) (lent_length (rules_in b) c)
        then read_dues b (record { case = c; table = w }) 1 (dues c) (after_first (rules_in b) t)
        else case_refused b WrongLength 0 w
    | Some x ↦ case_refused b x 0 w
  ]

  case-is : read_lines b t w ≡ case_by (head_refusal (rules_in b) t) (headed b (first_line (rules_in b) t))
  unfolding case_by
  case-is = refl

  size_is : case_size b t ≡ size_by b (head_refusal (rules_in b) t) (headed b (first_line (rules_in b) t))
  unfolding size_by
  size_is = refl

  pub case-refused : {x : Refusal} → case_size b t ≡ Err x → read_lines b t w ≡ case_refused b x 0 w
  unfolding case_by
  case-refused {x} e =
      let o : head_refusal (rules_in b) t ≡ Some x = size-some b (head_refusal (rules_in b) t) (headed b (first_line (rules_in b) t)) (sym size_is ∙ e) in
      case-is ∙ ap (λ o. case_by o (headed b (first_line (rules_in b) t))) o

  module _ (z : CaseSize) (e : case_size b t ≡ Ok z) where
    abbrev s : Sizes
    s = record { n = z.n; d = z.d; m = z.m; rulebook = b }

    named : (head_refusal (rules_in b) t ≡ None) × (headed b (first_line (rules_in b) t) ≡ case_of b s.n s.d s.m) × (full_length (rules_in b) z.d ≡ z.table)
    named =
        let (o, q) = size_none b (head_refusal (rules_in b) t) (headed b (first_line (rules_in b) t)) (sym size_is ∙ e) in
        let h = headed-is b (first_line (rules_in b) t) in
        let d = ap (λ (k : CaseSize). k.d) q in
        (o, h ∙ ap (λ (k : CaseSize). case_of b k.n k.d k.m) q, sym (ap (full_length (rules_in b)) d) ∙ ap (λ (k : CaseSize). k.table) q)

    case-none : read_lines b t w ≡ case_by None (case_of b s.n s.d s.m)
    case-none = case-is ∙ ap₂ case_by named.0 named.1

    pub case-wrong : length w ≢ z.table → read_lines b t w ≡ case_refused b WrongLength 0 w
    unfolding case_by
    case-wrong h = case-none ∙ rw (ne_eqb (length w) (full_length (rules_in b) z.d) (λ q. h (q ∙ named.2)))

    pub case-right : length w ≡ z.table → read_lines b t w ≡ left_from s (reading_of s no_ends no_ends w) 0 t
    unfolding case_by
    case-right h = case-none ∙ rw (eq-eqb (length w) (full_length (rules_in b) z.d) (h ∙ sym named.2)) (sym (left-first s (reading_of s no_ends no_ends w) t))

    refusal-parts : (short : Bool) (o : Option Refusal) → (if short then Some CutShort else o) ≡ None → (short ≡ false) × (o ≡ None)
    refusal-parts true o p = ((cc), (cc))
    refusal-parts false o p = (refl, p)

    not-cut : (is_cut (rules_in b) t ≡ false) × (first_refusal (head_tests (rules_in b) (first_line (rules_in b) t)) ≡ None)
    not-cut = refusal-parts (is_cut (rules_in b) t) (first_refusal (head_tests (rules_in b) (first_line (rules_in b) t))) named.0

    pub head-whole : bytes_of_line b ≤ length t
    head-whole = ⊎_elim (λ u. let k : true ≡ false = sym (is_true (is_cut (rules_in b) t) u) ∙ not-cut.0 in cc)
        (λ u. nltb→le (length t) (bytes_of_line b) u) (either (is_cut (rules_in b) t))

    pub sizes-limited : SizesLimited s
    sizes-limited = go (first_line (rules_in b) t) not-cut.1 named.1
      where
        go : (o : Option Line) → first_refusal (head_tests (rules_in b) o) ≡ None → headed b o ≡ case_of b s.n s.d s.m → SizesLimited s
        go None p q = cc
        go (Some l) p q =
            let limits = limits_z b l.a l.b l.c in
            let k = and_left (not (not limits)) true (and_right (not (not_due (rules_in b) (10 ∷ []) l)) (not (not limits) && true)
            ((none-applies (head_tests (rules_in b) (Some l))).0 (rw p tt))) in
            let (n, d, m) = limits-in b l.a l.b l.c ((not-not-iff limits).0 k) in
            sizes-few s
            (omega (arith, ap (λ c. c.n) q, n.2))
            (omega (arith, ap (λ c. c.d) q, d.1))
            (omega (arith, ap (λ c. c.d) q, d.2))
            (omega (arith, ap (λ c. c.m) q, m.2))

    pub case-length : length w ≡ z.table → places_of s ≤ length w
    case-length h = omega (arith, named.2, own-lent (rules_in b) (case_of b z.n z.d z.m) sizes-limited.variables sizes-limited.edges)

-- ---- a case that was read has all its lines

module _ (b : Rulebook) (t : List ℕ) (w : List ℤ) {lines : ℕ} where
  whole_length : (fits : Bool) (c : Case) → bytes_of_line b ≤ length t
      → (if fits then read_dues b (record { case = c; table = w }) 1 (dues c)
      (after_first (rules_in b) t) else case_refused b WrongLength 0 w).read.answer ≡ Ok lines → lines * bytes_of_line b ≤ length t
  whole_length true c h e = omega (arith, dues-whole b (dues c) (record { case = c; table = w }) 1 (after_first (rules_in b) t) e, length-drop (bytes_of_line b) t)
  whole_length false c h e = cc

  whole_by : (short : Bool) (o : Option Refusal) → is_cut (rules_in b) t ≡ short → (c : Case)
      → (case_by b t w (if short then Some CutShort else o) c).read.answer ≡ Ok lines → lines * bytes_of_line b ≤ length t
  unfolding case_by
  whole_by true o d c e = cc
  whole_by false None d c e =
      whole_length (eqb (length w) (lent_length (rules_in b) c)) c (nltb→le (length t) (bytes_of_line b) (false-is (is_cut (rules_in b) t) d)) e
  whole_by false (Some x) d c e = cc

  pub read_whole : (read_lines b t w).read.answer ≡ Ok lines → lines * bytes_of_line b ≤ length t
  read_whole e = whole_by (is_cut (rules_in b) t) (first_refusal (head_tests (rules_in b) (first_line (rules_in b) t))) refl (headed b (first_line (rules_in b) t))
      (sym (ap (λ c. c.read.answer) (case-is b t w)) ∙ e)
