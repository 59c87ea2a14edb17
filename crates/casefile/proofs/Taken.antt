-- What is answered, and what is left, by whether a refusal applies. Assumes nothing.
use mathlib.Core.Path.{◌≡◌, refl, sym, ap, ap₂, subst, ◌∙◌}
use mathlib.Core.Bool.{Bool, true, false, not, ◌&&◌, and-true, and-false}
use mathlib.Core.Logic.{⊎_elim}
use mathlib.Core.List.{List, [], ◌∷◌}
use Prim.Native.Nat.{ℕ, ◌+◌, ◌*◌, ◌≤◌, ◌<◌}
use native.Mathlib.Omega.{arith}
use lib.IntN.{ℤ, pos, negsuc, nat_abs}
use lib.Dec.{T, eqb, nltb→le}
use borrow.Author.Tests.{le-ltb}
use lib.Signed.{lt_z}
use lib.ListN.{length, set}
use Rattle.definitions.specs.declared.Rulebook.{Rulebook}
use Rattle.definitions.specs.declared.Line.{Line}
use Rattle.definitions.specs.declared.Refusal.TheVariants.{NotInColumns, NotDue, OutOfRange, WeightOutOfRange, CutShort, ScopeBarred}
use Rattle.definitions.specs.Rules.{rules_in, coherent}
use Rattle.definitions.specs.Refusals.{◌when◌, first_refusal}
use Rattle.definitions.specs.Case.{barred_weight, is_barred}
use Rattle.definitions.specs.Valid.{in_starting}
use Rattle.definitions.specs.CaseFiles.{CaseDue, variable-weight, edge-ends, edge-weight, names, bars, weight_in, Reading, took, due_tests, is_cut, first_line}
use Rattle.std.specs.Prelude.{if◌then◌else◌, Result, Ok, Err, Option, Some, None, ⊤}
use Rattle.integers.specs.Words.{eq_z}
use Rattle.integers.specs.Tests.{tests, and-iff, not-or-iff, either, is_true, is_false, and_left, and_right}
use Rattle.theory.proofs.Validity.{none-applies}
use Rattle.theory.proofs.Places.{place-variable, place-edge}
use Rattle.case_theory.proofs.CaseTests.{case-kinds}
use Rattle.case_lines.specs.declared.Sizes.{Sizes}
use Rattle.case_lines.specs.Dues.{bytes_of_line, case_with, places_of}
use Rattle.casefile.specs.Reads.{is_of_kind}
use Rattle.casefile.specs.Steps.{plain_tests, bar_tests, others_barred, ends_tests, repeat_test, ends_refusal, reading_of, line_refusal, due_refusal}
use Rattle.casefile.specs.Steps.{Stepped, SteppedAt}
use Rattle.casefile.proofs.Heads.{Front, cut, bad, good}
use Rattle.casefile.proofs.Tests.{due-11, due-12, due-13, due-14, due-15, not-ends}
use Rattle.casefile.proofs.Barring.{variable-stored, edge-stored}
use Rattle.definitions.specs.declared.Refusal.{Refusal}
use Rattle.definitions.specs.Lines.{outside}
use Rattle.definitions.specs.Answers.{outcome_of, unless_refused}
use Rattle.tables.proofs.Order.{outcome-done, outcome-refused, first_next, first_stops}

module _ {A : Type 0} (o : Option Refusal) (a b : A) where
  pub kept : {x : Refusal} → o ≡ Some x → b ≡ unless_refused o a b
  kept e = rw e

  pub table-changed : o ≡ None → a ≡ unless_refused o a b
  table-changed e = rw e

-- ---- the tests of each line

-- of a weight's line; g by whether its amount is a starting weight, b by whether it bars
plain-same : (due g : Bool) {b out other x : Bool} → b ≡ false → (T due → out ≡ other) → (T g → x ≡ false)
    → first_refusal (NotDue when (not due) ∷ OutOfRange when out ∷ WeightOutOfRange when (not b && not g) ∷ ScopeBarred when x ∷ [])
    ≡ first_refusal (NotDue when (not due) ∷ OutOfRange when other ∷ WeightOutOfRange when (not g) ∷ [])
plain-same false g e f h = refl
plain-same true true e f h = rw (e, f tt, h tt)
plain-same true false e f h = rw (e, f tt)

bar-same : (due g : Bool) {b out other x y : Bool} → b ≡ true → (T due → out ≡ other) → x ≡ y
    → first_refusal (NotDue when (not due) ∷ OutOfRange when out ∷ WeightOutOfRange when (not b && not g) ∷ ScopeBarred when x ∷ [])
    ≡ first_refusal (NotDue when (not due) ∷ OutOfRange when other ∷ ScopeBarred when y ∷ [])
bar-same false g e f h = refl
bar-same true g e f h = rw (e, f tt, h)

module _ (l : Line) where
  -- the third place of a variable's line
  third : (kind : ℤ) (amount : Bool) (i k : ℕ) → T (is_of_kind kind false amount l)
      → not (names i l.a && names k l.b) ≡ not (names i l.a && names k l.b && names 0 l.c)
  third kind amount i k t =
      let z = and_right (eq_z l.kind kind) (eq_z l.c (pos 0)) (and_left (eq_z l.kind kind && eq_z l.c (pos 0)) _ t) in
      rw (is_true (eq_z l.c (pos 0)) z, and-true)

  -- a line that bars leaves the others, one that does not leaves its scope with a tuple that is not barred
  closes : bars l ≡ true → {x : Bool} (y : Bool) → x ≡ (y && is_barred (weight_in l)) → x ≡ y
  closes e y h = h ∙ rw e (and-true y)

  never-closes : (b : Rulebook) → bars l ≡ false → {x : Bool} (y : Bool) → x ≡ (y && is_barred (weight_in l)) → T (in_starting (rules_in b) l.amount) → x ≡ false
  never-closes b e y h t = h ∙ rw e (ap (λ p. y && p) (is_false (is_barred l.amount) ((case-kinds (coherent b)).starting-free l.amount t)) ∙ and-false y)

-- the other tuples of a scope, by the values of its last one
module _ (s : Sizes) (w : List ℤ) where
  abbrev variable_others : ℕ → ℕ → Bool
  variable_others i k = others_barred (eqb (k + 1) s.d) k (i * s.d + k) w

  abbrev edge_others : ℕ → ℕ → ℕ → Bool
  edge_others e k j = others_barred (eqb (k + 1) s.d && eqb (j + 1) s.d) (k * s.d + j) (s.n * s.d + (e * (s.d * s.d) + (k * s.d + j))) w

module _ (s : Sizes) (lower upper : List ℕ) (w : List ℤ) (l : Line) where
  abbrev starting : Bool
  starting = in_starting (rules_in s.rulebook) l.amount

  abbrev refused : CaseDue → Option Refusal
  refused due = line_refusal s.rulebook (reading_of s lower upper w) due (Some l)

  -- an edge's tests are those of its line alone, and then whether it is repeated
  ends-tests : (e : ℕ) → refused (edge-ends e) ≡ ends_refusal s.n lower upper e l
  unfolding line_refusal ends_refusal
  ends-tests e = rw (due-12 s.rulebook l)

  ends-barred : bars l ≡ true → (e : ℕ) → refused (edge-ends e) ≡ Some NotDue
  unfolding line_refusal
  ends-barred o e = rw (not-ends s.rulebook l o)

  module _ (long : places_of s ≤ length w) where
    variable-tests : bars l ≡ false → (i k : ℕ) → i < s.n
        → refused (variable-weight i k) ≡ first_refusal (plain_tests s.rulebook (is_of_kind (pos 11) false true l) i k 0 l)
    unfolding line_refusal
    variable-tests e i k h = rw (due-11 s.rulebook l e) (plain-same (is_of_kind (pos 11) false true l) starting e
        (third l (pos 11) true i k)
        (never-closes l s.rulebook e (variable_others s w i k) (variable-stored (case_with s lower upper) w long i k h (weight_in l))))

    variable-bars : bars l ≡ true → (i k : ℕ) → i < s.n → refused (variable-weight i k)
        ≡ first_refusal (bar_tests (is_of_kind (pos 14) false false l) (variable_others s w i k) i k 0 l)
    unfolding line_refusal
    variable-bars e i k h = rw (due-14 s.rulebook l e) (bar-same (is_of_kind (pos 14) false false l) starting e
        (third l (pos 14) false i k)
        (closes l e (variable_others s w i k) (variable-stored (case_with s lower upper) w long i k h (weight_in l))))

    edge-tests : bars l ≡ false → (e k j : ℕ) → e < s.m
        → refused (edge-weight e k j) ≡ first_refusal (plain_tests s.rulebook (is_of_kind (pos 13) true true l) e k j l)
    unfolding line_refusal
    edge-tests o e k j h = rw (due-13 s.rulebook l o) (plain-same (is_of_kind (pos 13) true true l) starting
        {out = not (names e l.a && names k l.b && names j l.c)} o (λ t. refl)
        (never-closes l s.rulebook o (edge_others s w e k j) (edge-stored (case_with s lower upper) w long e k j h (weight_in l))))

    edge-bars : bars l ≡ true → (e k j : ℕ) → e < s.m → refused (edge-weight e k j)
        ≡ first_refusal (bar_tests (is_of_kind (pos 15) true false l) (edge_others s w e k j) e k j l)
    unfolding line_refusal
    edge-bars o e k j h = rw (due-15 s.rulebook l o) (bar-same (is_of_kind (pos 15) true false l) starting
        {out = not (names e l.a && names k l.b && names j l.c)} o (λ t. refl)
        (closes l o (edge_others s w e k j) (edge-stored (case_with s lower upper) w long e k j h (weight_in l))))

-- ---- one line of what is due

module _ (s : Sizes) (lower upper : List ℕ) where
  table-unless : (o : Option Refusal) (a w : List ℤ) → reading_of s lower upper (unless_refused o a w) ≡ unless_refused o (reading_of s lower upper a)
      (reading_of s lower upper w)
  table-unless None a w = refl
  table-unless (Some x) a w = refl

ends-unless : (s : Sizes) (o : Option Refusal) (a b lower upper : List ℕ) (w : List ℤ)
    → reading_of s (unless_refused o a lower) (unless_refused o b upper) w ≡ unless_refused o (reading_of s a b w) (reading_of s lower upper w)
ends-unless s None a b lower upper w = refl
ends-unless s (Some x) a b lower upper w = refl

module _ (s : Sizes) (lower upper : List ℕ) (w : List ℤ) (l : Line) {r : Result ⊤ Refusal} where
  by-refusal : (o : Option Refusal) (due : CaseDue) {g : Reading} → line_refusal s.rulebook (reading_of s lower upper w) due (Some l) ≡ o → r ≡ outcome_of o
      → g ≡ unless_refused o (took (reading_of s lower upper w) due (Some l)) (reading_of s lower upper w) → Stepped s lower upper w l due r g
  by-refusal o due e p q = record { answer = rw e p; left = rw e q }

  module _ {v : List ℤ} (o : Option Refusal) (p : r ≡ outcome_of o) where
    by-table : (due : CaseDue) {a : List ℤ} → line_refusal s.rulebook (reading_of s lower upper w) due (Some l) ≡ o → v ≡ unless_refused o a w
        → reading_of s lower upper a ≡ took (reading_of s lower upper w) due (Some l) → Stepped s lower upper w l due r (reading_of s lower upper v)
    by-table due {a} e q t =
        by-refusal o due e p (ap (reading_of s lower upper) q ∙ table-unless s lower upper o a w ∙ ap (λ g. unless_refused o g (reading_of s lower upper w)) t)

  -- what is stored of the line, and where
  variable-store : (i k : ℕ) {v : List ℤ} {z : ℤ} {o : Option Refusal} → i < s.n → weight_in l ≡ z → refused s lower upper w l (variable-weight i k) ≡ o
      → (r ≡ outcome_of o) × (v ≡ unless_refused o (set w (i * s.d + k) z) w) → Stepped s lower upper w l (variable-weight i k) r (reading_of s lower upper v)
  variable-store i k {o = o} h e t (p, q) = by-table o p (variable-weight i k) t q
      (ap₂ (λ a z. reading_of s lower upper (set w a z)) (sym (place-variable (case_with s lower upper) i k 0 h)) (sym e))

  edge-store : (e k j : ℕ) {v : List ℤ} {z : ℤ} {o : Option Refusal} → weight_in l ≡ z → refused s lower upper w l (edge-weight e k j) ≡ o
      → (r ≡ outcome_of o) × (v ≡ unless_refused o (set w (s.n * s.d + (e * (s.d * s.d) + (k * s.d + j))) z) w)
      → Stepped s lower upper w l (edge-weight e k j) r (reading_of s lower upper v)
  edge-store e k j {o = o} g t (p, q) = by-table o p (edge-weight e k j) t q
      (ap₂ (λ a z. reading_of s lower upper (set w a z)) (sym (place-edge (case_with s lower upper) e k j)) (sym g))

  module _ (long : places_of s ≤ length w) (e : bars l ≡ false) where
    pub variable-step : (i k : ℕ) {v : List ℤ} → i < s.n → let o = first_refusal (plain_tests s.rulebook (is_of_kind (pos 11) false true l) i k 0 l) in
        (r ≡ outcome_of o) × (v ≡ unless_refused o (set w (i * s.d + k) l.amount) w)
        → Stepped s lower upper w l (variable-weight i k) r (reading_of s lower upper v)
    variable-step i k h = variable-store i k h (rw e) (variable-tests s lower upper w l long e i k h)

    pub edge-step : (y k j : ℕ) {v : List ℤ} → y < s.m → let o = first_refusal (plain_tests s.rulebook (is_of_kind (pos 13) true true l) y k j l) in
        (r ≡ outcome_of o) × (v ≡ unless_refused o (set w (s.n * s.d + (y * (s.d * s.d) + (k * s.d + j))) l.amount) w)
        → Stepped s lower upper w l (edge-weight y k j) r (reading_of s lower upper v)
    edge-step y k j h = edge-store y k j (rw e) (edge-tests s lower upper w l long e y k j h)

  module _ (long : places_of s ≤ length w) (e : bars l ≡ true) where
    pub variable-bar-step : (i k : ℕ) {v : List ℤ} → i < s.n → let o = first_refusal (bar_tests (is_of_kind (pos 14) false false l) (variable_others s w i k) i k 0 l) in
        (r ≡ outcome_of o) × (v ≡ unless_refused o (set w (i * s.d + k) barred_weight) w)
        → Stepped s lower upper w l (variable-weight i k) r (reading_of s lower upper v)
    variable-bar-step i k h = variable-store i k h (rw e) (variable-bars s lower upper w l long e i k h)

    pub edge-bar-step : (y k j : ℕ) {v : List ℤ} → y < s.m → let at = s.n * s.d + (y * (s.d * s.d) + (k * s.d + j)) in
        let o = first_refusal (bar_tests (is_of_kind (pos 15) true false l) (edge_others s w y k j) y k j l) in
        (r ≡ outcome_of o) × (v ≡ unless_refused o (set w at barred_weight) w) → Stepped s lower upper w l (edge-weight y k j) r (reading_of s lower upper v)
    edge-bar-step y k j h = edge-store y k j (rw e) (edge-bars s lower upper w l long e y k j h)

  pub ends-bar-step : bars l ≡ true → (e : ℕ) → r ≡ Err NotDue → Stepped s lower upper w l (edge-ends e) r (reading_of s lower upper w)
  ends-bar-step o e p = by-refusal (Some NotDue) (edge-ends e) (ends-barred s lower upper w l o e) p refl

  pub ends-step : (e : ℕ) {a b : List ℕ} → let o = ends_refusal s.n lower upper e l in
      (r ≡ outcome_of o) × (a ≡ unless_refused o (set lower e (nat_abs l.b)) lower) × (b ≡ unless_refused o (set upper e (nat_abs l.c)) upper)
      → Stepped s lower upper w l (edge-ends e) r (reading_of s a b w)
  ends-step e (p, q, t) = by-refusal (ends_refusal s.n lower upper e l) (edge-ends e) (ends-tests s lower upper w l e) p
      (ap₂ (λ a b. reading_of s a b w) q t ∙ ends-unless s (ends_refusal s.n lower upper e l)
      (set lower e (nat_abs l.b)) (set upper e (nat_abs l.c)) lower upper w)

-- what is due, by an equal name
pub same-due : {s : Sizes} {lower upper : List ℕ} {w : List ℤ} {l : Line} {r : Result ⊤ Refusal} {g : Reading} {due other : CaseDue} → due ≡ other
    → Stepped s lower upper w l due r g → Stepped s lower upper w l other r g
same-due {s} {lower} {upper} {w} {l} {r} {g} e h = subst (λ (due : CaseDue). Stepped s lower upper w l due r g) e h

pub same-due-at : {s : Sizes} {lower upper : List ℕ} {w : List ℤ} {t : List ℕ} {r : Result ⊤ Refusal} {g : Reading} {due other : CaseDue} → due ≡ other
    → SteppedAt s lower upper w t due r g → SteppedAt s lower upper w t other r g
same-due-at {s} {lower} {upper} {w} {t} {r} {g} e h = subst (λ (due : CaseDue). SteppedAt s lower upper w t due r g) e h

-- ---- ends that nothing refuses but that they are repeated

outside-known : (n : ℕ) (z : ℤ) → T (not (outside n z)) → (lt_z z (pos 0) ≡ false) × (nat_abs z < n)
outside-known n (pos k) t = (let (a, b) = simp tests at t in (le-ltb k 0 (omega arith), b))
outside-known n (negsuc k) t = absurd t

module _ (n e : ℕ) (l : Line) (h : first_refusal (ends_tests n e l) ≡ None) where
  pub ends-known : ((lt_z l.b (pos 0) ≡ false) × (nat_abs l.b < n)) × ((lt_z l.c (pos 0) ≡ false) × (nat_abs l.c < n))
  ends-known =
      let p = simp (and-iff, not-or-iff) at ((none-applies (ends_tests n e l)).0 (rw h tt)) in
      (outside-known n l.b p.1.0.0.1, outside-known n l.c p.1.0.1)

module _ (n : ℕ) (lower upper : List ℕ) (e : ℕ) (l : Line) where
  abbrev refusal : Option Refusal
  refusal = ends_refusal n lower upper e l

  pub edge-refused : {x : Refusal} (a b : List ℕ) → Err x ≡ outcome_of (first_refusal (ends_tests n e l))
      → Err x ≡ outcome_of refusal × (lower ≡ unless_refused refusal a lower) × (upper ≡ unless_refused refusal b upper)
  unfolding ends_refusal
  edge-refused {x} a b h =
      let r : refusal ≡ Some x = first_stops (repeat_test lower upper e (nat_abs l.b) (nat_abs l.c)) (ends_tests n e l) (outcome-refused h) in
      rw r (refl, refl, refl)

  pub ends-left : Ok tt ≡ outcome_of (first_refusal (ends_tests n e l)) → refusal ≡ first_refusal (repeat_test lower upper e (nat_abs l.b) (nat_abs l.c))
  unfolding ends_refusal
  ends-left h = first_next (repeat_test lower upper e (nat_abs l.b) (nat_abs l.c)) (ends_tests n e l) (outcome-done h)

-- ---- the line at the front of the bytes

module _ (b : Rulebook) (g : Reading) (due : CaseDue) where
  refusal_by : Bool → Option Line → Option Refusal
  refusal_by short o = if short then Some CutShort else first_refusal (due_tests (rules_in b) g due o)

  refusal_is : (t : List ℕ) → due_refusal b g due t ≡ refusal_by (is_cut (rules_in b) t) (first_line (rules_in b) t)
  unfolding refusal_by due_refusal
  refusal_is t = refl

  none_read : refusal_by false None ≡ Some NotInColumns
  unfolding refusal_by
  none_read = refl

  some_read : (l : Line) → refusal_by false (Some l) ≡ line_refusal b g due (Some l)
  unfolding refusal_by line_refusal
  some_read l = refl

  pub line-refused-at : (t : List ℕ) {f : Result Line Refusal} {x : Refusal} → Front b t f → f ≡ Err x → due_refusal b g due t ≡ Some x
  unfolding refusal_by
  line-refused-at t (cut e) p = refusal_is t ∙ ap (λ short. refusal_by short (first_line (rules_in b) t)) e ∙ cc
  line-refused-at t (bad e f) p = refusal_is t ∙ ap₂ refusal_by e f ∙ none_read ∙ cc
  line-refused-at t (good e f) p = cc

  pub front_read : (t : List ℕ) {f : Result Line Refusal} {l : Line} → Front b t f → f ≡ Ok l → (due_refusal b g due t ≡ line_refusal b g due (Some l))
      × (first_line (rules_in b) t ≡ Some l)
  front_read t (cut e) p = ((cc), (cc))
  front_read t (bad e f) p = ((cc), (cc))
  front_read t {l} (good {l = k} e f) p =
      let q : k ≡ l = cc in
      (refusal_is t ∙ ap₂ refusal_by e f ∙ some_read k ∙ ap (λ l. line_refusal b g due (Some l)) q, f ∙ ap Some q)

module _ (s : Sizes) (lower upper : List ℕ) (w : List ℤ) (t : List ℕ) (due : CaseDue) {f : Result Line Refusal} (h : Front s.rulebook t f) where
  pub at-refused : {x : Refusal} → f ≡ Err x → SteppedAt s lower upper w t due (Err x) (reading_of s lower upper w)
  at-refused {x} p =
      let e : due_refusal s.rulebook (reading_of s lower upper w) due t ≡ Some x = line-refused-at s.rulebook (reading_of s lower upper w) due t h p in
      record { answer = rw e; left = rw e }

  pub at_read : {l : Line} {r : Result ⊤ Refusal} {g : Reading} → f ≡ Ok l → Stepped s lower upper w l due r g → SteppedAt s lower upper w t due r g
  at_read p q =
      let (e, d) = front_read s.rulebook (reading_of s lower upper w) due t h p in
      record { answer = rw e q.answer; left = rw (e, d) q.left }

-- a line that is not refused is whole
pub ends-whole : (b : Rulebook) (g : Reading) (due : CaseDue) (t : List ℕ) → due_refusal b g due t ≡ None → bytes_of_line b ≤ length t
unfolding refusal_by
ends-whole b g due t h =
    ⊎_elim
    (λ u. let z : Some CutShort ≡ None = sym (refusal_is b g due t
    ∙ ap (λ short. refusal_by b g due short (first_line (rules_in b) t)) (is_true (is_cut (rules_in b) t) u)) ∙ h in let y : ◌≡◌ {A = ℕ} 0 1 = cc in omega arith)
    (λ u. nltb→le (length t) (bytes_of_line b) u) (either (is_cut (rules_in b) t))
