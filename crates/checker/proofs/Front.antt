-- Numbers 2 to 8 and 15 of a line, and what is left of a step where none of them applies. Assumes nothing.
use mathlib.Core.Path.{◌≡◌, refl, sym, ap, ◌∙◌}
use mathlib.Core.Logic.{◌≢◌}
use mathlib.Core.Bool.{Bool, true, false, not, ◌&&◌, ◌||◌}
use mathlib.Core.List.{List, [], ◌∷◌}
use Prim.Native.Nat.{ℕ}
use native.Mathlib.Omega.{arith}
use lib.IntN.{ℤ}
use lib.Dec.{T, ltb, eqb}
use lib.ListN.{length}
use borrow.Author.Tests.{eq-eqb}
use Rattle.std.specs.Prelude.{if◌then◌else◌, Result, Ok, Err, Option, Some, None, ⊤}
use Rattle.integers.specs.Words.{below, any}
use Rattle.integers.specs.Tests.{is_false, not-or-iff}
use Rattle.integers.specs.Options.{some_inj, none-some}
use Rattle.definitions.specs.declared.Case.{Case}
use Rattle.definitions.specs.declared.Line.{Line}
use Rattle.definitions.specs.declared.Refusal.{Refusal}
use Rattle.definitions.specs.declared.Refusal.TheVariants.{NotDue, OutsideLimits, WrongLength, OutOfRange, EndsNotAscending, EdgeRepeated}
use Rattle.definitions.specs.declared.Refusal.TheVariants.{WeightOutOfRange, ScopeBarred}
use Rattle.definitions.specs.Rules.{Rules, rules_of}
use Rattle.definitions.specs.Refusals.{number, number_of, ◌when◌, first_refusal}
use Rattle.definitions.specs.Case.{scopes, lower_end, upper_end, own_length, lent_length, wholly_barred}
use Rattle.definitions.specs.Valid.{working_weight, all_weights, zeros_from, carry_out, within_limits, some_edge, end_outside, same_ends, handed_over}
use Rattle.definitions.specs.Lines.{not_due}
use Rattle.theory.proofs.Validity.{Handed, handed}
use Rattle.theory.proofs.Replays.{none-iff}
use Rattle.tables.proofs.Order.{first_next, first_stops}
use Rattle.tables.proofs.Answered.{limits-true}
use Rattle.checker.specs.declared.Replay.{Replay}
use Rattle.checker.specs.Checker.{Asked, due_kinds, record_out, of_due, step_refused, step_by, step_line, lent_standing}
use Rattle.checker.specs.Taken.{step_next, front_tests}

pub neither : {A : Type 0} (b : Bool) (a : A) (o : Option A) → (if b then Some a else o) ≡ None → T (not b) × (o ≡ None)
neither true a o e = absurd (none-some (sym e))
neither false a o e = (tt, e)

-- what is known where nothing handed over is refused, the record's 5 asked with another
pub lent-known : (r : Rules) (c : Case) (w : List ℤ) (p : Replay) (out : Bool)
    → first_refusal (handed_over r (working_weight r) c w false (record_out r c p || out)) ≡ None
    → Handed r (working_weight r) c w × T (not (record_out r c p)) × T (not out)
lent-known r c w p out e =
    let (h, i, o) = (handed r (working_weight r) c w false (record_out r c p || out)).0
    ((none-iff (first_refusal (handed_over r (working_weight r) c w false (record_out r c p || out)))).1 e) in
    let (k, l) = (not-or-iff (record_out r c p) out).0 o in
    (h, k, l)

-- and where its 5 is asked alone, of a record that stands good
pub good-known : (c : Case) (w : List ℤ) (p : Replay) → lent_standing (rules_of c) c w p p.standing ≡ None
    → Handed (rules_of c) (working_weight (rules_of c)) c w × (p.standing ≡ Ok tt) × T (not (record_out (rules_of c) c p))
good-known c w p = go p.standing refl
  where
    go : (s : Result ⊤ Refusal) → p.standing ≡ s → lent_standing (rules_of c) c w p s ≡ None
        → Handed (rules_of c) (working_weight (rules_of c)) c w × (p.standing ≡ Ok tt) × T (not (record_out (rules_of c) c p))
    go (Err x) d e = absurd (none-some (sym e))
    go (Ok tt) d e =
        let (h, i, o) = (handed (rules_of c) (working_weight (rules_of c)) c w false (record_out (rules_of c) c p)).0
        ((none-iff (first_refusal (handed_over (rules_of c) (working_weight (rules_of c)) c w false (record_out (rules_of c) c p)))).1 e) in
        (h, d, o)

-- numbers 3 to 8 and 15 by what each asks, and where 5 is asked of more
abbrev numbers : Bool → Bool → Bool → Bool → Bool → Bool → Bool → Bool → Bool → Option Refusal
numbers limits long out carry ends order again weights scopes =
    first_refusal (
    OutsideLimits when limits ∷ WrongLength when long ∷ OutOfRange when (out || carry || ends) ∷ EndsNotAscending when order
    ∷ EdgeRepeated when again ∷ WeightOutOfRange when weights ∷ ScopeBarred when scopes ∷ []
    )

module _ {x : Refusal} where
  never-some : (n : ℕ) (o : Option Refusal) → number_of o ≡ n → o ≡ Some x → number x ≢ n → ⊥
  never-some n o d e h = h (sym (ap number_of e) ∙ d)

  numbers-long : (a b o l y e k s w z : Bool) → numbers a b o y e k s w z ≡ Some x → x ≡ WrongLength → numbers a b (o || l) y e k s w z ≡ Some x
  numbers-long true b o l y e k s w z d n = d
  numbers-long false true o l y e k s w z d n = d
  numbers-long false false true l y e k s w z d n = absurd (never-some 5 (Some OutOfRange) refl d (λ m. let f = ap number n in omega arith))
  numbers-long false false false l true e k s w z d n = absurd (never-some 5 (Some OutOfRange) refl d (λ m. let f = ap number n in omega arith))
  numbers-long false false false l false true k s w z d n = absurd (never-some 5 (Some OutOfRange) refl d (λ m. let f = ap number n in omega arith))
  numbers-long false false false l false false true s w z d n = absurd (never-some 6 (Some EndsNotAscending) refl d (λ m. let f = ap number n in omega arith))
  numbers-long false false false l false false false true w z d n = absurd (never-some 7 (Some EdgeRepeated) refl d (λ m. let f = ap number n in omega arith))
  numbers-long false false false l false false false false true z d n = absurd (never-some 8 (Some WeightOutOfRange) refl d (λ m. let f = ap number n in omega arith))
  numbers-long false false false l false false false false false true d n = absurd (never-some 15 (Some ScopeBarred) refl d (λ m. let f = ap number n in omega arith))
  numbers-long false false false l false false false false false false d n = absurd (none-some d)

  numbers-out : (a b o y e k s w z : Bool) → numbers a b o y e k s w z ≡ Some x → a ≡ false → x ≢ WrongLength
      → numbers a b (o || true) y e k s w z ≡ Some OutOfRange
  numbers-out true b o y e k s w z d f n = cc
  numbers-out false true o y e k s w z d f n = absurd (n (sym (some_inj d)))
  numbers-out false false true y e k s w z d f n = refl
  numbers-out false false false y e k s w z d f n = refl

  numbers-in : (a b o y e k s w z : Bool) → numbers a b o y e k s w z ≡ Some x → numbers a b (o || false) y e k s w z ≡ Some x
  numbers-in a b true y e k s w z d = d
  numbers-in a b false y e k s w z d = d

module _ (c : Case) (w : List ℤ) (p : Replay) (t : Line) where
  abbrev asked : Asked
  asked = of_due (rules_of c) c w p p.due t

  -- numbers 3 to 8 and 15, and what each asks
  abbrev asked_of : Bool → Option Refusal
  asked_of out = first_refusal (handed_over (rules_of c) (working_weight (rules_of c)) c w false out)

  abbrev unlimited : Bool
  unlimited = not (within_limits (rules_of c) c.n c.d c.m)

  abbrev unequal : Bool
  unequal = not (eqb (length w) (lent_length (rules_of c) c)) || false

  abbrev carry : Bool
  carry = carry_out (rules_of c) c

  abbrev ends : Bool
  ends = some_edge c (end_outside c)

  abbrev order : Bool
  order = some_edge c (λ e. not (ltb (lower_end c e) (upper_end c e)))

  abbrev again : Bool
  again = some_edge c (λ e. any (same_ends c e) (below e))

  abbrev weights : Bool
  weights = not (all_weights (working_weight (rules_of c)) c w && zeros_from (own_length c) w)

  abbrev shut : Bool
  shut = any (wholly_barred c w) (scopes c)

  abbrev front : Option Refusal
  front = first_refusal (front_tests c w p t)

  pub first-front : {x : Refusal} → front ≡ Some x → step_line (rules_of c) c w p (Some t) ≡ step_refused p w x
  first-front e = ap (step_by w p asked) (first_stops asked.later (front_tests c w p t) e)

  none-front : front ≡ None → step_line (rules_of c) c w p (Some t) ≡ step_next w p asked
  none-front e = ap (step_by w p asked) (first_next asked.later (front_tests c w p t) e)

  pub not-due : not_due (rules_of c) (due_kinds p.due) t ≡ true → front ≡ Some NotDue
  not-due e = rw e

  -- a line that is due
  module _ (d : not_due (rules_of c) (due_kinds p.due) t ≡ false) where
    due-front : front ≡ asked_of (record_out (rules_of c) c p || asked.out)
    due-front = rw d

    pub no-limits : within_limits (rules_of c) c.n c.d c.m ≡ false → front ≡ Some OutsideLimits
    no-limits e = rw (d, e)

    -- where number x applies to what was handed over
    module _ {x : Refusal} (e : asked_of (record_out (rules_of c) c p) ≡ Some x) where
      pub lent-length : x ≡ WrongLength → front ≡ Some x
      lent-length n = due-front ∙ numbers-long unlimited unequal (record_out (rules_of c) c p) asked.out carry ends order again weights shut e n

      pub lent_out : within_limits (rules_of c) c.n c.d c.m ≡ true → x ≢ WrongLength → asked.out ≡ true → front ≡ Some OutOfRange
      lent_out l n o =
          due-front ∙ ap (λ (b : Bool). asked_of (record_out (rules_of c) c p || b)) o
          ∙ numbers-out unlimited unequal (record_out (rules_of c) c p) carry ends order again weights shut e (ap not l) n

      pub lent-first : asked.out ≡ false → front ≡ Some x
      lent-first o =
          due-front ∙ ap (λ (b : Bool). asked_of (record_out (rules_of c) c p || b)) o
          ∙ numbers-in unlimited unequal (record_out (rules_of c) c p) carry ends order again weights shut e

  -- a record that is in range, on what was checked before
  module _ (h : Handed (rules_of c) (working_weight (rules_of c)) c w) (r : T (not (record_out (rules_of c) c p)))
      (d : not_due (rules_of c) (due_kinds p.due) t ≡ false) where
    line-out : asked.out ≡ true → front ≡ Some OutOfRange
    line-out e = rw (d, is_false (record_out (rules_of c) c p) r, e, limits-true h, eq-eqb (length w) (lent_length (rules_of c) c) h.long)

    line-in : asked.out ≡ false → front ≡ None
    line-in e = rw (d, is_false (record_out (rules_of c) c p) r, e)
        ((none-iff (first_refusal (handed_over (rules_of c) (working_weight (rules_of c)) c w false false))).0
        ((handed (rules_of c) (working_weight (rules_of c)) c w false false).1 (h, tt, tt)))

    pub good-out : asked.out ≡ true → step_line (rules_of c) c w p (Some t) ≡ step_refused p w OutOfRange
    good-out e = first-front (line-out e)

    pub good-next : asked.out ≡ false → step_line (rules_of c) c w p (Some t) ≡ step_next w p asked
    good-next e = none-front (line-in e)

  pub good-not-due : not_due (rules_of c) (due_kinds p.due) t ≡ true → step_line (rules_of c) c w p (Some t) ≡ step_refused p w NotDue
  good-not-due e = first-front (not-due e)
