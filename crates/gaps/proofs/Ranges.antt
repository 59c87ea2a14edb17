-- What is asked of the case, the lengths and the numbers in `best`. Assumes nothing.
use Rattle.definitions.specs.Answers.{answer_of}
use Rattle.std.specs.Prelude.{Ok, Err, Option, Some, None}
use mathlib.Core.Path.{◌≡◌, refl, sym, ap, ◌∙◌}
use mathlib.Core.Bool.{Bool, true, false, not, ◌||◌}
use mathlib.Core.Logic.{⊎_elim}
use mathlib.Core.List.{List, [], ◌∷◌, map}
use Prim.Native.Nat.{ℕ, ◌≤◌, ◌<◌}
use native.Mathlib.Omega.{arith}
use lib.IntN.{ℤ, ◌+ℤ◌}
use lib.Dec.{eqb, ltb}
use lib.ListN.{length}
use borrow.Author.Tests.{eq-eqb, lt-ltb, le-ltb}
use Rattle.integers.specs.Words.{sum}
use Rattle.integers.specs.Tests.{tests, either, is_true}
use Rattle.definitions.specs.declared.Case.{Case}
use Rattle.definitions.specs.declared.Refusal.{Refusal}
use Rattle.definitions.specs.declared.Refusal.TheVariants.{OutOfRange, WeightOutOfRange}
use Rattle.definitions.specs.Rules.{rules_of}
use Rattle.definitions.specs.Refusals.{◌when◌, first_refusal}
use Rattle.definitions.specs.Case.{scopes, scope_count, lent_length}
use Rattle.definitions.specs.Valid.{in_working, carry_out}
use Rattle.tables.specs.Scopes.{Limited, scope_part, scope_weights, best_at, range_test, carry_test, sum_in_range, best_sum}
use Rattle.tables.proofs.Order.{limits-hold}
use Rattle.tables.proofs.Search.{found}
use Rattle.gaps.specs.Gaps.{AllWorking, gap_below, gap_in_range}

pub part-known : (c : Case) (w : List ℤ) (x : ℕ) → Limited c → length w ≡ lent_length (rules_of c) c → x < scope_count c
    → scope_weights (rules_of c) c w x ≡ scope_part c w x
unfolding scope_weights
part-known c w x l long h = rw (limits-hold c l, eq-eqb (length w) (lent_length (rules_of c) c) long, lt-ltb x (scope_count c) h)

-- ---- a figure tells whether a refusal applies

refused-alike : (o : Option Refusal) {x : Refusal} (y z : ℤ) → Err x ≡ answer_of o y → Err x ≡ answer_of o z
refused-alike None y z e = cc
refused-alike (Some x) y z e = e

unrefused : (o : Option Refusal) (y : ℤ) {z : ℤ} → Ok z ≡ answer_of o y → o ≡ None
unrefused None y e = refl
unrefused (Some x) y e = cc

not-asked : (a b : Bool) (x y : Refusal) → first_refusal (x when a ∷ y when b ∷ []) ≡ None → b ≡ false
not-asked true b x y e = cc
not-asked false true x y e = cc
not-asked false false x y e = refl

-- ---- the numbers in `best`, by the sum of them

module _ (c : Case) (best : List ℤ) (l : Limited c) (room : scope_count c ≤ length best) where
  sum-asked : best_sum (rules_of c) c best ≡ sum_in_range (rules_of c) c (best_at best)
  unfolding best_sum
  sum-asked = rw (limits-hold c l, le-ltb (length best) (scope_count c) room)

  abbrev asked : Option Refusal
  asked = first_refusal (carry_test (rules_of c) c ∷ range_test (rules_of c) c (best_at best) ∷ [])

  abbrev summed : ℤ
  summed = sum (map (best_at best) (scopes c)) +ℤ c.carry

  module _ {z : ℤ} (e : Ok z ≡ best_sum (rules_of c) c best) where
    none-asked : asked ≡ None
    none-asked = unrefused asked summed (e ∙ sum-asked)

    pub all-working : AllWorking (rules_of c) c best
    all-working x h = ⊎_elim (λ t. t)
        (λ t.
        let f : ℕ → Bool = λ y. not (in_working (rules_of c) (best_at best y)) in
        let d : true ≡ false = found f (scope_count c) x h (is_true (f x) t) ∙ not-asked (carry_out (rules_of c) c) _ OutOfRange WeightOutOfRange none-asked in
        let u : ◌≡◌ {A = ℕ} 0 1 = cc in
        absurd (omega arith))
        (either (in_working (rules_of c) (best_at best x)))

    pub range-right : (w : List ℤ) (raised : List ℕ) (i : ℕ)
        → Ok (gap_below c w best raised i (scope_count c)) ≡ gap_in_range (rules_of c) c w best raised i
    range-right w raised i = sym (ap (λ (o : Option Refusal). answer_of o (gap_below c w best raised i (scope_count c))) none-asked)

  pub range-wrong : {x : Refusal} → Err x ≡ best_sum (rules_of c) c best
      → (w : List ℤ) (raised : List ℕ) (i : ℕ) → Err x ≡ gap_in_range (rules_of c) c w best raised i
  range-wrong e w raised i = refused-alike asked summed (gap_below c w best raised i (scope_count c)) (e ∙ sum-asked)

-- ---- lengths that are right
pub gap-lengths-known : (c : Case) (w best : List ℤ) (raised : List ℕ)
    → (not (eqb (length w) (lent_length (rules_of c) c)) || (ltb (length best) (scope_count c) || ltb (length raised) (scope_count c))) ≡ false
    → (length w ≡ lent_length (rules_of c) c) × (scope_count c ≤ length best) × (scope_count c ≤ length raised)
gap-lengths-known c w best raised e = let (l, (p, q)) = simp tests at e in (l, omega arith, omega arith)
