-- The working weights handed over in the middle of a join, step by step. Assumes nothing.
use Rattle.std.specs.Prelude.{Err, None}
use mathlib.Core.Path.{◌≡◌, refl, sym, ap, ◌∙◌}
use mathlib.Core.Bool.{Bool, true, false, not, ◌&&◌, ◌||◌}
use mathlib.Core.List.{List, [], ◌∷◌, ◌++◌}
use Prim.Native.Nat.{ℕ}
use lib.IntN.{ℤ}
use lib.Dec.{eqb}
use lib.ListN.{length}
use Rattle.integers.specs.Words.{any}
use Rattle.integers.specs.Tests.{is_true, eqb-iff}
use Rattle.definitions.specs.declared.Case.{Case}
use Rattle.definitions.specs.declared.Refusal.{Refusal}
use Rattle.definitions.specs.declared.Refusal.TheVariants.{WeightOutOfRange, ScopeBarred}
use Rattle.definitions.specs.Rules.{rules_of}
use Rattle.definitions.specs.Refusals.{Test, ◌when◌, first_refusal}
use Rattle.definitions.specs.Answers.{outcome_of}
use Rattle.definitions.specs.Case.{scopes, own_length, lent_length, wholly_barred}
use Rattle.definitions.specs.Valid.{working_weight, all_weights, zeros_from}
use Rattle.definitions.specs.Valid.{edge_tests, weight_test, scope_test, handed_over}
use Rattle.tables.specs.Scopes.{Limited}
use Rattle.tables.proofs.Order.{limits-hold, outcome-refused, first_next, first_stops}
use Rattle.joining.specs.Steps.{waiting_barred, working_tests}

-- ---- the order of the tests

scopes-then : (a s b : Bool)
    → first_refusal (WeightOutOfRange when a ∷ ScopeBarred when (s || b) ∷ [])
    ≡ first_refusal ((WeightOutOfRange when a ∷ ScopeBarred when s ∷ []) ++ (ScopeBarred when b ∷ []))
scopes-then true s b = refl
scopes-then false true b = refl
scopes-then false false b = refl

module _ (c : Case) (l : Limited c) where
  module _ (w₀ w : List ℤ) (p : ℕ) where
    -- ---- 8 of the working weights, then 15
    module _ (count : ℕ) (long : length w ≡ lent_length (rules_of c) c) (q : first_refusal (edge_tests (rules_of c) c false) ≡ None) where
      abbrev own : List Test
      own = weight_test (working_weight (rules_of c)) c w ∷ scope_test c w ∷ []

      working-is : first_refusal (handed_over (rules_of c) (working_weight (rules_of c)) c w false false) ≡ first_refusal own
      working-is = rw (limits-hold c l, is_true (eqb (length w) (lent_length (rules_of c) c)) ((eqb-iff (length w) (lent_length (rules_of c) c)).1 long))
          (first_next own (edge_tests (rules_of c) c false) q)

      working-split : first_refusal (working_tests (rules_of c) c w₀ w p count) ≡ first_refusal (own ++ (ScopeBarred when (waiting_barred c w₀ p count) ∷ []))
      working-split = scopes-then (not (all_weights (working_weight (rules_of c)) c w && zeros_from (own_length c) w))
          (any (wholly_barred c w) (scopes c)) (waiting_barred c w₀ p count)

      pub working-refused : {y : Refusal} → Err y ≡ outcome_of (first_refusal (handed_over (rules_of c) (working_weight (rules_of c)) c w false false))
          → Err y ≡ outcome_of (first_refusal (working_tests (rules_of c) c w₀ w p count))
      working-refused d = ap outcome_of (sym (working-split
          ∙ first_stops (ScopeBarred when (waiting_barred c w₀ p count) ∷ []) own (sym working-is ∙ outcome-refused d)))
