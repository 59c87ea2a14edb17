-- Starting weights and working weights that are lent together: what is asked of both at a place, and of the starting weights. Assumes nothing.
use Rattle.std.specs.Prelude.{Bool, not, ◌&&◌, List, [], ◌∷◌, ℕ, ℤ, pos, get_or}
use Rattle.integers.specs.Words.{◌⇒◌}
use Rattle.definitions.specs.declared.Case.{Case}
use Rattle.definitions.specs.declared.Refusal.TheVariants.{WeightOutOfRange}
use Rattle.definitions.specs.Rules.{Rules}
use Rattle.definitions.specs.Refusals.{Test, ◌when◌}
use Rattle.definitions.specs.Case.{own_length, is_barred}
use Rattle.definitions.specs.Valid.{all_weights, zeros_from, same_bars, both_weights, scope_test}
use Rattle.tables.specs.Scopes.{holdable}

-- the first may be held, and both are barred or neither is
abbrev pub paired : ℤ → ℤ → ℤ → ℤ → Bool
paired low high a b = holdable low high a && ((is_barred a ⇒ is_barred b) && (is_barred b ⇒ is_barred a))

abbrev pub paired_at : ℤ → ℤ → List ℤ → List ℤ → ℕ → Bool
paired_at low high w₀ w p = paired low high (get_or w₀ p (pos 0)) (get_or w p (pos 0))

-- what number 8 asks of the starting weights
abbrev pub is_first : ℤ → ℤ → Case → List ℤ → List ℤ → Bool
is_first low high c w₀ w = all_weights (holdable low high) c w₀ && zeros_from (own_length c) w₀ && same_bars c w₀ w

-- 8 and 15, of tables of the right length
abbrev pub both_tests : Rules → Case → List ℤ → List ℤ → List Test
both_tests r c w₀ w = WeightOutOfRange when (not (both_weights r c w₀ w)) ∷ scope_test c w ∷ []
