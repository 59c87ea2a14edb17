-- The closed form of a pair's round, for the code. The round leaves the working range at some shift just where some tuple of its edge that is not
-- barred does so with all values of end 0 shifted, or with all of both ends (pair_theory, Passing.after-pair); where it stays in the range it
-- lowers the upper bound just where each such tuple ends below the three greatest weights (Passing.lowers-is). Assumes nothing.
use Rattle.std.specs.Prelude.{Bool, not, ◌&&◌, ◌||◌, List, ℕ, ◌+◌, ℤ, pos, ◌+ℤ◌, if◌then◌else◌}
use Rattle.std.specs.Int.Signed.{lt_z}
use Rattle.integers.specs.Words.{all, any}
use Rattle.definitions.specs.declared.Case.{Case}
use Rattle.definitions.specs.Rules.{Rules}
use Rattle.definitions.specs.Case.{values, lower_end, upper_end, weight, barred}
use Rattle.definitions.specs.Valid.{in_working}
use Rattle.definitions.specs.PairRounds.{three_greatest}

-- what the round shifts of value k of variable i
abbrev pub shifted : Case → List ℤ → ℕ → ℕ → ℤ
shifted c w i k = if barred c w i k 0 then pos 0 else weight c w i k 0

-- the weight of tuple (k, l) of edge e with end 0 shifted, and with both ends
abbrev pub lower_at : Case → List ℤ → ℕ → ℕ → ℕ → ℤ
lower_at c w e k l = weight c w (c.n + e) k l +ℤ shifted c w (lower_end c e) k

abbrev pub both_at : Case → List ℤ → ℕ → ℕ → ℕ → ℤ
both_at c w e k l = (shifted c w (lower_end c e) k +ℤ shifted c w (upper_end c e) l) +ℤ weight c w (c.n + e) k l

-- one of them is outside the range of working weights
abbrev pub tuple_leaves : Rules → Case → List ℤ → ℕ → ℕ → ℕ → Bool
tuple_leaves r c w e k l = not (barred c w (c.n + e) k l) && not (in_working r (lower_at c w e k l) && in_working r (both_at c w e k l))

abbrev pub pair_leaves : Rules → Case → List ℤ → ℕ → Bool
pair_leaves r c w e = any (λ k. any (tuple_leaves r c w e k) (values c)) (values c)

-- the three greatest weights pass it
abbrev pub tuple_lowers : Case → List ℤ → ℕ → ℕ → ℕ → Bool
tuple_lowers c w e k l = barred c w (c.n + e) k l || lt_z (both_at c w e k l) (three_greatest c w e)

abbrev pub pair_lowers : Case → List ℤ → ℕ → Bool
pair_lowers c w e = all (λ k. all (tuple_lowers c w e k) (values c)) (values c)
