-- Document 02, change 1: pair rounds; change 2: they read and shift unbarred weights only. Assumes nothing.
use Rattle.std.specs.Prelude.{Bool, false, not, ◌&&◌, ◌||◌, List, [], ◌∷◌, ◌++◌, map, ℕ, ◌+◌, ◌<◌, ℤ, pos, neg_ℤ, ◌+ℤ◌, ◌-ℤ◌, T, ◌<ℤ◌, if◌then◌else◌, Option, Some, None}
use Rattle.std.specs.Int.Signed.{lt_z}
use Rattle.integers.specs.Words.{below, any, those, first, joined, eq_z, greatest_of}
use Rattle.definitions.specs.declared.Case.{Case}
use Rattle.definitions.specs.Rules.{Rules}
use Rattle.definitions.specs.Case.{values, lower_end, upper_end, each_tuple, weight, greatest, upper_bound, is_barred, barred}
use Rattle.definitions.specs.Moves.{Move, shift, end_variable, after_moves}

-- the three weights, of edge e and of both its variables, at values k and l, added up; and the three greatest weights
abbrev pub three_at : Case → List ℤ → ℕ → ℕ → ℕ → ℤ
three_at c w e k l = (weight c w (lower_end c e) k 0 +ℤ weight c w (upper_end c e) l 0) +ℤ weight c w (c.n + e) k l

abbrev pub three_greatest : Case → List ℤ → ℕ → ℤ
three_greatest c w e = (greatest c w (lower_end c e) +ℤ greatest c w (upper_end c e)) +ℤ greatest c w (c.n + e)

-- values k and l are a choice if none of the three is barred
abbrev pub is_choice : Case → List ℤ → ℕ → ℕ → ℕ → Bool
is_choice c w e k l = not (barred c w (lower_end c e) k 0) && (not (barred c w (upper_end c e) l 0) && not (barred c w (c.n + e) k l))

abbrev pub some_choice : Case → List ℤ → ℕ → Bool
some_choice c w e = any (λ b. b) (each_tuple c (c.n + e) (is_choice c w e))

-- the best total of the three over any choice of (k, l); a pair with no choice is passed over
abbrev pub choice_totals : Case → List ℤ → ℕ → List ℤ
choice_totals c w e = joined (each_tuple c (c.n + e) (λ k l. if is_choice c w e k l then three_at c w e k l ∷ [] else []))

abbrev pub best_of_three : Case → List ℤ → ℕ → ℤ
best_of_three c w e = greatest_of (choice_totals c w e)

-- by how much the three greatest weights pass it
abbrev pub pair_gain : Case → List ℤ → ℕ → ℤ
pair_gain c w e = three_greatest c w e -ℤ best_of_three c w e

-- the three greatest weights add up to more than the best total
abbrev pub gains : Case → List ℤ → ℕ → Bool
gains c w e = lt_z (pos 0) (pair_gain c w e)

-- The pair's round: shift the whole weight of each value of its variables into the edge, end 0 first, values upwards, weights of 0 and barred
-- values left out. A shift by a adds a to the value, so that a is minus its weight.
abbrev pub whole_shift : Case → List ℤ → ℕ → ℕ → ℕ → List Move
whole_shift c w e end v =
    let z = weight c w (end_variable c e end) v 0 in
    if is_barred z || eq_z z (pos 0) then [] else shift e end v (neg_ℤ z) ∷ []

abbrev pub end_shifts : Case → List ℤ → ℕ → ℕ → List Move
end_shifts c w e end = joined (map (whole_shift c w e end) (values c))

abbrev pub pair_round : Case → List ℤ → ℕ → List Move
pair_round c w e = end_shifts c w e 0 ++ end_shifts c w e 1

-- the table after the round is there, and has a lower upper bound
abbrev pub lowers_bound : Case → List ℤ → Option (List ℤ) → Bool
lowers_bound c w None = false
lowers_bound c w (Some v) = lt_z (upper_bound c v) (upper_bound c w)

-- the pair is passed over if it has no choice, or if its round would leave the working range at any shift or would not lower the upper bound
abbrev pub passed_over : Rules → Case → List ℤ → ℕ → Bool
passed_over r c w e = not (some_choice c w e) || not (lowers_bound c w (after_moves r c (pair_round c w e) w))

-- the lowest pair that gains and is not passed over
abbrev pub lowest_pair : Rules → Case → List ℤ → Option ℕ
lowest_pair r c w = first (those (λ e. gains c w e && not (passed_over r c w e)) (below c.m))

-- `gains` without an algorithm, of a pair that has a choice (pair_theory, Gains.gains-iff)
abbrev pub Gains : Case → List ℤ → ℕ → Type 0
Gains c w e = (k l : ℕ) → k < c.d → l < c.d → T (is_choice c w e k l) → three_at c w e k l <ℤ three_greatest c w e

-- no pair that gains is left but passed-over ones (pair_theory, Gains.pairs-settled-iff)
abbrev pub PairsSettled : Rules → Case → List ℤ → Type 0
PairsSettled r c w = (e : ℕ) → e < c.m → Gains c w e → T (passed_over r c w e)
