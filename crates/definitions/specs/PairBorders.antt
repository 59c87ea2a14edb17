-- Samples of pair rounds (document 02, change 1): P5 and P10's gain, pairs that are passed over, and runs with pair rounds before presses and
-- with pair rounds only. Assumes nothing.
use Rattle.std.specs.Prelude.{refl, true, false, [], ◌∷◌, ◌++◌, ℤ, pos, Ok, Err}
use Rattle.integers.specs.Words.{minus}
use Rattle.definitions.specs.declared.Refusal.TheVariants.{LeavesRange}
use Rattle.definitions.specs.declared.RunAnswer.TheVariants.{Settled, Limit}
use Rattle.definitions.specs.Rules.{standard}
use Rattle.definitions.specs.Moves.{shift}
use Rattle.definitions.specs.PairRounds.{pair_gain, pair_round, passed_over}
use Rattle.definitions.specs.Engine.{engine_next, pairs_next}
use Rattle.definitions.specs.Programs.{bytes_of}
use Rattle.definitions.specs.Samples.{Input, given, own_weights, triangle, couple, clash, example2, single, zeros}
use Rattle.definitions.specs.Borders.{◌is◌, Hold, W, l, clash_from, pressed, two_steps, pair_step, after_pair, press_step, after_press}
use Rattle.definitions.specs.Borders.{last_round, after_last, by_one, ran_by}

-- a table of two links and their pair, near the working range's border: the pair gains; its round leaves the range at end 0, and end 1
-- would bring it back
abbrev back_again : Input
back_again = couple (pos 2 ∷ minus 2 ∷ minus 3 ∷ pos 0 ∷ pos W ∷ zeros 3)

-- the pair is passed over until a press has lowered link 0
abbrev comes_back : Input
comes_back = couple (pos 1 ∷ minus W ∷ pos 0 ∷ pos 0 ∷ minus 2 ∷ minus 2 ∷ pos 0 ∷ minus 1 ∷ [])

-- edges (0,1), (1,2), both gain: the lower is passed over
abbrev higher_pair : Input
higher_pair =
    given 3 2 2 (0 ∷ 1 ∷ []) (1 ∷ 2 ∷ [])
    (pos 0 ∷ pos 0 ∷ minus 1 ∷ pos 0 ∷ pos 0 ∷ pos 0 ∷ pos 1 ∷ pos 0 ∷ minus W ∷ pos 0 ∷ pos 0 ∷ pos 1 ∷ pos 0 ∷ pos 0 ∷ [])

-- three pairs that gain, by 2, 3 and 1
abbrev three_gain : Input
three_gain =
    given 3 2 3 (0 ∷ 0 ∷ 1 ∷ []) (1 ∷ 2 ∷ 2 ∷ [])
    (minus 1 ∷ pos 0 ∷ pos 1 ∷ pos 0 ∷ minus 1 ∷ pos 2
    ∷ minus 1 ∷ pos 0 ∷ minus 4 ∷ minus 1 ∷ pos 0 ∷ minus 2 ∷ pos 0 ∷ minus 3 ∷ pos 0 ∷ minus 1 ∷ pos 0 ∷ pos 0 ∷ [])

-- D 3, with weights below 0 and 0
abbrev mixed : Input
mixed = given 2 3 1 (0 ∷ []) (1 ∷ []) (pos 0 ∷ pos 4 ∷ minus 1 ∷ pos 5 ∷ zeros 5 ++ (minus 3 ∷ zeros 5))

-- Pair rounds before presses, and pair rounds only. P10's pair does not gain: both sides are equal. With D 1 no pair gains; with m 0 there is none.
pub pair_runs :
    let ran = ran_by engine_next in
    let paired = ran_by pairs_next in
    let one : Input = given 2 1 1 (0 ∷ []) (1 ∷ []) (pos 5 ∷ minus 4 ∷ minus 9 ∷ []) in
    Hold
    -- a pair round, then a press; with limit 1; pairs alone
    (ran two_steps 5 is (Ok Settled, 2, after_press, pair_step ++ press_step) ∷ ran two_steps 1 is (Ok Limit, 1, after_pair, pair_step)
    ∷ paired two_steps 5 is (Ok Settled, 1, after_pair, pair_step) ∷ paired two_steps 1 is (Ok Settled, 1, after_pair, pair_step)
    ∷ paired two_steps 0 is (Ok Limit, 0, own_weights two_steps, [])
    -- the lowest pair that gains, whatever the gains; values upwards at both ends
    ∷ ran three_gain 5 is (
      Ok Settled,
      2,
      zeros 6 ++ (minus 1 ∷ minus 1 ∷ minus 3 ∷ minus 1 ∷ minus 1 ∷ pos 0 ∷ minus 1 ∷ minus 1 ∷ pos 0 ∷ minus 1 ∷ pos 0 ∷ pos 0 ∷ []),
      l 1 0 0 0 1 ++ bytes_of " 1   0   1   0          -1\n" ++ l 4 0 0 0 1
          ++ l 1 1 1 0 1 ++ bytes_of " 1   1   1   1          -2\n" ++ bytes_of " 4   0   0   0          -1\n",
    )
    -- a press is left, and no pair
    ∷ paired triangle 5 is (Ok Settled, 0, own_weights triangle, [])
    -- the range is asked at each shift
    ∷ ran back_again 5 is (
      Ok Settled,
      1,
      minus 1 ∷ minus 2 ∷ pos 0 ∷ pos 0 ∷ pos W ∷ pos 3 ∷ pos 3 ∷ pos 3 ∷ [],
      pressed (l 2 0 2 0 3) (1 ∷ 2 ∷ []) " 4   0   0   0   499999999\n",
    )
    ∷ paired back_again 5 is (Ok Settled, 0, own_weights back_again, [])
    -- passed over, and then a higher pair
    ∷ ran higher_pair 5 is (
      Ok Settled,
      1,
      zeros 6 ++ (pos 1 ∷ pos 0 ∷ minus W ∷ pos 0 ∷ minus 1 ∷ zeros 3),
      bytes_of " 1   1   0   0           1\n" ++ bytes_of " 4   0   0   0           1\n",
    )
    -- passed over, and then a press; in range again
    ∷ ran comes_back 5 is (
      Ok Settled,
      2,
      zeros 4 ++ (minus 1 ∷ minus 1 ∷ minus W ∷ minus W ∷ []),
      pressed (l 2 0 1 0 1) (2 ∷ []) " 4   0   0   0           0\n" ++ l 1 0 0 1 W ++ bytes_of " 4   0   0   0          -1\n",
    )
    ∷ ran comes_back 1 is (
      Ok Limit,
      1,
      pos 0 ∷ minus W ∷ pos 0 ∷ pos 0 ∷ minus 1 ∷ minus 1 ∷ pos 0 ∷ pos 0 ∷ [],
      pressed (l 2 0 1 0 1) (2 ∷ []) " 4   0   0   0           0\n",
    )
    ∷ paired comes_back 5 is (Ok Settled, 0, own_weights comes_back, [])
    -- passed over, a press, and then a press that leaves the range
    ∷ ran last_round 5 is (Err LeavesRange, 1, after_last, by_one) ∷ paired last_round 5 is (Ok Settled, 0, own_weights last_round, [])
    -- exactly at the range's border is inside
    ∷ ran (clash_from (pos W)) 5 is (
      Ok Settled,
      1,
      zeros 4 ++ (pos 499_999_999 ∷ pos W ∷ pos 2 ∷ pos 0 ∷ []),
      bytes_of " 1   0   0   0  -500000000\n" ++ bytes_of " 1   0   1   0          -2\n" ++ l 4 0 0 0 W,
    )
    -- a weight below 0 is shifted upwards; weights of 0 are left out
    ∷ ran mixed 5 is (
      Ok Settled,
      1,
      zeros 6 ++ (pos 5 ∷ pos 0 ∷ pos 0 ∷ pos 6 ∷ pos 4 ∷ pos 4 ∷ pos 4 ∷ minus 1 ∷ minus 1 ∷ []),
      bytes_of " 1   0   0   1          -4\n" ++ l 1 0 0 2 1 ++ bytes_of " 1   0   1   0          -5\n" ++ l 4 0 0 0 6,
    )
    -- nothing gains
    ∷ ran one 5 is (Ok Settled, 0, own_weights one, []) ∷ ran example2 5 is (Ok Settled, 0, own_weights example2, []) ∷ paired single 5 is (Ok Settled, 0, own_weights single, [])
    ∷ [])
pair_runs = refl

-- the gain: 2 in P5, 0 in P10; what is passed over
pub pair-gains :
    let gain : Input → ℤ = λ i. pair_gain i.case i.weights 0 in
    Hold (gain clash is pos 2 ∷ gain example2 is pos 0 ∷ gain triangle is pos 0 ∷ gain back_again is pos 3 ∷ gain comes_back is pos 2 ∷ [])
    × Hold
    (passed_over standard clash.case clash.weights 0 is false ∷ passed_over standard back_again.case back_again.weights 0 is true
    ∷ passed_over standard comes_back.case comes_back.weights 0 is true ∷ [])
    × Hold
    (pair_round clash.case clash.weights 0 is (shift 0 0 0 (minus 2) ∷ shift 0 1 0 (minus 2) ∷ [])
    ∷ pair_round back_again.case back_again.weights 0 is (shift 0 0 0 (minus 2) ∷ shift 0 0 1 (pos 2) ∷ shift 0 1 0 (pos 3) ∷ []) ∷ [])
pair-gains = (refl, refl, refl)
