-- Samples of the engine on cases with barred tuples (document 02, change 2): pair rounds, gaps, trims, void lines, runs at their limit, what
-- `press` prints. Assumes nothing.
use Rattle.std.specs.Prelude.{refl, Bool, true, false, List, [], ◌∷◌, ◌++◌, ℕ, ℤ, pos, replicate, Ok, Err}
use Rattle.integers.specs.Words.{joined, minus}
use Rattle.definitions.specs.declared.Refusal.TheVariants.{LeavesRange}
use Rattle.definitions.specs.declared.RunAnswer.TheVariants.{Settled, Limit, Void}
use Rattle.definitions.specs.Rules.{standard}
use Rattle.definitions.specs.Moves.{shift}
use Rattle.definitions.specs.PairRounds.{some_choice, pair_gain, gains, pair_round, passed_over}
use Rattle.definitions.specs.Lines.{line, line_text}
use Rattle.definitions.specs.Engine.{engine_next, pairs_next, presses_next}
use Rattle.definitions.specs.Programs.{bytes_of}
use Rattle.definitions.specs.Samples.{Input, given, own_weights, couple, example2, zeros}
use Rattle.definitions.specs.Borders.{◌is◌, Hold, W, l, pressed, ran_by}
use Rattle.definitions.specs.BarredBorders.{B, locked, patchy, no_partner, void_lines}

-- ---- cases

-- P1's triangle with equal values barred: no plan is lawful, and no pair gains; the same over links 1 to 3, and link 0 has no pair
abbrev unequal : List ℤ
unequal = joined (replicate 3 (B ∷ pos 0 ∷ pos 0 ∷ B ∷ []))

abbrev strict : Input
strict = given 3 2 3 (0 ∷ 0 ∷ 1 ∷ []) (1 ∷ 2 ∷ 2 ∷ []) (zeros 6 ++ unequal)

abbrev four_strict : Input
four_strict = given 4 2 3 (1 ∷ 1 ∷ 2 ∷ []) (2 ∷ 3 ∷ 3 ∷ []) (zeros 8 ++ unequal)

-- Three links. The pair (0,1) gains. In `late` a void line is possible after its round only, when all values of link 0 are active; in
-- `waiting` before it too, and the other value of link 0 is barred.
abbrev pub late : Input
late =
    given 3 2 2 (0 ∷ 0 ∷ []) (1 ∷ 2 ∷ [])
    (pos 2 ∷ pos 0 ∷ pos 2 ∷ pos 0 ∷ pos 0 ∷ B ∷ minus 3 ∷ zeros 3 ++ (B ∷ pos 0 ∷ B ∷ pos 0 ∷ []))

abbrev waiting : Input
waiting =
    given 3 2 2 (0 ∷ 0 ∷ []) (1 ∷ 2 ∷ [])
    (pos 2 ∷ B ∷ pos 2 ∷ zeros 3 ++ (minus 3 ∷ pos 0 ∷ minus 9 ∷ minus 9 ∷ B ∷ B ∷ zeros 2))

-- (0,0) is the one choice. The tuple (1,0), whose value 1 is barred at link 0, keeps the upper bound where it is in the round, in `rises` it
-- raises it; in `unmoved` no value has a weight to shift
abbrev not_lower : Input
not_lower = couple (pos 0 ∷ B ∷ pos 1 ∷ B ∷ pos 1 ∷ pos 1 ∷ pos 4 ∷ pos 4 ∷ [])

abbrev rises : Input
rises = couple (minus 3 ∷ B ∷ zeros 4 ++ (pos 4 ∷ pos 4 ∷ []))

abbrev unmoved : Input
unmoved = couple (pos 0 ∷ B ∷ pos 0 ∷ B ∷ pos 1 ∷ pos 1 ∷ pos 4 ∷ pos 4 ∷ [])

-- no choice, though the round would lower the upper bound: by all three scopes, and with no value barred at link 0
abbrev no_choice : Input
no_choice = couple (pos 2 ∷ B ∷ pos 2 ∷ B ∷ B ∷ zeros 3)

abbrev none_below : Input
none_below = couple (zeros 2 ++ (pos 2 ∷ B ∷ B ∷ pos 0 ∷ B ∷ pos 0 ∷ []))

-- pairs (0,1), (1,2): the higher one gains; the lower one has no choice, or its round would not lower the upper bound
abbrev chain : List ℤ → List ℤ → Input
chain links pair = given 3 2 2 (0 ∷ 1 ∷ []) (1 ∷ 2 ∷ []) (links ++ (pos 2 ∷ pos 0 ∷ pair) ++ (minus 3 ∷ pos 0 ∷ minus 9 ∷ minus 9 ∷ []))

abbrev pub over_no_choice : Input
over_no_choice = chain (pos 2 ∷ B ∷ pos 2 ∷ B ∷ []) (B ∷ zeros 3)

abbrev pub over_not_lower : Input
over_not_lower = chain (pos 0 ∷ B ∷ pos 0 ∷ B ∷ []) (pos 1 ∷ pos 1 ∷ pos 4 ∷ pos 4 ∷ [])

-- a working table: the press would take the only value of link 0 below the range, and the round would raise the upper bound
abbrev pub at_border : Input
at_border = couple (minus W ∷ B ∷ zeros 2 ++ (pos 4 ∷ B ∷ pos 3 ∷ pos 5 ∷ []))

-- working weights so far apart that a barred tuple's number and two of them add up to more than the one choice
abbrev apart : Input
apart = couple (minus W ∷ B ∷ minus W ∷ pos W ∷ minus W ∷ B ∷ B ∷ pos W ∷ [])

-- ---- pairs

pub pairs :
    let choice : Input → Bool = λ i. some_choice i.case i.weights 0 in
    let gaining : Input → Bool = λ i. gains i.case i.weights 0 in
    let passed : Input → Bool = λ i. passed_over standard i.case i.weights 0 in
    let gain : Input → ℤ = λ i. pair_gain i.case i.weights 0 in
    Hold
    ( -- no choice; of the second and third only the tuples whose value is barred at a link are not barred in the pair
    choice locked is false ∷ choice no_choice is false ∷ choice (no_partner (pos 0)) is false ∷ choice none_below is false
    ∷ passed locked is true ∷ passed no_choice is true ∷ passed (no_partner (pos 0)) is true ∷ passed none_below is true
    ∷ choice patchy is true ∷ gaining patchy is true ∷ passed patchy is false
    -- the three greatest weights add up to more, and the round would not lower the upper bound
    ∷ choice not_lower is true ∷ gaining not_lower is true ∷ passed not_lower is true
    ∷ choice rises is true ∷ gaining rises is true ∷ passed rises is true
    ∷ choice unmoved is true ∷ gaining unmoved is true ∷ passed unmoved is true
    -- no pair gains by 0
    ∷ gaining example2 is false ∷ gaining strict is false ∷ choice strict is true
    ∷ [])
    -- the best total is that of a choice
    × Hold (gain patchy is pos 5 ∷ gain not_lower is pos 3 ∷ gain rises is pos 4 ∷ gain strict is pos 0 ∷ gain apart is pos 2_000_000_000 ∷ [])
    -- barred values are left out
    × Hold
    (pair_round patchy.case patchy.weights 0 is (shift 0 0 0 (minus 3) ∷ shift 0 1 0 (minus 1) ∷ [])
    ∷ pair_round locked.case locked.weights 0 is (shift 0 0 0 (minus 2) ∷ [])
    ∷ pair_round not_lower.case not_lower.weights 0 is (shift 0 1 0 (minus 1) ∷ []) ∷ pair_round unmoved.case unmoved.weights 0 is []
    ∷ [])
pairs = (refl, refl, refl)

-- ---- runs

abbrev pub void_of : ℕ → List ℕ → List ℕ
void_of i scopes = joined (void_lines i scopes)

-- the round of a pair that shifts value 0 of both ends by −2
abbrev pub by_twos : ℕ → ℕ → List ℕ
by_twos e bound =
    let by : ℕ → List ℕ = λ end. line_text 12 (line 1 (pos e) (pos end) (pos 0) (minus 2)) in
    by 0 ++ by 1 ++ l 4 0 0 0 bound

abbrev pub after_late : List ℤ
after_late = zeros 5 ++ (B ∷ pos 1 ∷ pos 2 ∷ pos 2 ∷ pos 0 ∷ B ∷ pos 0 ∷ B ∷ pos 0 ∷ [])

pub runs :
    let ran = ran_by engine_next in
    let paired = ran_by pairs_next in
    let pair_one : List ℕ =
    bytes_of " 1   0   0   0          -3\n" ++ bytes_of " 1   0   1   0          -1\n" ++ l 4 0 0 0 5
    in
    let after_one : List ℤ = pos 0 ∷ B ∷ zeros 2 ++ (pos 4 ∷ B ∷ pos 3 ∷ pos 5 ∷ []) in
    Hold
    ( -- a pair round, and then a press whose gap is not taken against a barred tuple of the pair or of the link
    ran patchy 5 is (
      Ok Settled,
      2,
      minus 1 ∷ B ∷ zeros 2 ++ (pos 5 ∷ B ∷ pos 4 ∷ pos 5 ∷ []),
      pair_one ++ pressed (l 2 0 1 0 1) (2 ∷ []) " 4   0   0   0           4\n",
    )
    ∷ ran patchy 1 is (Ok Limit, 1, after_one, pair_one) ∷ paired patchy 5 is (Ok Settled, 1, after_one, pair_one)
    ∷ ran patchy 0 is (Ok Limit, 0, own_weights patchy, [])
    -- a void line: no round, at any limit; the weights stay; runs of pair rounds only write none
    ∷ ran locked 5 is (Ok Void, 0, own_weights locked, void_of 0 (1 ∷ 2 ∷ []))
    ∷ ran locked 1 is (Ok Void, 0, own_weights locked, void_of 0 (1 ∷ 2 ∷ []))
    ∷ ran locked 0 is (Ok Void, 0, own_weights locked, void_of 0 (1 ∷ 2 ∷ []))
    ∷ paired locked 5 is (Ok Settled, 0, own_weights locked, []) ∷ paired locked 0 is (Ok Settled, 0, own_weights locked, [])
    ∷ ran strict 0 is (Ok Void, 0, own_weights strict, void_of 0 (3 ∷ 4 ∷ 5 ∷ []))
    -- of the lowest link that is refuted
    ∷ ran four_strict 5 is (Ok Void, 0, own_weights four_strict, void_of 1 (4 ∷ 5 ∷ 6 ∷ []))
    -- Link 1 is dropped, also where it has a barred value or one that sets a gap. In `locked` it is kept: its barred value is allowed without.
    ∷ ran (no_partner (pos 0)) 1 is (Ok Void, 0, own_weights (no_partner (pos 0)), void_of 0 (2 ∷ []))
    ∷ ran (no_partner B) 1 is (Ok Void, 0, own_weights (no_partner B), void_of 0 (2 ∷ []))
    ∷ ran (no_partner (minus 1)) 1 is (Ok Void, 0, own_weights (no_partner (minus 1)), void_of 0 (2 ∷ []))
    -- no choice, and the round would lower the upper bound
    ∷ ran no_choice 5 is (Ok Void, 0, own_weights no_choice, void_of 0 (1 ∷ 2 ∷ [])) ∷ paired no_choice 5 is (Ok Settled, 0, own_weights no_choice, [])
    ∷ ran none_below 5 is (Ok Void, 0, own_weights none_below, void_of 0 (1 ∷ 2 ∷ [])) ∷ paired none_below 5 is (Ok Settled, 0, own_weights none_below, [])
    -- the round would not lower the upper bound, and then a press
    ∷ ran not_lower 5 is (
      Ok Settled,
      1,
      minus 3 ∷ B ∷ pos 1 ∷ B ∷ replicate 4 (pos 4),
      pressed (l 2 0 1 0 3) (2 ∷ []) " 4   0   0   0           2\n",
    )
    ∷ paired not_lower 5 is (Ok Settled, 0, own_weights not_lower, []) ∷ paired rises 5 is (Ok Settled, 0, own_weights rises, [])
    ∷ ran rises 5 is (Ok Settled, 1, minus 7 ∷ B ∷ zeros 2 ++ replicate 4 (pos 4), pressed (l 2 0 1 0 4) (2 ∷ []) " 4   0   0   0          -3\n")
    -- 11; at the limit it is not met
    ∷ ran at_border 5 is (Err LeavesRange, 0, own_weights at_border, []) ∷ ran at_border 0 is (Ok Limit, 0, own_weights at_border, [])
    ∷ paired at_border 5 is (Ok Settled, 0, own_weights at_border, [])
    -- the pair leaves the range
    ∷ ran apart 5 is (Err LeavesRange, 0, own_weights apart, []) ∷ paired apart 5 is (Ok Settled, 0, own_weights apart, [])
    ∷ [])
runs = refl

-- Void after rounds, with their number. At the limit a pair round that comes first answers limit, whether a void line is possible before it
-- (`waiting`: by presses alone it comes at once) or not.
pub late-voids :
    let ran = ran_by engine_next in
    let paired = ran_by pairs_next in
    let after_waiting : List ℤ = pos 0 ∷ B ∷ zeros 4 ++ (pos 1 ∷ pos 2 ∷ minus 7 ∷ minus 9 ∷ B ∷ B ∷ zeros 2) in
    let after_pair : List ℤ = pos 2 ∷ B ∷ pos 0 ∷ B ∷ zeros 2 ++ (B ∷ zeros 3 ++ (pos 1 ∷ pos 2 ∷ minus 7 ∷ minus 9 ∷ [])) in
    let after_lower : List ℤ = pos 0 ∷ B ∷ pos 0 ∷ B ∷ zeros 2 ++ (pos 1 ∷ pos 1 ∷ pos 4 ∷ pos 4 ∷ minus 1 ∷ pos 0 ∷ minus 7 ∷ minus 9 ∷ []) in
    let higher : List ℕ = bytes_of " 1   1   1   0          -2\n" ++ l 4 0 0 0 4 in
    Hold
    (ran late 5 is (Ok Void, 1, after_late, by_twos 0 2 ++ void_of 0 (2 ∷ 4 ∷ [])) ∷ ran late 1 is (Ok Void, 1, after_late, by_twos 0 2 ++ void_of 0 (2 ∷ 4 ∷ []))
    ∷ ran late 0 is (Ok Limit, 0, own_weights late, []) ∷ paired late 5 is (Ok Settled, 1, after_late, by_twos 0 2) ∷ paired late 1 is (Ok Settled, 1, after_late, by_twos 0 2)
    ∷ ran waiting 5 is (Ok Void, 1, after_waiting, by_twos 0 2 ++ void_of 0 (4 ∷ [])) ∷ ran waiting 1 is (Ok Void, 1, after_waiting, by_twos 0 2 ++ void_of 0 (4 ∷ []))
    ∷ ran waiting 0 is (Ok Limit, 0, own_weights waiting, []) ∷ paired waiting 5 is (Ok Settled, 1, after_waiting, by_twos 0 2)
    ∷ ran_by presses_next waiting 0 is (Ok Void, 0, own_weights waiting, void_of 0 (4 ∷ []))
    -- The pair (0,1) is passed over, and then a higher pair. Of the presses scope 1 is dropped, though value 1 of link 1 is barred; of the void
    -- line it is kept: the higher pair no longer closes that value, which is allowed where scope 1 is not raised.
    ∷ ran over_no_choice 5 is (
      Ok Void,
      3,
      minus 7 ∷ B ∷ pos 0 ∷ B ∷ zeros 2 ++ (B ∷ zeros 3 ++ (pos 2 ∷ pos 2 ∷ pos 2 ∷ pos 0 ∷ [])),
      by_twos 1 4 ++ pressed (l 2 0 2 0 1) (3 ∷ 4 ∷ []) " 4   0   0   0           3\n"
          ++ pressed (l 2 0 2 0 8) (3 ∷ 4 ∷ []) " 4   0   0   0          -5\n" ++ void_of 0 (1 ∷ 3 ∷ []),
    )
    ∷ ran over_no_choice 1 is (Ok Limit, 1, after_pair, by_twos 1 4) ∷ paired over_no_choice 5 is (Ok Settled, 1, after_pair, by_twos 1 4)
    ∷ ran over_not_lower 5 is (
      Ok Settled,
      2,
      minus 3 ∷ B ∷ pos 0 ∷ B ∷ zeros 2 ++ (replicate 4 (pos 4) ++ (minus 1 ∷ pos 0 ∷ minus 7 ∷ minus 9 ∷ [])),
      higher ++ pressed (l 2 0 1 0 3) (3 ∷ []) " 4   0   0   0           1\n",
    )
    ∷ paired over_not_lower 5 is (Ok Settled, 1, after_lower, higher)
    ∷ [])
late-voids = refl

-- Presses alone, with D 3: the gap of the pressed link's own scope and of a kept link's, each with a barred value beside the one that sets it.
pub gaps :
    let ran = ran_by presses_next in
    let own_gap : ℕ → Input = λ z. given 2 3 1 (0 ∷ []) (1 ∷ []) (pos z ∷ B ∷ pos 3 ∷ zeros 3 ++ (B ∷ B ∷ B ∷ zeros 6)) in
    let kept_gap : ℤ → ℕ → Input =
    λ a z. given 2 3 1 (0 ∷ []) (1 ∷ []) (replicate 3 a ++ (pos 5 ∷ B ∷ pos z ∷ joined (replicate 3 (B ∷ zeros 2))))
    in
    Hold
    (ran (own_gap 5) 5 is (Ok Settled, 1, own_weights (own_gap 3), pressed (l 2 0 1 0 2) (2 ∷ []) " 4   0   0   0           3\n")
    ∷ ran (kept_gap (pos 0) 3) 5 is (Ok Settled, 1, own_weights (kept_gap (minus 2) 5), pressed (l 2 0 2 0 2) (1 ∷ 2 ∷ []) " 4   0   0   0           3\n")
    ∷ [])
gaps = refl
