-- Samples of the calls on tables that are not 0 past the case's own places, and on cases with a carry (document 02, change 5), in tables as those
-- of Borders. Assumes nothing.
use Rattle.std.specs.Prelude.{refl, List, [], ◌∷◌, ◌++◌, ℕ, ℤ, pos, replicate}
use Prim.Native.String.{String}
use Rattle.integers.specs.Words.{minus, bits_of}
use Rattle.definitions.specs.Rules.{standard}
use Rattle.definitions.specs.Answers.{Says, outcome_says, figure_says, verdict_says, written_says, round_says, run_says}
use Rattle.definitions.specs.CaseFiles.{case_text}
use Rattle.definitions.specs.Engine.{engine_next, pairs_next}
use Rattle.definitions.specs.Programs.{bytes_of}
use Rattle.definitions.specs.Samples.{Input, full, given, with_table, own_weights, triangle, couple, clash, single, zeros}
use Rattle.definitions.specs.Borders.{◌is◌, Hold, says, no, value, W, edges, l, ones, triangle_from, two_steps, pressed, after_pair, after_press}
use Rattle.definitions.specs.BarredBorders.{B, locked}
use Rattle.definitions.specs.BarredRuns.{void_of}
use Rattle.definitions.specs.LengthBorders.{put_at, carrying, C, C1, crowd}
use Rattle.calls.specs.Calls.{TableCall, WriteCall, FamilyCall, objective_answer, upper_bound_answer, is_active_answer, refuted_answer}
use Rattle.calls.specs.Calls.{supported_value_call, is_acyclic_answer, shift_call, press_call, write_case_call}
use Rattle.calls.specs.EngineCalls.{RoundCall, RunCall, round_call, run_call}

-- ---- cases: P4's, each of its own places as it was

-- 1 at the first place past its own, −1 and a bar at the last of all; its own places alone
abbrev next : Input
next = put_at 8 (pos 1) clash

abbrev last : Input
last = put_at 479 (minus 1) clash

abbrev barred_last : Input
barred_last = put_at 479 B clash

abbrev short : Input
short = with_table clash (own_weights clash)

-- a carry in its range, and out of it on either side; out of it over a table that is not 0 past the own places
abbrev five : Input
five = carrying (pos 5) clash

abbrev above : Input
above = carrying (pos C1) clash

abbrev below : Input
below = carrying (minus C1) clash

abbrev above_next : Input
above_next = carrying (pos C1) next

-- ---- totals and refutation

pub figures :
    let total : Input → List ℕ → Says = λ i p. figure_says (objective_answer standard i.case i.weights p) in
    let bound : Input → Says = λ i. figure_says (upper_bound_answer standard i.case i.weights) in
    let active : Input → Says = λ i. verdict_says (is_active_answer standard i.case i.weights 2 1 1) in
    let refuted : Input → Says = λ i. verdict_says (refuted_answer standard i.case i.weights (0 ∷ 1 ∷ 1 ∷ []) 0 0) in
    Hold
    ( -- the carry counts in the upper bound
    bound clash is value (pos 4) ∷ bound five is value (pos 9) ∷ bound (carrying (minus 5) clash) is value (minus 1)
    ∷ bound (carrying (pos C) clash) is value (pos 20_000_000_004) ∷ bound (carrying (minus C) clash) is value (minus 19_999_999_996)
    ∷ bound (carrying (pos C) (put_at 0 (pos W) clash)) is value (pos 20_500_000_002)
    -- 5, before 8; 8; 4
    ∷ bound above is no 5 ∷ bound below is no 5 ∷ bound above_next is no 5 ∷ bound next is no 8 ∷ bound last is no 8 ∷ bound barred_last is no 8
    ∷ bound short is no 4 ∷ bound (carrying (pos C1) short) is no 4 ∷ bound (put_at 143 (pos 1) (crowd 96)) is value (pos 1)
    -- not in a total
    ∷ total clash (0 ∷ 0 ∷ []) is value (pos 1) ∷ total five (0 ∷ 0 ∷ []) is value (pos 1) ∷ total (carrying (minus C) clash) (0 ∷ 0 ∷ []) is value (pos 1)
    ∷ total above (0 ∷ 0 ∷ []) is no 5 ∷ total below (0 ∷ 0 ∷ []) is no 5 ∷ total next (0 ∷ 0 ∷ []) is no 8 ∷ total last (0 ∷ 0 ∷ []) is no 8
    ∷ total barred_last (0 ∷ 0 ∷ []) is no 8 ∷ total next (0 ∷ 2 ∷ []) is no 5 ∷ total above (0 ∷ []) is no 4 ∷ total short (0 ∷ 0 ∷ []) is no 4
    -- nor in what is active or refuted
    ∷ active five is value (pos 1) ∷ active above is no 5 ∷ active next is no 8 ∷ active last is no 8 ∷ active short is no 4
    ∷ refuted clash is value (pos 1) ∷ refuted five is value (pos 1) ∷ refuted (carrying (minus 5) clash) is value (pos 1) ∷ refuted above is no 5
    ∷ refuted below is no 5 ∷ refuted next is no 8 ∷ refuted last is no 8 ∷ refuted barred_last is no 8 ∷ refuted short is no 4
    ∷ [])
unfolding objective_answer upper_bound_answer is_active_answer refuted_answer
figures = refl

-- no table is asked, and a carry is: 5 after 3 and before 6
pub acyclic :
    let asked : Input → Says = λ i. verdict_says (is_acyclic_answer standard i.case) in
    Hold
    (asked five is value (pos 1) ∷ asked (carrying (minus C) clash) is value (pos 1) ∷ asked (carrying (pos C) triangle) is value (pos 0)
    ∷ asked above is no 5 ∷ asked below is no 5 ∷ asked (carrying (pos C1) triangle) is no 5 ∷ asked next is value (pos 1) ∷ asked short is value (pos 1)
    ∷ asked (carrying (pos C1) (given 49 1 0 [] [] [])) is no 3 ∷ asked (carrying (minus C1) (given 1 9 0 [] [] [])) is no 3
    ∷ asked (carrying (pos C1) (edges 1 1 0 [])) is no 5 ∷ asked (carrying (pos C) (edges 1 1 0 [])) is no 6 ∷ asked (carrying (pos C1) (edges 2 0 1 [])) is no 5
    ∷ [])
unfolding is_acyclic_answer
acyclic = refl

-- ---- moves: the number and the whole table; refused, nothing changes, past the own places neither

pub moves :
    let told : TableCall → ℕ × List ℤ = λ q. ((outcome_says q.answer).number, q.table) in
    let pressed : Input → ℕ × List ℤ = λ i. told (press_call standard i.case i.weights 0 (1 ∷ 2 ∷ []) (pos 2)) in
    let shifted : Input → ℕ × List ℤ = λ i. told (shift_call standard i.case i.weights 0 0 0 (minus 2)) in
    let same : Input → ℕ → ℕ × List ℤ = λ i n. (n, i.weights) in
    let after_press : ℕ × List ℤ = (0, full 2 (pos 0 ∷ pos 0 ∷ pos 2 ∷ pos 2 ∷ minus 1 ∷ zeros 3)) in
    let after_shift : ℕ × List ℤ = (0, full 2 (pos 0 ∷ pos 0 ∷ pos 2 ∷ pos 0 ∷ minus 1 ∷ pos 2 ∷ zeros 2)) in
    Hold
    (pressed clash is after_press ∷ pressed five is after_press ∷ pressed (carrying (minus C) clash) is after_press ∷ pressed above is same above 5
    ∷ pressed below is same below 5 ∷ pressed above_next is same above_next 5 ∷ pressed next is same next 8 ∷ pressed last is same last 8
    ∷ pressed barred_last is same barred_last 8 ∷ pressed short is same short 4
    ∷ shifted clash is after_shift ∷ shifted five is after_shift ∷ shifted (carrying (minus C) clash) is after_shift ∷ shifted above is same above 5
    ∷ shifted below is same below 5 ∷ shifted above_next is same above_next 5 ∷ shifted next is same next 8 ∷ shifted last is same last 8
    ∷ shifted barred_last is same barred_last 8 ∷ shifted short is same short 4
    ∷ [])
unfolding press_call shift_call
moves = refl

-- ---- case files written: a carry is not, and the text is the same

pub written :
    let told : WriteCall → Says × List ℕ = λ q. (written_says q.answer, q.out) in
    let wrote : Input → ℕ → Says × List ℕ = λ i room. told (write_case_call standard i.case i.weights (ones room)) in
    let text : List ℕ = case_text standard clash.case clash.weights in
    Hold
    (wrote clash 271 is (value (pos 270), text ++ ones 1) ∷ wrote five 271 is (value (pos 270), text ++ ones 1)
    ∷ wrote (carrying (minus C) clash) 270 is (value (pos 270), text) ∷ wrote above 270 is (no 5, ones 270) ∷ wrote below 270 is (no 5, ones 270)
    ∷ wrote above 269 is (no 4, ones 269) ∷ wrote next 270 is (no 8, ones 270) ∷ wrote last 270 is (no 8, ones 270)
    ∷ wrote barred_last 270 is (no 8, ones 270) ∷ wrote short 270 is (no 4, ones 270)
    ∷ [])
unfolding write_case_call
written = refl

-- ---- the engine

-- the answer, the rounds, the bound, the whole table, the output and the log
abbrev ToldRun : Type 0
ToldRun = Says × ℕ × ℤ × List ℤ × List ℕ × List ℕ

-- the rounds are the same, and their bound lines state the bound with the carry in it, also the widest: a minus and eleven digits
pub runs :
    let told : RunCall → ToldRun = λ q. (run_says q.run.answer, q.run.rounds, q.run.bound, q.table, q.out, q.log) in
    let ran : Input → ℕ → ℕ → ToldRun = λ i limit room. told (run_call standard engine_next i.case limit i.weights (ones room)) in
    let paired : Input → ℕ → ℕ → ToldRun = λ i limit room. told (run_call standard pairs_next i.case limit i.weights (ones room)) in
    let refused : Input → ℕ → ToldRun = λ i n. (no n, 0, pos 0, i.weights, ones 216, []) in
    let clash_by : String → List ℕ = λ stated. bytes_of " 1   0   0   0          -2\n" ++ bytes_of " 1   0   1   0          -2\n" ++ bytes_of stated in
    let clash_to : ℤ → String → ToldRun =
    λ z stated. (value (pos 0), 1, z, full 2 (zeros 4 ++ (pos 1 ∷ pos 2 ∷ pos 2 ∷ pos 0 ∷ [])), clash_by stated ++ ones 135, clash_by stated)
    in
    let pair_log : List ℕ = bytes_of " 1   0   1   0          -1\n" ++ bytes_of " 4   0   0   0           5\n" in
    let press_log : List ℕ = pressed (l 2 0 3 0 1) (2 ∷ 3 ∷ 4 ∷ []) " 4   0   0   0           4\n" in
    let outside : Input = carrying (pos 5) (triangle_from (minus W)) in
    let locked5 : Input = carrying (pos 5) locked in
    Hold
    (ran clash 5 216 is clash_to (pos 2) " 4   0   0   0           2\n" ∷ ran five 5 216 is clash_to (pos 7) " 4   0   0   0           7\n"
    ∷ ran (carrying (minus 5) clash) 5 216 is clash_to (minus 3) " 4   0   0   0          -3\n"
    ∷ ran (carrying (pos C) clash) 5 216 is clash_to (pos 20_000_000_002) " 4   0   0   0 20000000002\n"
    ∷ ran (carrying (minus C) clash) 5 216 is clash_to (minus 19_999_999_998) " 4   0   0   0-19999999998\n"
    -- two rounds; at a limit; pair rounds only
    ∷ ran (carrying (pos 5) two_steps) 2 270 is (value (pos 0), 2, pos 4, full 2 after_press, press_log ++ ones 135, pair_log ++ press_log)
    ∷ ran (carrying (pos 5) two_steps) 1 270 is (value (pos 1), 1, pos 5, full 2 after_pair, pair_log ++ ones 216, pair_log)
    ∷ ran (carrying (pos 5) two_steps) 0 270 is (value (pos 1), 0, pos 6, two_steps.weights, ones 270, [])
    ∷ paired (carrying (pos 5) two_steps) 5 270 is (value (pos 0), 1, pos 5, full 2 after_pair, pair_log ++ ones 216, pair_log)
    -- settled at once; void; 11
    ∷ ran (carrying (pos 5) single) 5 108 is (value (pos 0), 0, minus 2, single.weights, ones 108, [])
    ∷ ran locked5 5 216 is (value (pos 2), 0, pos 7, locked.weights, void_of 0 (1 ∷ 2 ∷ []) ++ ones 135, void_of 0 (1 ∷ 2 ∷ []))
    ∷ ran outside 5 297 is (no 11, 0, minus 499_999_995, outside.weights, ones 297, [])
    -- 5, 8 and 4, at limit 0 too: no bound, and nothing changes
    ∷ ran above 5 216 is refused above 5 ∷ ran below 5 216 is refused below 5 ∷ ran above 0 216 is refused above 5 ∷ ran above_next 5 216 is refused above_next 5
    ∷ ran next 5 216 is refused next 8 ∷ ran last 5 216 is refused last 8 ∷ ran barred_last 5 216 is refused barred_last 8 ∷ ran next 0 216 is refused next 8
    ∷ paired next 5 216 is refused next 8 ∷ paired below 5 216 is refused below 5 ∷ ran short 5 216 is refused short 4 ∷ ran short 0 216 is refused short 4
    ∷ [])
unfolding round_call run_call
runs = refl

-- one round: the answer, the whole table and the output
pub rounds :
    let told : RoundCall → Says × List ℤ × List ℕ = λ q. (round_says q.answer, q.table, q.out) in
    let made : Input → Says × List ℤ × List ℕ = λ i. told (round_call standard engine_next i.case i.weights (ones 216)) in
    let refused : Input → ℕ → Says × List ℤ × List ℕ = λ i n. (no n, i.weights, ones 216) in
    let lines : String → List ℕ = λ stated. bytes_of " 1   0   0   0          -2\n" ++ bytes_of " 1   0   1   0          -2\n" ++ bytes_of stated in
    let after : List ℤ = full 2 (zeros 4 ++ (pos 1 ∷ pos 2 ∷ pos 2 ∷ pos 0 ∷ [])) in
    Hold
    (made five is (says 0 (pos 81 ∷ pos 7 ∷ []), after, lines " 4   0   0   0           7\n" ++ ones 135)
    ∷ made (carrying (minus C) clash) is (says 0 (pos 81 ∷ minus 19_999_999_998 ∷ []), after, lines " 4   0   0   0-19999999998\n" ++ ones 135)
    ∷ made (carrying (pos 5) locked) is (says 0 (pos 81 ∷ []), locked.weights, void_of 0 (1 ∷ 2 ∷ []) ++ ones 135)
    ∷ made (carrying (pos 5) (with_table clash after)) is (says 0 [], after, ones 216)
    ∷ made above is refused above 5 ∷ made below is refused below 5 ∷ made above_next is refused above_next 5 ∷ made next is refused next 8
    ∷ made last is refused last 8 ∷ made barred_last is refused barred_last 8 ∷ made short is refused short 4
    ∷ [])
unfolding round_call
rounds = refl

-- ---- why a value was kept: the value, the family and the partners, of which every byte was 7

pub families :
    let told : FamilyCall → Says × List ℕ × List ℕ = λ q. (figure_says q.answer, q.family, q.partners) in
    let sevens : ℕ → List ℕ = λ n. replicate n 7 in
    let lent : Input → Says × List ℕ × List ℕ = λ i. told (supported_value_call standard i.case i.weights 0 (sevens 2) (sevens 4)) in
    let refused : ℕ → Says × List ℕ × List ℕ = λ n. (no n, sevens 2, sevens 4) in
    let settled : Input = couple (zeros 4 ++ (pos 1 ∷ pos 2 ∷ pos 2 ∷ pos 0 ∷ [])) in
    let shown : Says × List ℕ × List ℕ = (value (pos 0), 1 ∷ 2 ∷ [], 1 ∷ 255 ∷ 255 ∷ 0 ∷ []) in
    Hold
    (lent settled is shown ∷ lent (carrying (pos 5) settled) is shown ∷ lent (carrying (minus C) settled) is shown
    ∷ lent (carrying (pos C1) settled) is refused 5 ∷ lent (carrying (minus C1) settled) is refused 5
    ∷ lent (carrying (pos C1) (put_at 8 (pos 1) settled)) is refused 5 ∷ lent (put_at 8 (pos 1) settled) is refused 8
    ∷ lent (put_at 479 (minus 1) settled) is refused 8 ∷ lent (put_at 479 B settled) is refused 8
    -- 4 of the own places alone; 8 before no such value
    ∷ lent (with_table settled (own_weights settled)) is refused 4 ∷ lent clash is refused 5 ∷ lent next is refused 8
    ∷ [])
unfolding supported_value_call bits_of
families = refl
