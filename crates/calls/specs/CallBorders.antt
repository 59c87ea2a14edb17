-- Samples of the calls at the borders, in tables as those of Borders. Assumes nothing.
use Rattle.definitions.specs.declared.Refusal.{Refusal}
use Rattle.std.specs.Prelude.{refl, List, [], ◌∷◌, ◌++◌, ℕ, ◌+◌, ℤ, pos, take, drop, Result, Ok, Err}
use Prim.Native.String.{String}
use Rattle.integers.specs.Words.{minus}
use Rattle.definitions.specs.declared.Refusal.TheVariants.{WrongLength, WeightOutOfRange, LeavesRange}
use Rattle.definitions.specs.declared.RunAnswer.{RunAnswer}
use Rattle.definitions.specs.declared.RunAnswer.TheVariants.{Settled, Limit}
use Rattle.definitions.specs.declared.Case.{Case}
use Rattle.definitions.specs.Rules.{Rules, standard}
use Rattle.definitions.specs.Answers.{Says, outcome_says, figure_says, verdict_says, line_says}
use Rattle.definitions.specs.Answers.{written_says, round_says}
use Rattle.definitions.specs.Lines.{line}
use Rattle.definitions.specs.Engine.{Next, engine_next, pairs_next}
use Rattle.definitions.specs.Programs.{bytes_of}
use Rattle.calls.specs.Calls.{TableCall, WriterCall, WriteCall, objective_answer, upper_bound_answer, is_active_answer}
use Rattle.calls.specs.Calls.{refuted_answer, shift_call, press_call, read_line_answer, write_line_call, put_line_call, write_case_call}
use Rattle.calls.specs.EngineCalls.{RoundCall, RunCall, round_call, run_call}
use Rattle.definitions.specs.Samples.{Input}
use Rattle.definitions.specs.Samples.{full, given, with_table, own_weights, triangle, clash, example2, single, zeros}
use Rattle.definitions.specs.Borders.{◌is◌, Hold, says, no, value, W, clash_from, triangle_from, edges, two_steps}
use Rattle.definitions.specs.Borders.{last_round, after_last, by_one, ones, l}
use Rattle.definitions.specs.Borders.{pair_step, after_pair, press_step, after_press}

-- ---- totals, refutation, and numbers 3 to 8 of what is handed over

-- edges (0,1), for equal values, and (0,2), for others; value 1 of variable 1 is inactive
abbrev star : Input
star =
    given 3 2 2 (0 ∷ 0 ∷ []) (1 ∷ 2 ∷ [])
    (zeros 3 ++ (minus 1 ∷ zeros 3) ++ (minus 1 ∷ minus 1 ∷ pos 0 ∷ minus 1 ∷ zeros 2) ++ (minus 1 ∷ []))

-- edges (0,1), of zeros, and (2,3), where the variables clash as in P4
abbrev apart : Input
apart = given 4 2 2 (0 ∷ 2 ∷ []) (1 ∷ 3 ∷ []) (zeros 4 ++ take 4 (own_weights clash) ++ zeros 4 ++ drop 4 (own_weights clash))

pub figures :
    let total : Input → List ℕ → Says = λ i p. figure_says (objective_answer standard i.case i.weights p) in
    let bound : Input → Says = λ i. figure_says (upper_bound_answer standard i.case i.weights) in
    let active : Input → ℕ → ℕ → ℕ → Says = λ i x k l. verdict_says (is_active_answer standard i.case i.weights x k l) in
    let refuted : Input → List ℕ → ℕ → ℕ → Says = λ i R v k. verdict_says (refuted_answer standard i.case i.weights R v k) in
    Hold
    ( -- the edge's tuple is (0,1) and not (1,0); weights are working weights; 4 before 5 before 8
    total example2 (0 ∷ 1 ∷ []) is value (pos 1) ∷ total (clash_from (pos 1_000_001)) (0 ∷ 0 ∷ []) is value (pos 1_000_000)
    ∷ total clash (5 ∷ []) is no 4 ∷ total clash (0 ∷ 0 ∷ 0 ∷ []) is no 4 ∷ total (clash_from (pos (W + 1))) (0 ∷ 2 ∷ []) is no 5
    -- limits, lengths, edges, weights
    ∷ bound (given 0 1 0 [] [] []) is no 3 ∷ bound (given 1 0 0 [] [] []) is no 3 ∷ bound (given 1 8 0 [] [] (zeros 8)) is value (pos 0)
    ∷ bound (with_table clash (clash.weights ++ zeros 1)) is no 4 ∷ bound (with_table clash (take 479 clash.weights)) is no 4
    ∷ bound (with_table clash (own_weights clash)) is no 4 ∷ bound (with_table (edges 1 0 9 []) (zeros 143)) is no 4
    ∷ bound (with_table (edges 1 0 9 []) (zeros 3)) is no 4 ∷ bound (edges 1 2 0 (zeros 3)) is no 5
    ∷ bound (edges 2 1 0 (zeros 4)) is no 6 ∷ bound (edges 1 1 0 (pos (W + 1) ∷ zeros 2)) is no 6 ∷ bound (edges 96 0 1 (zeros 98)) is no 7
    ∷ bound (edges 2 0 1 (pos (W + 1) ∷ zeros 3)) is no 7 ∷ bound (given 3 1 3 (0 ∷ 1 ∷ 0 ∷ []) (1 ∷ 2 ∷ 1 ∷ []) (zeros 6)) is no 7
    ∷ bound (given 3 1 2 (0 ∷ 1 ∷ []) (1 ∷ 2 ∷ []) (pos 1 ∷ pos 2 ∷ pos 3 ∷ pos 4 ∷ pos 5 ∷ [])) is value (pos 15)
    ∷ bound (clash_from (pos W)) is value (pos (W + 2)) ∷ bound (clash_from (minus (W + 1))) is no 8
    -- tuples
    ∷ active clash 2 0 0 is value (pos 0) ∷ active clash 2 1 1 is value (pos 1) ∷ active (clash_from (pos 1_000_001)) 0 0 0 is value (pos 1)
    ∷ active clash 3 0 0 is no 5 ∷ active clash 0 2 0 is no 5 ∷ active clash 2 0 2 is no 5
    -- partners of both ends, inside the sets; a set for each variable, also where no edge leads; the own scope raised
    ∷ refuted star (0 ∷ 1 ∷ 0 ∷ 1 ∷ 1 ∷ []) 2 0 is value (pos 1) ∷ refuted star (0 ∷ 1 ∷ 0 ∷ 1 ∷ 1 ∷ []) 2 1 is value (pos 0)
    ∷ refuted apart (0 ∷ 0 ∷ 1 ∷ 1 ∷ 0 ∷ 1 ∷ []) 0 0 is value (pos 1) ∷ refuted apart (0 ∷ 0 ∷ 1 ∷ 0 ∷ 0 ∷ 1 ∷ []) 0 0 is value (pos 0)
    ∷ refuted clash (1 ∷ 0 ∷ 0 ∷ []) 0 1 is value (pos 1) ∷ refuted (clash_from (pos 1_000_001)) (0 ∷ 1 ∷ 1 ∷ []) 0 0 is value (pos 1)
    ∷ refuted clash (2 ∷ 2 ∷ []) 0 0 is no 4 ∷ refuted clash (0 ∷ 0 ∷ 0 ∷ 0 ∷ []) 0 0 is no 4
    ∷ refuted clash (0 ∷ 0 ∷ 2 ∷ []) 0 0 is no 5 ∷ refuted clash (0 ∷ 0 ∷ 0 ∷ []) 2 0 is no 5 ∷ refuted clash (0 ∷ 0 ∷ 0 ∷ []) 0 2 is no 5
    ∷ [])
unfolding objective_answer upper_bound_answer is_active_answer refuted_answer
figures = refl

-- ---- the engine

-- a run as a call: answer, rounds, upper bound, table, output and log
pub runs :
    let run : (Rules → Case → List ℤ → Next) → Input → ℕ → ℕ → RunCall =
    λ next i limit room. run_call standard next i.case limit i.weights (ones room)
    in
    let ran = run engine_next in
    let paired = run pairs_next in
    let told : Result RunAnswer Refusal → ℕ → ℤ → List ℤ → List ℕ → List ℕ → RunCall =
    λ a n z w out log. record { run = record { answer = a; rounds = n; bound = z }; table = w; out = out; log = log }
    in
    let unmade : Result RunAnswer Refusal → ℤ → Input → ℕ → RunCall = λ a z i room. told a 0 z i.weights (ones room) [] in
    Hold
    (ran two_steps 1 270 is told (Ok Limit) 1 (pos 0) (full 2 after_pair) (pair_step ++ ones 216) pair_step
    -- the lines of a round from the output's first byte, the bytes past them kept
    ∷ ran two_steps 2 270 is told (Ok Settled) 2 (minus 1) (full 2 after_press) (press_step ++ ones 135) (pair_step ++ press_step)
    -- pair rounds only: settled though a press is left
    ∷ paired two_steps 2 270 is told (Ok Settled) 1 (pos 0) (full 2 after_pair) (pair_step ++ ones 216) pair_step
    ∷ paired two_steps 0 270 is unmade (Ok Limit) (pos 1) two_steps 270
    -- 11: before the first round, at the limit, and after a round; never with pair rounds only
    ∷ ran (triangle_from (minus W)) 5 297 is unmade (Err LeavesRange) (minus W) (triangle_from (minus W)) 297
    ∷ ran (triangle_from (minus W)) 0 297 is unmade (Ok Limit) (minus W) (triangle_from (minus W)) 297
    ∷ ran last_round 5 216 is told (Err LeavesRange) 1 (minus 499_999_998) (full 2 after_last) (by_one ++ ones 108) by_one
    ∷ paired last_round 5 216 is unmade (Ok Settled) (minus 499_999_997) last_round 216
    -- 4, also at limit 0 and where settled; 8
    ∷ ran clash 5 215 is unmade (Err WrongLength) (pos 0) clash 215 ∷ ran clash 0 215 is unmade (Err WrongLength) (pos 0) clash 215
    ∷ paired triangle 5 296 is unmade (Err WrongLength) (pos 0) triangle 296 ∷ ran single 5 107 is unmade (Err WrongLength) (pos 0) single 107
    ∷ ran (clash_from (pos (W + 1))) 5 216 is unmade (Err WeightOutOfRange) (pos 0) (clash_from (pos (W + 1))) 216
    ∷ [])
unfolding round_call run_call
runs = refl

-- one round as a call: answer, table and output
pub rounds :
    let told : RoundCall → Says × List ℤ × List ℕ = λ q. (round_says q.answer, q.table, q.out) in
    let made : Input → ℕ → Says × List ℤ × List ℕ = λ i room. told (round_call standard engine_next i.case i.weights (ones room)) in
    Hold
    (made two_steps 270 is (says 0 (pos 54 ∷ pos 0 ∷ []), full 2 after_pair, pair_step ++ ones 216)
    ∷ made single 108 is (says 0 [], single.weights, ones 108) ∷ made single 107 is (no 4, single.weights, ones 107)
    ∷ made (triangle_from (minus W)) 297 is (no 11, (triangle_from (minus W)).weights, ones 297)
    ∷ [])
unfolding round_call
rounds = refl

-- ---- moves: the number and the table

pub moves :
    let told : TableCall → ℕ × List ℤ = λ q. ((outcome_says q.answer).number, q.table) in
    let press_in : Input → ℕ → List ℕ → ℕ → ℕ × List ℤ = λ i v R a. told (press_call standard i.case i.weights v R (pos a)) in
    let shift_in : Input → ℕ → ℕ → ℕ → ℕ → ℕ × List ℤ = λ i e end v a. told (shift_call standard i.case i.weights e end v (pos a)) in
    let same : ℕ → ℕ × List ℤ = λ n. (n, clash.weights) in
    let great : Input = clash_from (pos (W + 1)) in
    Hold
    (press_in clash 2 (1 ∷ []) 1 is same 5 ∷ press_in clash 0 (0 ∷ 1 ∷ 2 ∷ []) 1 is same 5 ∷ press_in clash 0 (1 ∷ 3 ∷ []) 1 is same 5
    ∷ press_in clash 0 (1 ∷ 2 ∷ []) 0 is same 5 ∷ press_in clash 0 (1 ∷ 2 ∷ []) 1_000_000_001 is same 5
    ∷ press_in clash 0 (0 ∷ 2 ∷ []) 1 is same 9 ∷ press_in clash 0 (2 ∷ 2 ∷ []) 1 is same 9 ∷ press_in clash 0 (1 ∷ []) 1_000_000_000 is same 10
    ∷ press_in great 0 (2 ∷ 1 ∷ []) 1 is (8, great.weights) ∷ press_in triangle 0 (3 ∷ 5 ∷ 4 ∷ []) 1 is (9, triangle.weights)
    ∷ press_in (clash_from (pos 1_000_001)) 0 (1 ∷ 2 ∷ []) 1 is (0, full 2 (pos 1_000_000 ∷ pos 0 ∷ pos 2 ∷ pos 1 ∷ minus 2 ∷ zeros 3))
    ∷ shift_in clash 1 0 0 1 is same 5 ∷ shift_in clash 0 2 0 1 is same 5 ∷ shift_in clash 0 0 2 1 is same 5
    ∷ shift_in clash 0 0 0 1_000_000_001 is same 5 ∷ shift_in great 0 0 0 1 is (8, great.weights)
    ∷ shift_in (clash_from (pos 1_000_001)) 0 1 0 3 is
    (0, full 2 (pos 1_000_001 ∷ pos 0 ∷ pos 5 ∷ pos 0 ∷ minus 6 ∷ pos 0 ∷ minus 3 ∷ pos 0 ∷ []))
    ∷ [])
unfolding press_call shift_call
moves = refl

-- ---- lines and case files, read and written

pub columns :
    let read : String → Says = λ t. line_says (read_line_answer standard (bytes_of t)) in
    let wrote : ℕ → ℤ → ℕ → ℕ → ℤ → Says = λ k a b c z. outcome_says (write_line_call standard (ones 27) (line k a (pos b) (pos c) z)).answer in
    Hold
    (read "13   2   1   0          -7\n" is says 0 (pos 13 ∷ pos 2 ∷ pos 1 ∷ pos 0 ∷ minus 7 ∷ [])
    ∷ read "13   2   1   0          -0\n" is no 1 ∷ read "13   2   1   0         - 7\n" is no 1
    ∷ wrote 99 (pos 9_999) 9_999 9_999 (pos 999_999_999_999) is no 0 ∷ wrote 1 (minus 999) 0 0 (minus 99_999_999_999) is no 0
    ∷ wrote 100 (pos 0) 0 0 (pos 0) is no 5 ∷ wrote 1 (minus 1_000) 0 0 (pos 0) is no 5 ∷ wrote 1 (pos 0) 10_000 0 (pos 0) is no 5
    ∷ wrote 1 (pos 0) 0 10_000 (pos 0) is no 5 ∷ wrote 1 (pos 0) 0 0 (pos 1_000_000_000_000) is no 5
    ∷ wrote 1 (pos 0) 0 0 (minus 100_000_000_000) is no 5
    ∷ [])
unfolding read_line_answer write_line_call
columns = refl

-- the log writer: the number, the slice and the position after it; 4 before 5
pub appended :
    let told : WriterCall → ℕ × List ℕ × ℕ = λ q. ((outcome_says q.answer).number, q.out, q.at) in
    let put : ℕ → ℕ → ℕ × List ℕ × ℕ = λ room a. told (put_line_call standard (ones room) 27 (line 3 (pos a) (pos 0) (pos 0) (pos 0))) in
    Hold
    (put 82 5 is (0, ones 27 ++ l 3 5 0 0 0 ++ ones 28, 54) ∷ put 54 5 is (0, ones 27 ++ l 3 5 0 0 0, 54) ∷ put 53 10_000 is (4, ones 53, 27)
    ∷ put 26 5 is (4, ones 26, 27) ∷ put 54 10_000 is (5, ones 54, 27)
    ∷ [])
unfolding put_line_call
appended = refl

pub written :
    let told : WriteCall → Says × List ℕ = λ q. (written_says q.answer, q.out) in
    let wrote : Input → ℕ → Says × List ℕ = λ i room. told (write_case_call standard i.case i.weights (ones room)) in
    let clash_file : List ℕ =
    l 10 2 2 1 0 ++ l 11 0 0 0 2 ++ l 11 0 1 0 0 ++ l 11 1 0 0 2 ++ l 11 1 1 0 0
    ++ l 12 0 0 1 0 ++ bytes_of "13   0   0   0          -3\n" ++ l 13 0 0 1 0 ++ l 13 0 1 0 0 ++ l 13 0 1 1 0
    in
    Hold
    (wrote clash 272 is (value (pos 270), clash_file ++ ones 2) ∷ wrote clash 269 is (no 4, ones 269)
    ∷ wrote (clash_from (pos 1_000_001)) 270 is (no 8, ones 270) ∷ wrote (clash_from (minus 1_000_001)) 270 is (no 8, ones 270)
    ∷ [])
unfolding write_case_call
written = refl
