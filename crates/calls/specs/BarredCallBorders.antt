-- Samples of the calls on tables with barred tuples (document 02, change 2), in tables as those of Borders. Assumes nothing.
use Rattle.std.specs.Prelude.{refl, false, List, [], ◌∷◌, ◌++◌, ℕ, ◌+◌, ℤ, pos, replicate, Ok}
use Rattle.integers.specs.Words.{any, choices, joined, minus}
use Rattle.definitions.specs.declared.RunAnswer.TheVariants.{Settled}
use Rattle.definitions.specs.Rules.{standard}
use Rattle.definitions.specs.Answers.{Says, outcome_says, figure_says, verdict_says, written_says, round_says, run_says}
use Rattle.definitions.specs.Case.{is_lawful}
use Rattle.definitions.specs.Engine.{engine_next, pairs_next}
use Rattle.definitions.specs.Samples.{Input, full, given, own_weights, couple, zeros}
use Rattle.definitions.specs.Borders.{◌is◌, Hold, says, no, value, W, ones, l, ran_by}
use Rattle.definitions.specs.Programs.{bytes_of}
use Rattle.definitions.specs.BarredBorders.{B, locked, patchy, void_lines}
use Rattle.definitions.specs.BarredRuns.{late, over_no_choice, at_border, by_twos, after_late}
use Rattle.calls.specs.Calls.{TableCall, WriteCall, objective_answer, upper_bound_answer, is_active_answer}
use Rattle.calls.specs.Calls.{refuted_answer, shift_call, press_call, write_case_call}
use Rattle.calls.specs.EngineCalls.{RunCall, round_call, run_call}

-- link 0 is wholly barred
abbrev closed_link : Input
closed_link = couple (B ∷ B ∷ zeros 6)

-- four links, three values, all pairs, equal values barred: no plan is lawful, and nothing is refuted
abbrev coloured : Input
coloured =
    given 4 3 6 (0 ∷ 0 ∷ 0 ∷ 1 ∷ 1 ∷ 2 ∷ []) (1 ∷ 2 ∷ 3 ∷ 2 ∷ 3 ∷ 3 ∷ [])
    (zeros 12 ++ joined (replicate 6 (B ∷ zeros 3 ++ (B ∷ zeros 3 ++ (B ∷ [])))))

-- ---- totals and refutation

pub figures :
    let total : Input → List ℕ → Says = λ i p. figure_says (objective_answer standard i.case i.weights p) in
    let bound : Input → Says = λ i. figure_says (upper_bound_answer standard i.case i.weights) in
    let active : Input → ℕ → ℕ → ℕ → Says = λ i x k l. verdict_says (is_active_answer standard i.case i.weights x k l) in
    let refuted : Input → List ℕ → ℕ → ℕ → Says = λ i R v k. verdict_says (refuted_answer standard i.case i.weights R v k) in
    let reversed : Input = given 2 2 1 (1 ∷ []) (0 ∷ []) patchy.weights in
    let great : Input = couple (pos (W + 1) ∷ B ∷ zeros 6) in
    Hold
    ( -- an unlawful assignment is 5, after 4, before 6 and before 8; where a scope is wholly barred every one is
    total patchy (0 ∷ 0 ∷ []) is value (pos 4) ∷ total patchy (0 ∷ 1 ∷ []) is no 5 ∷ total patchy (1 ∷ 0 ∷ []) is no 5 ∷ total patchy (1 ∷ 1 ∷ []) is no 5
    ∷ total (couple (pos W ∷ B ∷ minus W ∷ pos 0 ∷ minus W ∷ zeros 2 ++ (B ∷ []))) (0 ∷ 0 ∷ []) is value (minus W)
    ∷ total patchy (1 ∷ []) is no 4 ∷ total reversed (0 ∷ 1 ∷ []) is no 6 ∷ total reversed (1 ∷ 0 ∷ []) is no 5
    ∷ total great (0 ∷ 0 ∷ []) is no 8 ∷ total great (1 ∷ 0 ∷ []) is no 5 ∷ total closed_link (0 ∷ 1 ∷ []) is no 5
    ∷ total (couple (pos 0 ∷ minus 1_999_999_999 ∷ zeros 6)) (1 ∷ 0 ∷ []) is no 8 ∷ total (couple (pos 0 ∷ minus 2_000_000_001 ∷ zeros 6)) (1 ∷ 0 ∷ []) is no 8
    -- tables
    ∷ bound patchy is value (pos 9) ∷ bound locked is value (pos 2) ∷ bound great is no 8 ∷ bound closed_link is no 15
    ∷ bound (couple (zeros 4 ++ (B ∷ B ∷ B ∷ B ∷ []))) is no 15 ∷ bound (couple (B ∷ B ∷ pos (W + 1) ∷ zeros 5)) is no 8
    -- never active
    ∷ active patchy 0 1 0 is value (pos 0) ∷ active patchy 2 0 1 is value (pos 0) ∷ active patchy 0 0 0 is value (pos 1)
    ∷ active closed_link 0 0 0 is no 15 ∷ active closed_link 0 2 0 is no 5
    -- barred tuples of scopes that are not raised are allowed, those of the variable itself too
    ∷ refuted locked (0 ∷ 1 ∷ 1 ∷ []) 0 0 is value (pos 1) ∷ refuted locked (0 ∷ 0 ∷ 1 ∷ []) 0 0 is value (pos 0)
    ∷ refuted locked (0 ∷ 1 ∷ 0 ∷ []) 0 0 is value (pos 0) ∷ refuted locked (0 ∷ 1 ∷ 1 ∷ []) 0 1 is value (pos 0)
    ∷ refuted locked (1 ∷ 1 ∷ 1 ∷ []) 0 1 is value (pos 1) ∷ refuted closed_link (0 ∷ 1 ∷ 1 ∷ []) 0 0 is no 15
    ∷ [])
unfolding objective_answer upper_bound_answer is_active_answer refuted_answer
figures = refl

-- ---- moves: the number and the table

pub moves :
    let told : TableCall → ℕ × List ℤ = λ q. ((outcome_says q.answer).number, q.table) in
    let press_in : Input → ℕ → List ℕ → ℕ → ℕ × List ℤ = λ i v R a. told (press_call standard i.case i.weights v R (pos a)) in
    let shift_in : Input → ℕ → ℕ → ℕ → ℕ → ℕ × List ℤ = λ i e end v a. told (shift_call standard i.case i.weights e end v (pos a)) in
    let same : Input → ℕ → ℕ × List ℤ = λ i n. (n, i.weights) in
    Hold
    (shift_in patchy 0 0 1 4 is (0, full 2 (pos 3 ∷ B ∷ pos 1 ∷ pos 0 ∷ pos 0 ∷ B ∷ minus 2 ∷ pos 1 ∷ []))
    ∷ shift_in patchy 0 1 1 4 is (0, full 2 (pos 3 ∷ B ∷ pos 1 ∷ pos 4 ∷ pos 0 ∷ B ∷ pos 2 ∷ pos 1 ∷ []))
    ∷ shift_in patchy 0 0 1 500_000_002 is (0, full 2 (pos 3 ∷ B ∷ pos 1 ∷ pos 0 ∷ pos 0 ∷ B ∷ minus W ∷ minus 499_999_997 ∷ []))
    ∷ shift_in patchy 0 0 1 500_000_003 is same patchy 11 ∷ shift_in closed_link 0 0 0 1 is same closed_link 15
    ∷ shift_in closed_link 0 0 2 1 is same closed_link 5
    ∷ press_in patchy 1 (0 ∷ 2 ∷ []) 1 is (0, full 2 (pos 3 ∷ B ∷ pos 0 ∷ pos 0 ∷ pos 1 ∷ B ∷ pos 3 ∷ pos 5 ∷ []))
    ∷ press_in patchy 1 (0 ∷ []) 1 is same patchy 10 ∷ press_in locked 0 (2 ∷ []) 1 is same locked 10
    ∷ press_in locked 0 (1 ∷ 2 ∷ []) 500_000_002 is (0, full 2 (minus W ∷ B ∷ pos 0 ∷ B ∷ B ∷ zeros 3))
    ∷ press_in locked 0 (1 ∷ 2 ∷ []) 500_000_003 is same locked 11
    -- 15 after 5 and before 9
    ∷ press_in closed_link 1 (2 ∷ 0 ∷ []) 1 is same closed_link 15 ∷ press_in closed_link 1 (2 ∷ 0 ∷ []) 0 is same closed_link 5
    ∷ [])
unfolding press_call shift_call
moves = refl

-- ---- case files written

pub written :
    let told : WriteCall → Says × List ℕ = λ q. (written_says q.answer, q.out) in
    let wrote : Input → ℕ → Says × List ℕ = λ i room. told (write_case_call standard i.case i.weights (ones room)) in
    let patchy_file : List ℕ =
    l 10 2 2 1 0 ++ l 11 0 0 0 3 ++ l 14 0 1 0 0 ++ l 11 1 0 0 1 ++ l 11 1 1 0 0
    ++ l 12 0 0 1 0 ++ l 13 0 0 0 0 ++ l 15 0 0 1 0 ++ l 13 0 1 0 2 ++ l 13 0 1 1 5
    in
    Hold
    (wrote patchy 271 is (value (pos 270), patchy_file ++ ones 1) ∷ wrote patchy 269 is (no 4, ones 269) ∷ wrote closed_link 270 is (no 15, ones 270)
    ∷ wrote (couple (pos 1_000_001 ∷ B ∷ zeros 6)) 270 is (no 8, ones 270) ∷ wrote (couple (minus 1_999_999_999 ∷ zeros 7)) 270 is (no 8, ones 270)
    ∷ [])
unfolding write_case_call
written = refl

-- ---- the engine

-- the answer, the rounds, the bound, the table, the output and the log; one round: the answer, the table and the output
pub engine :
    let told : RunCall → Says × ℕ × ℤ × List ℤ × List ℕ × List ℕ =
    λ q. (run_says q.run.answer, q.run.rounds, q.run.bound, q.table, q.out, q.log)
    in
    let ran : Input → ℕ → ℕ → Says × ℕ × ℤ × List ℤ × List ℕ × List ℕ =
    λ i limit room. told (run_call standard engine_next i.case limit i.weights (ones room))
    in
    let paired : Input → ℕ → ℕ → Says × ℕ × ℤ × List ℤ × List ℕ × List ℕ =
    λ i limit room. told (run_call standard pairs_next i.case limit i.weights (ones room))
    in
    let unmade : ℕ → Input → ℕ → Says × ℕ × ℤ × List ℤ × List ℕ × List ℕ = λ n i room. (no n, 0, pos 0, i.weights, ones room, []) in
    let made : Input → ℕ → Says × List ℤ × List ℕ =
    λ i room. let q = round_call standard engine_next i.case i.weights (ones room) in (round_says q.answer, q.table, q.out)
    in
    let void_text : List ℕ = joined (void_lines 0 (1 ∷ 2 ∷ [])) in
    let voided : Says × ℕ × ℤ × List ℤ × List ℕ × List ℕ = (value (pos 2), 0, pos 2, locked.weights, void_text ++ ones 135, void_text) in
    let pair_text : List ℕ = bytes_of " 1   0   0   0          -3\n" ++ bytes_of " 1   0   1   0          -1\n" ++ l 4 0 0 0 5 in
    let after_pair : List ℤ = full 2 (pos 0 ∷ B ∷ zeros 2 ++ (pos 4 ∷ B ∷ pos 3 ∷ pos 5 ∷ [])) in
    let press_text : List ℕ = l 2 0 1 0 1 ++ l 3 2 0 0 0 ++ l 4 0 0 0 4 in
    let after_press : List ℤ = full 2 (minus 1 ∷ B ∷ zeros 2 ++ (pos 5 ∷ B ∷ pos 4 ∷ pos 5 ∷ [])) in
    let late_void : List ℕ = joined (void_lines 0 (2 ∷ 4 ∷ [])) in
    let last_void : List ℕ = joined (void_lines 0 (1 ∷ 3 ∷ [])) in
    let last_bound : List ℕ = bytes_of " 4   0   0   0          -5\n" in
    let three_rounds : List ℕ =
    by_twos 1 4 ++ (l 2 0 2 0 1 ++ l 3 3 0 0 0 ++ l 3 4 0 0 0 ++ l 4 0 0 0 3) ++ (l 2 0 2 0 8 ++ l 3 3 0 0 0 ++ l 3 4 0 0 0 ++ last_bound)
    in
    let after_three : List ℤ = full 2 (minus 7 ∷ B ∷ pos 0 ∷ B ∷ zeros 2 ++ (B ∷ zeros 3 ++ (pos 2 ∷ pos 2 ∷ pos 2 ∷ pos 0 ∷ []))) in
    let lastly : Says × ℕ × ℤ × List ℤ × List ℕ × List ℕ =
    (value (pos 2), 3, minus 5, after_three, last_void ++ last_bound ++ ones 162, three_rounds ++ last_void)
    in
    Hold
    (ran patchy 5 216 is (value (pos 0), 2, pos 4, after_press, press_text ++ ones 135, pair_text ++ press_text)
    ∷ paired patchy 5 216 is (value (pos 0), 1, pos 5, after_pair, pair_text ++ ones 135, pair_text)
    ∷ ran patchy 5 215 is unmade 4 patchy 215 ∷ ran closed_link 5 216 is unmade 15 closed_link 216
    -- a void line is written also at limit 0, and by no run of pair rounds only
    ∷ ran locked 5 216 is voided ∷ ran locked 0 216 is voided ∷ paired locked 0 216 is (value (pos 0), 0, pos 2, locked.weights, ones 216, [])
    ∷ ran locked 0 215 is unmade 4 locked 215
    -- after rounds, from the output's first byte; a pair round that comes first answers limit
    ∷ ran over_no_choice 9 270 is lastly ∷ ran over_no_choice 3 270 is lastly
    ∷ ran late 1 270 is (value (pos 2), 1, pos 2, full 2 after_late, late_void ++ ones 189, by_twos 0 2 ++ late_void)
    ∷ ran late 0 270 is (value (pos 1), 0, pos 4, late.weights, ones 270, [])
    ∷ paired late 5 270 is (value (pos 0), 1, pos 2, full 2 after_late, by_twos 0 2 ++ ones 189, by_twos 0 2)
    -- 11 on a table with barred tuples
    ∷ ran at_border 5 216 is (no 11, 0, minus 499_999_995, at_border.weights, ones 216, [])
    ∷ ran at_border 0 216 is (value (pos 1), 0, minus 499_999_995, at_border.weights, ones 216, [])
    ∷ [])
    × Hold
    (made locked 216 is (says 0 (pos 81 ∷ []), locked.weights, void_text ++ ones 135)
    ∷ made patchy 216 is (says 0 (pos 81 ∷ pos 5 ∷ []), after_pair, pair_text ++ ones 135)
    ∷ made closed_link 216 is (no 15, closed_link.weights, ones 216) ∷ made locked 215 is (no 4, locked.weights, ones 215)
    ∷ made at_border 216 is (no 11, at_border.weights, ones 216)
    ∷ [])
unfolding round_call run_call
engine = (refl, refl)

-- settled, although no plan is lawful
pub settled-without-plan :
    let plans : List (List ℕ) = choices 4 (0 ∷ 1 ∷ 2 ∷ []) in
    Hold (any (is_lawful coloured.case coloured.weights) plans is false ∷ [])
    × Hold (ran_by engine_next coloured 5 is (Ok Settled, 0, own_weights coloured, []) ∷ [])
settled-without-plan = (refl, refl)
