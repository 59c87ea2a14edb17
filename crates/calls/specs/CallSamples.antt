-- The library's calls on the sample cases, and their numbers at the borders, by computation. Assumes nothing.
use Rattle.std.specs.Prelude.{◌≡◌, refl, List, [], ◌∷◌, ◌++◌, map, ℕ, ℤ, pos, replicate}
use Rattle.integers.specs.Words.{joined, minus}
use Rattle.definitions.specs.declared.Case.{Case}
use Rattle.definitions.specs.Rules.{standard}
use Rattle.definitions.specs.Answers.{Says, outcome_says, figure_says, verdict_says, span_says, choice_says, run_says}
use Rattle.definitions.specs.Lines.{line, lines_in}
use Rattle.definitions.specs.Engine.{engine_next, round_bytes}
use Rattle.definitions.specs.Views.{round_span, round_view}
use Rattle.definitions.specs.Scoring.{better_of}
use Rattle.definitions.specs.Programs.{bytes_of}
use Rattle.calls.specs.Calls.{
  TableCall,
  LineCall,
  objective_answer,
  upper_bound_answer,
  is_active_answer,
  refuted_answer,
  shift_call,
  press_call,
  write_line_call,
}
use Rattle.calls.specs.EngineCalls.{RunCall, round_call, run_call}
use Rattle.definitions.specs.Samples.{Input, Question, bound_of, run-of, replay-of, all-active, press-on, replay-on, Reply, ran, samples, our_samples}
use Rattle.definitions.specs.Samples.{answer, full, given, own, own_weights, triangle, clash, example2, single, texts, log1, two_rounds, raising1and2, zeros}

-- ---- the samples of document 01 and ours: a run is answered by the engine's call

abbrev ran_by : Input → RunCall → Reply
ran_by i q = ran q.run.answer q.run.rounds q.run.bound (own i.case q.table) (lines_in 12 q.log)

abbrev answer_by_calls : Question → Reply
answer_by_calls (run-of i limit) = ran_by i (run_call standard engine_next i.case limit i.weights (replicate (round_bytes standard i.case) 0))
answer_by_calls (bound_of i) = answer (bound_of i)
answer_by_calls (replay-of i ts) = answer (replay-of i ts)
answer_by_calls (all-active i limit) = answer (all-active i limit)
answer_by_calls (press-on ts) = answer (press-on ts)
answer_by_calls (replay-on ts) = answer (replay-on ts)

pub samples-hold-of-calls : map (λ s. answer_by_calls s.ask) samples ≡ map (λ s. s.gives) samples
unfolding round_call run_call
samples-hold-of-calls = refl

pub our-samples-hold-of-calls : map (λ s. answer_by_calls s.ask) our_samples ≡ map (λ s. s.gives) our_samples
unfolding round_call run_call
our-samples-hold-of-calls = refl

-- ---- the engine

abbrev sevens : ℕ → List ℕ
sevens n = replicate n 7

abbrev run_on : Input → ℕ → List ℕ → RunCall
run_on i limit out = run_call standard engine_next i.case limit i.weights out

abbrev told : RunCall → Says × ℕ × ℤ × List ℕ × List ℕ
told q = (run_says q.run.answer, q.run.rounds, q.run.bound, q.out, q.log)

-- P1: one round, its lines from the output's first byte, the bytes past them kept; a byte short, number 4 and nothing written
pub runs :
    map told (run_on triangle 100_000 (sevens 297) ∷ run_on triangle 0 (sevens 297) ∷ run_on triangle 100_000 (sevens 296) ∷ run_on single 0 (sevens 108) ∷ [])
    ≡ (record { number = 0; values = pos 0 ∷ [] }, 1, minus 1, joined (texts log1) ++ sevens 162, joined (texts log1))
    ∷ (record { number = 0; values = pos 1 ∷ [] }, 0, pos 0, sevens 297, [])
    ∷ (record { number = 4; values = [] }, 0, pos 0, sevens 296, [])
    ∷ (record { number = 0; values = pos 0 ∷ [] }, 0, minus 7, sevens 108, [])
    ∷ []
unfolding round_call run_call
runs = refl

-- ---- totals, refutation, moves, lines

pub totals :
    map figure_says
    (objective_answer standard clash.case clash.weights (0 ∷ 0 ∷ [])
    ∷ objective_answer standard clash.case clash.weights (0 ∷ 1 ∷ [])
    ∷ objective_answer standard clash.case clash.weights (0 ∷ 2 ∷ [])
    ∷ objective_answer standard clash.case clash.weights (0 ∷ [])
    ∷ upper_bound_answer standard example2.case example2.weights
    ∷ [])
    ≡ record { number = 0; values = pos 1 ∷ [] }
    ∷ record { number = 0; values = pos 2 ∷ [] }
    ∷ record { number = 5; values = [] }
    ∷ record { number = 4; values = [] }
    ∷ record { number = 0; values = pos 11 ∷ [] }
    ∷ []
unfolding objective_answer upper_bound_answer
totals = refl

-- numbers 3 to 8 of a case and a table, and their order; with D 1 a table has 144 places, and so many as the case's own are number 4, too
abbrev joining : ℕ → ℕ → ℕ → ℕ → ℕ → Case
joining n i j k l = (given n 1 2 (i ∷ k ∷ []) (j ∷ l ∷ []) []).case

abbrev number_on : Case → List ℤ → ℕ
number_on c w = (figure_says (upper_bound_answer standard c w)).number

pub numbers-3-to-8 :
    number_on (given 49 1 0 [] [] []).case []
    ∷ number_on (given 48 1 0 [] [] []).case []
    ∷ number_on (given 1 9 0 [] [] []).case []
    ∷ number_on (given 1 1 97 [] [] []).case []
    ∷ number_on (joining 3 0 1 0 2) (zeros 143)
    ∷ number_on (joining 3 0 1 0 2) (zeros 145)
    ∷ number_on (joining 3 0 1 0 2) (zeros 5)
    ∷ number_on (joining 3 0 3 0 2) (zeros 144)
    ∷ number_on (joining 3 0 1 2 2) (zeros 144)
    ∷ number_on (joining 3 0 1 0 1) (zeros 144)
    ∷ number_on (joining 3 0 1 0 2) (full 1 (zeros 4 ++ (pos 500_000_001 ∷ [])))
    ∷ number_on (joining 3 0 1 0 2) (full 1 (zeros 4 ++ (minus 500_000_000 ∷ [])))
    ∷ []
    ≡ 3 ∷ 4 ∷ 3 ∷ 3 ∷ 4 ∷ 4 ∷ 4 ∷ 5 ∷ 6 ∷ 7 ∷ 8 ∷ 0 ∷ []
unfolding upper_bound_answer
numbers-3-to-8 = refl

-- P3 and P1: with scopes 3 and 4 raised value 0 of link 0 is not refuted, with 5 it is; Example 2: (1, 0) of the pair is active
pub questions :
    map verdict_says
    (refuted_answer standard triangle.case triangle.weights (0 ∷ 0 ∷ 0 ∷ 1 ∷ 1 ∷ 0 ∷ []) 0 0
    ∷ refuted_answer standard triangle.case triangle.weights (0 ∷ 0 ∷ 0 ∷ 1 ∷ 1 ∷ 1 ∷ []) 0 0
    ∷ refuted_answer standard triangle.case triangle.weights (0 ∷ 0 ∷ 0 ∷ 1 ∷ 1 ∷ 2 ∷ []) 0 0
    ∷ is_active_answer standard example2.case example2.weights 2 1 0
    ∷ is_active_answer standard example2.case example2.weights 0 1 1
    ∷ [])
    ≡ record { number = 0; values = pos 0 ∷ [] }
    ∷ record { number = 0; values = pos 1 ∷ [] }
    ∷ record { number = 5; values = [] }
    ∷ record { number = 0; values = pos 1 ∷ [] }
    ∷ record { number = 5; values = [] }
    ∷ []
unfolding refuted_answer is_active_answer
questions = refl

-- moves in P4's case
abbrev move_says : TableCall → ℕ × List ℤ
move_says q = ((outcome_says q.answer).number, own clash.case q.table)

pub moves :
    map move_says
    (press_call standard clash.case clash.weights 0 (1 ∷ 2 ∷ []) (pos 2)
    ∷ press_call standard clash.case clash.weights 0 (2 ∷ 1 ∷ []) (pos 2)
    ∷ press_call standard clash.case clash.weights 0 (1 ∷ []) (pos 2)
    ∷ press_call standard clash.case clash.weights 0 [] (pos 2)
    ∷ press_call standard clash.case clash.weights 0 (1 ∷ 2 ∷ []) (pos 1_000_000_000)
    ∷ shift_call standard clash.case clash.weights 0 0 0 (minus 2)
    ∷ shift_call standard clash.case clash.weights 0 0 0 (pos 0)
    ∷ shift_call standard clash.case clash.weights 0 1 1 (pos 500_000_001)
    ∷ [])
    ≡ (0, pos 0 ∷ pos 0 ∷ pos 2 ∷ pos 2 ∷ minus 1 ∷ zeros 3)
    ∷ (9, own_weights clash)
    ∷ (10, own_weights clash)
    ∷ (5, own_weights clash)
    ∷ (11, own_weights clash)
    ∷ (0, pos 0 ∷ pos 0 ∷ pos 2 ∷ pos 0 ∷ minus 1 ∷ pos 2 ∷ zeros 2)
    ∷ (5, own_weights clash)
    ∷ (11, own_weights clash)
    ∷ []
unfolding press_call shift_call
moves = refl

abbrev line_said : LineCall → ℕ × List ℕ
line_said q = ((outcome_says q.answer).number, q.out)

pub lines-written :
    map line_said
    (write_line_call standard (sevens 28) (line 4 (pos 0) (pos 0) (pos 0) (minus 1))
    ∷ write_line_call standard (sevens 26) (line 4 (pos 10_000) (pos 0) (pos 0) (minus 1))
    ∷ write_line_call standard (sevens 27) (line 4 (pos 10_000) (pos 0) (pos 0) (minus 1))
    ∷ [])
    ≡ (0, bytes_of " 4   0   0   0          -1\n" ++ sevens 1)
    ∷ (4, sevens 26)
    ∷ (5, sevens 27)
    ∷ []
unfolding write_line_call
lines-written = refl

-- ---- views and scoring

abbrev log : List ℕ
log = joined (texts two_rounds)

pub views :
    map span_says
    (round_span standard log 0 ∷ round_span standard log 1 ∷ round_span standard log 2 ∷ round_span standard (log ++ (32 ∷ [])) 1
    ∷ round_span standard (log ++ (32 ∷ [])) 2 ∷ round_span standard (log ++ sevens 27) 2 ∷ [])
    ≡ record { number = 0; values = pos 0 ∷ pos 108 ∷ [] }
    ∷ record { number = 0; values = pos 108 ∷ pos 216 ∷ [] }
    ∷ record { number = 5; values = pos 8 ∷ [] }
    ∷ record { number = 0; values = pos 108 ∷ pos 216 ∷ [] }
    ∷ record { number = 14; values = pos 8 ∷ [] }
    ∷ record { number = 1; values = pos 8 ∷ [] }
    ∷ []
views = refl

pub view-of-the-second : round_view standard log 1 ≡ joined (texts (raising1and2 " 2   0   2   0           1\n" " 4   0   0   0           2\n"))
view-of-the-second = refl

-- (1, 0) has total 2, and so has (0, 1): the first on a tie; (1, 1) has 0
pub scores :
    map choice_says
    (better_of standard clash.case clash.weights (1 ∷ 0 ∷ []) (0 ∷ 1 ∷ [])
    ∷ better_of standard clash.case clash.weights (1 ∷ 1 ∷ []) (0 ∷ 1 ∷ [])
    ∷ better_of standard clash.case clash.weights (1 ∷ 1 ∷ []) (0 ∷ [])
    ∷ [])
    ≡ record { number = 0; values = pos 0 ∷ [] }
    ∷ record { number = 0; values = pos 1 ∷ [] }
    ∷ record { number = 4; values = [] }
    ∷ []
scores = refl
