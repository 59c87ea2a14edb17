-- Samples at the borders: the rules of document 01 just inside and just outside, in tables of questions with the answers that the document
-- gives, one theorem over each table. They rule out wrong definitions that the samples of document 01 leave alive. Assumes nothing.
use Rattle.definitions.specs.declared.Refusal.{Refusal}
use Rattle.std.specs.Prelude.{◌≡◌, refl, Bool, true, false, List, [], ◌∷◌, ◌++◌, map, ℕ, ℤ, pos, take, drop, replicate, Result, Ok, Err, None}
use Prim.Native.String.{String}
use Rattle.integers.specs.Words.{joined, minus}
use Rattle.definitions.specs.declared.Case.{Case}
use Rattle.definitions.specs.declared.Refusal.TheVariants.{LeavesRange}
use Rattle.definitions.specs.declared.RunAnswer.{RunAnswer}
use Rattle.definitions.specs.declared.RunAnswer.TheVariants.{Settled, Limit}
use Rattle.definitions.specs.Rules.{Rules, standard}
use Rattle.definitions.specs.Refusals.{number_of}
use Rattle.definitions.specs.Answers.{Says}
use Rattle.definitions.specs.Answers.{span_says, choice_says}
use Rattle.definitions.specs.Case.{is_assignment}
use Rattle.definitions.specs.Valid.{valid}
use Rattle.definitions.specs.Moves.{shift, active_press}
use Rattle.definitions.specs.Lines.{line, line_text}
use Rattle.definitions.specs.Replay.{State, step, fresh, after, keeps_rules, some_press}
use Rattle.definitions.specs.Engine.{Next, round, stopped, presses_next, run}
use Rattle.definitions.specs.Views.{round_span, round_view}
use Rattle.definitions.specs.Scoring.{better_of, better}
use Rattle.definitions.specs.Programs.{press_limit, bytes_of}
use Rattle.definitions.specs.Samples.{Input, Question, replay-of, Reply, replayed, Sample, answer}
use Rattle.definitions.specs.Samples.{full, given, own, own_weights, triangle, couple, clash, texts, log5, by_two, log8, two_rounds, zeros}

-- ---- questions and answers

pub record Entry (A : Type 0) : Type 0 where
  pub asked : A
  pub due : A

infix 70 ◌is◌
abbrev pub ◌is◌ : {A : Type 0} → A → A → Entry A
a is b = record { asked = a; due = b }

-- each question of a table has the answer that stands there
abbrev pub Hold : {A : Type 0} → List (Entry A) → Type 0
Hold table = map (λ q. q.asked) table ≡ map (λ q. q.due) table

abbrev pub says : ℕ → List ℤ → Says
says n zs = record { number = n; values = zs }

abbrev pub no : ℕ → Says
no n = says n []

abbrev pub value : ℤ → Says
value z = says 0 (z ∷ [])

-- ---- cases

-- the greatest working weight
abbrev pub W : ℕ
W = 500_000_000

-- P4's case with another first weight, and P1's with another variable 0
abbrev pub clash_from : ℤ → Input
clash_from z = couple (z ∷ drop 1 (own_weights clash))

abbrev pub triangle_from : ℤ → Input
triangle_from z = record { case = triangle.case; weights = z ∷ z ∷ drop 2 triangle.weights }

-- two variables, D 1, and m edges, all from i to j
abbrev pub edges : ℕ → ℕ → ℕ → List ℤ → Input
edges m i j w = given 2 1 m (replicate m i) (replicate m j) w

-- ---- valid cases, assignments, logs that keep the rules

pub tests :
    let starts : Input → Bool = λ i. valid standard i.case i.weights in
    let keeps : List String → Bool = λ log. keeps_rules standard clash.case clash.weights (texts log) in
    Hold
    (starts (clash_from (pos 1_000_000)) is true ∷ starts (clash_from (minus 1_000_000)) is true
    ∷ starts (clash_from (pos 1_000_001)) is false ∷ starts (clash_from (minus 1_000_001)) is false
    ∷ is_assignment clash.case (0 ∷ 1 ∷ []) is true ∷ is_assignment clash.case (0 ∷ 2 ∷ []) is false
    ∷ is_assignment clash.case (0 ∷ []) is false ∷ is_assignment clash.case (0 ∷ 0 ∷ 0 ∷ []) is false
    ∷ keeps [] is true ∷ keeps log5 is true ∷ keeps by_two is true ∷ keeps log8 is false ∷ keeps (take 2 log5) is false ∷ keeps (take 3 by_two) is false
    ∷ [])
tests = refl

-- ---- the plain replay

-- a line with no negative number, as text
abbrev pub l : ℕ → ℕ → ℕ → ℕ → ℕ → List ℕ
l kind a b c amount = line_text 12 (line kind (pos a) (pos b) (pos c) (pos amount))

-- the number of a line: first in P1's case and in P4's; in P1's after these scopes are raised, in a press of variable 1 by three;
-- in P4's after so many rounds
pub lines :
    let number_in : State → List ℕ → ℕ = λ s t. number_of (step standard s t).refusal in
    let p1 : List ℕ → ℕ = λ t. number_in (fresh triangle.case triangle.weights) t in
    let p4 : List ℕ → ℕ = λ t. number_in (fresh clash.case clash.weights) t in
    let raised : List ℕ → List ℕ → ℕ =
    λ xs t. number_in (after standard (fresh triangle.case triangle.weights) (l 2 1 3 0 1 ∷ map (λ x. l 3 x 0 0 0) xs)) t
    in
    let w : List ℤ = clash.weights in
    let late : ℕ → State =
    λ n. record { case = clash.case; starting = w; weights = w; rounds = n; start = pos 9; held = None; moving = false; void = false; refusal = None }
    in
    Hold
    ( -- 1 and 2: kinds due and unused columns
    p1 (take 26 (l 1 0 0 0 1)) is 1 ∷ p1 (l 3 3 0 0 0) is 2 ∷ p1 (l 10 3 2 3 0) is 2 ∷ p1 (l 2 0 2 1 1) is 2
    ∷ p1 (l 4 1 0 0 0) is 2 ∷ p1 (l 4 0 1 0 0) is 2 ∷ p1 (l 4 0 0 1 0) is 2 ∷ p1 (bytes_of "-1   0   0   0           0\n") is 2
    ∷ raised [] (l 1 0 0 0 1) is 2 ∷ raised [] (l 2 0 2 0 1) is 2 ∷ raised [] (l 4 0 0 0 1) is 2
    ∷ raised [] (l 3 3 1 0 0) is 2 ∷ raised [] (l 3 3 0 1 0) is 2 ∷ raised [] (l 3 3 0 0 1) is 2
    -- 5 of a shift
    ∷ p1 (l 1 3 0 0 1) is 5 ∷ p1 (l 1 0 2 0 1) is 5 ∷ p1 (l 1 0 0 2 1) is 5 ∷ p1 (l 1 0 0 0 0) is 5
    ∷ p1 (bytes_of " 1  -1   0   0           1\n") is 5 ∷ p1 (l 1 0 0 0 1_000_000_001) is 5
    ∷ p1 (bytes_of " 1   0   0   0 -1000000001\n") is 5 ∷ p1 (bytes_of " 1   0   0   0 -1000000000\n") is 11
    -- 5 of a press, whose count is 1 to s − 1
    ∷ p1 (l 2 3 2 0 1) is 5 ∷ p1 (l 2 0 0 0 1) is 5 ∷ p1 (l 2 0 5 0 1) is 0 ∷ p1 (l 2 0 6 0 1) is 5
    ∷ p1 (l 2 0 2 0 0) is 5 ∷ p1 (l 2 0 2 0 1_000_000_000) is 0 ∷ p1 (l 2 0 2 0 1_000_000_001) is 5
    -- 5 and 9 of a raise line
    ∷ raised [] (l 3 0 0 0 0) is 0 ∷ raised [] (l 3 6 0 0 0) is 5 ∷ raised (5 ∷ []) (bytes_of " 3  -1   0   0           0\n") is 5
    ∷ raised [] (l 3 1 0 0 0) is 9 ∷ raised (0 ∷ []) (l 3 1 0 0 0) is 9 ∷ raised (3 ∷ []) (l 3 3 0 0 0) is 9
    ∷ raised (4 ∷ []) (l 3 3 0 0 0) is 9 ∷ raised (3 ∷ 5 ∷ []) (l 3 4 0 0 0) is 9 ∷ raised (3 ∷ 5 ∷ []) (l 3 6 0 0 0) is 5
    -- 11: 2 + (W − 1) is outside; W and −W are inside
    ∷ p4 (l 1 0 0 0 499_999_999) is 11 ∷ p4 (l 1 0 1 1 W) is 0
    ∷ p4 (bytes_of " 1   0   1   1  -500000000\n") is 0 ∷ p4 (bytes_of " 1   0   1   1  -500000001\n") is 11
    -- 12 before 13; 5 before 12
    ∷ p4 (l 4 0 0 0 3) is 12 ∷ p4 (l 4 0 0 0 5) is 12 ∷ p4 (l 4 0 0 0 4) is 13
    ∷ number_in (late 999_999_999_999_999_999) (l 4 0 0 0 5) is 5 ∷ number_in (late 999_999_999_999_999_999) (l 1 0 0 0 1) is 0
    ∷ number_in (late 999_999_999_999_999_998) (l 4 0 0 0 4) is 0
    ∷ [])
lines = refl

infix 70 ◌gives◌
abbrev ◌gives◌ : Question → Reply → Sample
q gives a = record { ask = q; gives = a }

-- each line's number and the end's; nothing is changed
abbrev turned : List ℕ → ℕ → Reply
turned numbers end = replayed numbers end 0 (pos 4) (own_weights clash)

-- logs, in the form of the sample cases
abbrev pub logs : List Sample
logs =
    -- a refusal stands; 10 before 11; a press held, and refused in a press
    replay-of clash (" 4   0   0   0           5\n" ∷ " 2   0   2   0           1\n" ∷ "x" ∷ []) gives turned (12 ∷ 12 ∷ 12 ∷ []) 12
    ∷ replay-of clash (" 2   0   1   0  1000000000\n" ∷ " 3   1   0   0           0\n" ∷ []) gives turned (0 ∷ 10 ∷ []) 10
    ∷ replay-of clash (" 2   0   2   0           1\n" ∷ " 3   1   0   0           0\n" ∷ []) gives turned (0 ∷ 0 ∷ []) 14
    ∷ replay-of clash (" 2   0   2   0           1\n" ∷ " 3   0   0   0           0\n" ∷ []) gives turned (0 ∷ 9 ∷ []) 9
    -- shifts of end 1 and of other edges
    ∷ replay-of triangle (" 1   2   1   0           5\n" ∷ []) gives
    replayed (0 ∷ []) 14 0 (pos 5)
    (zeros 4 ++ (pos 5 ∷ pos 0 ∷ take 8 (drop 6 (own_weights triangle))) ++ (minus 6 ∷ pos 0 ∷ minus 5 ∷ minus 1 ∷ []))
    ∷ replay-of triangle (" 1   1   0   1          -4\n" ∷ []) gives
    replayed (0 ∷ []) 14 0 (pos 4)
    (pos 0 ∷ minus 4 ∷ take 8 (drop 2 (own_weights triangle)) ++ (minus 1 ∷ pos 0 ∷ pos 4 ∷ pos 3 ∷ drop 14 (own_weights triangle)))
    ∷ []

pub logs-hold : map (λ s. answer s.ask) logs ≡ map (λ s. s.gives) logs
logs-hold = refl

-- a press line anywhere, refused or not; raise, bound and void lines are none, nor what is not in columns
pub press-lines : Hold (
    some_press standard [] is false
    ∷ some_press standard (texts log5) is false
    ∷ some_press standard (texts by_two) is true
    ∷ some_press standard (texts (log5 ++ by_two)) is true
    ∷ some_press standard (texts (" 2   9   9   9           0\n" ∷ [])) is true
    ∷ some_press standard (texts (" 5   0   2   0           0\n" ∷ " 3   1   0   0           0\n" ∷ " 2   0   0   0           0" ∷ [])) is false
    ∷ []
    )
press-lines = refl

-- the state keeps the starting weights: after two rounds and a refused line
pub starting-kept : (after standard (fresh clash.case clash.weights) (texts (two_rounds ++ ("x" ∷ [])))).starting ≡ clash.weights
starting-kept = refl

-- ---- lines that are none

abbrev pub xs : ℕ → List ℕ
xs n = replicate n 120

-- ---- the engine

-- edges (0,1), (1,2): by presses alone a round of five lines and then one of four; the engine makes a pair round of two lines and then a press
-- of five
abbrev pub two_steps : Input
two_steps =
    given 3 2 2 (0 ∷ 1 ∷ []) (1 ∷ 2 ∷ [])
    (pos 0 ∷ pos 0 ∷ pos 1 ∷ pos 0 ∷ minus 1 ∷ pos 0 ∷ minus 2 ∷ pos 0 ∷ minus 2 ∷ minus 1 ∷ zeros 3 ++ (minus 1 ∷ []))

abbrev pub after_one : List ℤ
after_one = minus 1 ∷ minus 1 ∷ pos 1 ∷ zeros 3 ++ (minus 1 ∷ pos 0 ∷ minus 1 ∷ zeros 5)

abbrev pub after_two : List ℤ
after_two = minus 2 ∷ minus 2 ∷ pos 1 ∷ pos 1 ∷ zeros 10

-- a round, after which variable 0 is at −W
abbrev pub last_round : Input
last_round = couple (minus 499_999_999 ∷ minus W ∷ pos 0 ∷ pos 2 ∷ pos 0 ∷ minus 2 ∷ pos 0 ∷ minus 2 ∷ [])

abbrev pub after_last : List ℤ
after_last = minus W ∷ minus W ∷ pos 1 ∷ pos 2 ∷ pos 0 ∷ minus 1 ∷ pos 0 ∷ minus 1 ∷ []

-- a round: the press line, the scopes raised, the bound line
abbrev pub pressed : List ℕ → List ℕ → String → List ℕ
pressed begin scopes stated = begin ++ joined (map (λ x. l 3 x 0 0 0) scopes) ++ bytes_of stated

abbrev pub step1 : List ℕ
step1 = pressed (l 2 0 3 0 1) (2 ∷ 3 ∷ 4 ∷ []) " 4   0   0   0           0\n"

abbrev pub step2 : List ℕ
step2 = pressed (l 2 0 2 0 1) (1 ∷ 3 ∷ []) " 4   0   0   0          -1\n"

abbrev pub pair_step : List ℕ
pair_step = bytes_of " 1   0   1   0          -1\n" ++ bytes_of " 4   0   0   0           0\n"

abbrev pub after_pair : List ℤ
after_pair = zeros 4 ++ (minus 1 ∷ pos 0 ∷ minus 1 ∷ pos 0 ∷ minus 1 ∷ minus 1 ∷ zeros 3 ++ (minus 1 ∷ []))

abbrev pub press_step : List ℕ
press_step = pressed (l 2 0 3 0 1) (2 ∷ 3 ∷ 4 ∷ []) " 4   0   0   0          -1\n"

abbrev pub after_press : List ℤ
after_press = minus 1 ∷ minus 1 ∷ zeros 12

abbrev pub by_one : List ℕ
by_one = pressed (l 2 0 2 0 1) (1 ∷ 2 ∷ []) " 4   0   0   0  -499999998\n"

abbrev pub ones : ℕ → List ℕ
ones n = replicate n 1

-- link weights 2, 1 and 2, 0, pair weights 0 but −3 at (0,0): the own scope's gap is strictly least
abbrev near_tie : Input
near_tie = couple (pos 2 ∷ pos 1 ∷ pos 2 ∷ pos 0 ∷ minus 3 ∷ zeros 3)

-- links 0 and 1, and 0 and 2, clash as in P4: the active value of link 0 is refuted through link 1 and through link 2
abbrev two_reasons : Input
two_reasons =
    given 3 2 2 (0 ∷ 0 ∷ []) (1 ∷ 2 ∷ [])
    (pos 2 ∷ pos 0 ∷ pos 2 ∷ pos 0 ∷ pos 2 ∷ pos 0 ∷ minus 3 ∷ zeros 3 ++ (minus 3 ∷ zeros 3))

abbrev pub ToldRun : Type 0
ToldRun = Result RunAnswer Refusal × ℕ × List ℤ × List ℕ

abbrev pub ran_by : (Rules → Case → List ℤ → Next) → Input → ℕ → ToldRun
ran_by next i limit =
    let q = run standard next i.case limit i.weights in
    (q.answer, q.rounds, own i.case q.weights, joined q.log)

-- Presses alone: answer, rounds, weights and log. `three` has D 3 and no partner for value 0 of variable 0; in `two` variable 0 clashes
-- with 1 and with 2, and the first reason is dropped; in `four` P1's triangle lies over variables 1 to 3, and variable 0 is not refuted.
pub press-runs :
    let ran = ran_by presses_next in
    let three : ℕ → ℕ → Input =
    λ first low. given 2 3 1 (0 ∷ []) (1 ∷ []) (pos first ∷ pos 1 ∷ pos 3 ∷ zeros 3 ++ replicate 3 (minus low) ++ zeros 6)
    in
    let two : ℕ → ℕ → ℕ → Input =
    λ a b low. given 3 2 2 (0 ∷ 0 ∷ []) (1 ∷ 2 ∷ [])
    (pos a ∷ pos 0 ∷ pos 2 ∷ pos 1 ∷ pos 2 ∷ pos b ∷ minus 3 ∷ zeros 3 ++ (minus low ∷ zeros 3))
    in
    let four : ℕ → ℕ → Input =
    λ a low. given 4 2 3 (1 ∷ 1 ∷ 2 ∷ []) (2 ∷ 3 ∷ 3 ∷ [])
    (zeros 2 ++ (minus a ∷ minus a ∷ zeros 4) ++ joined (replicate 3 (minus low ∷ pos 0 ∷ pos 0 ∷ minus low ∷ [])))
    in
    Hold
    (ran two_steps 1 is (Ok Limit, 1, after_one, step1) ∷ ran two_steps 5 is (Ok Settled, 2, after_two, step1 ++ step2)
    ∷ ran (triangle_from (minus W)) 5 is (Err LeavesRange, 0, own_weights (triangle_from (minus W)), [])
    ∷ ran (triangle_from (minus W)) 0 is (Ok Limit, 0, own_weights (triangle_from (minus W)), [])
    ∷ ran last_round 5 is (Err LeavesRange, 1, after_last, by_one)
    -- P5 as it was before change 1: one round of amount 2, raising scopes 1 and 2
    ∷ ran clash 5 is (Ok Settled, 1, pos 0 ∷ pos 0 ∷ pos 2 ∷ pos 2 ∷ minus 1 ∷ zeros 3, joined (texts by_two))
    -- the own scope's gap is strictly least; trimmed upwards, scopes 1 and 3 are dropped
    ∷ ran near_tie 5 is (Ok Settled, 1, pos 1 ∷ pos 1 ∷ pos 2 ∷ pos 1 ∷ minus 2 ∷ zeros 3, pressed (l 2 0 2 0 1) (1 ∷ 2 ∷ []) " 4   0   0   0           3\n")
    ∷ ran two_reasons 5 is (
      Ok Settled,
      1,
      pos 0 ∷ pos 0 ∷ pos 2 ∷ pos 0 ∷ pos 2 ∷ pos 2 ∷ minus 3 ∷ zeros 3 ++ (minus 1 ∷ zeros 3),
      pressed (l 2 0 2 0 2) (2 ∷ 4 ∷ []) " 4   0   0   0           4\n",
    )
    -- the gap of a scope is to its greatest inactive weight; a dropped scope's does not count; the lowest variable refuted is pressed
    ∷ ran (three 5 9) 5 is (Ok Settled, 1, own_weights (three 3 7), pressed (l 2 0 1 0 2) (2 ∷ []) " 4   0   0   0           3\n")
    ∷ ran (two 2 0 3) 5 is (Ok Settled, 1, own_weights (two 0 2 1), pressed (l 2 0 2 0 2) (2 ∷ 4 ∷ []) " 4   0   0   0           4\n")
    ∷ ran (four 0 1) 5 is (Ok Settled, 1, own_weights (four 1 0), pressed (l 2 1 3 0 1) (4 ∷ 5 ∷ 6 ∷ []) " 4   0   0   0          -1\n")
    ∷ [])
press-runs = refl

-- a round of several moves, as another engine could make it: P5's press after a shift and back
abbrev detour : Rules → Case → List ℤ → Next
detour r c w = round (shift 0 1 0 (pos 3) ∷ shift 0 1 0 (minus 3) ∷ active_press c w 0 (1 ∷ 2 ∷ []) (pos 2) ∷ [])

pub detours :
    run standard detour clash.case 1 clash.weights
    ≡ stopped (Ok Limit) 1 (full 2 (pos 0 ∷ pos 0 ∷ pos 2 ∷ pos 2 ∷ minus 1 ∷ zeros 3))
    (texts (" 1   0   1   0           3\n" ∷ " 1   0   1   0          -3\n" ∷ by_two))
detours = refl

-- ---- scoring and views

-- the choice and the plan handed back
pub scores :
    let scored : Input → List ℕ → List ℕ → Says × List ℕ =
    λ i p q. (choice_says (better_of standard i.case i.weights p q), better standard i.case i.weights p q)
    in
    Hold
    (scored clash (1 ∷ 0 ∷ []) (0 ∷ 1 ∷ []) is (value (pos 0), 1 ∷ 0 ∷ []) ∷ scored clash (1 ∷ 1 ∷ []) (0 ∷ 1 ∷ []) is (value (pos 1), 0 ∷ 1 ∷ [])
    ∷ scored clash (1 ∷ 1 ∷ []) (0 ∷ 2 ∷ []) is (no 5, []) ∷ scored clash (2 ∷ 0 ∷ []) (0 ∷ 1 ∷ []) is (no 5, [])
    ∷ scored clash (9 ∷ 9 ∷ []) (0 ∷ []) is (no 4, []) ∷ scored clash (0 ∷ []) (0 ∷ 1 ∷ []) is (no 4, [])
    ∷ scored (clash_from (pos 1_000_001)) (1 ∷ 1 ∷ []) (0 ∷ 1 ∷ []) is (no 8, [])
    ∷ scored (clash_from (minus 1_000_001)) (1 ∷ 1 ∷ []) (0 ∷ 1 ∷ []) is (no 8, [])
    ∷ [])
scores = refl

-- where the round lies and the stretch of the log; what comes after the round is not looked at, and no move is checked
pub views :
    let view : List ℕ → ℕ → Says × List ℕ = λ log n. (span_says (round_span standard log n), round_view standard log n) in
    Hold
    (view (xs 28) 0 is (says 1 (pos 0 ∷ []), []) ∷ view (step1 ++ xs 1) 1 is (says 14 (pos 5 ∷ []), []) ∷ view [] 0 is (says 5 (pos 0 ∷ []), [])
    ∷ view (step1 ++ step2) 1 is (says 0 (pos 135 ∷ pos 243 ∷ []), step2) ∷ view (step1 ++ step2) 2 is (says 5 (pos 9 ∷ []), [])
    ∷ view (step1 ++ xs 28) 0 is (says 0 (pos 0 ∷ pos 135 ∷ []), step1) ∷ view (l 4 9 9 9 9) 0 is (says 0 (pos 0 ∷ pos 27 ∷ []), l 4 9 9 9 9)
    ∷ [])
views = refl

-- ---- programs

pub rounds-of-press : press_limit ≡ 100_000
rounds-of-press = refl
