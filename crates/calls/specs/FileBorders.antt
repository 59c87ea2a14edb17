-- Samples of case files, read and refused at each of their lines, and of what the programs print, in tables as those of Borders. Assumes nothing.
use Rattle.std.specs.Prelude.{refl, List, [], ◌∷◌, ◌++◌, ℕ, ◌+◌, ◌*◌, ◌-◌, ℤ, pos, take, drop, replicate}
use Rattle.definitions.specs.declared.Rulebook.TheVariants.{Desk}
use Rattle.definitions.specs.declared.Case.{Case}
use Rattle.definitions.specs.Rules.{standard, edge_places, full_length}
use Rattle.definitions.specs.Answers.{Says, size_says, file_says}
use Rattle.definitions.specs.CaseFiles.{CaseCall, case_text, case_size, read_case, read_case_alone}
use Rattle.definitions.specs.Engine.{engine_next, run}
use Rattle.definitions.specs.Programs.{bytes_of, press_run, press_prints, replay_prints}
use Rattle.definitions.specs.Samples.{Input, full, given, triangle, zeros}
use Rattle.definitions.specs.Borders.{◌is◌, Hold, l, says, no, value, xs, two_steps, last_round, step1, step2, pair_step, press_step, by_one}
use Rattle.definitions.specs.BarredBorders.{locked, patchy}
use Rattle.definitions.specs.BarredRuns.{late, over_no_choice, over_not_lower, at_border, void_of, by_twos}

-- ---- case files

abbrev file : Input → List ℕ
file i = case_text standard i.case i.weights

-- P1's file cut, and with something after it
abbrev cut : ℕ → List ℕ
cut bytes = take bytes (file triangle)

abbrev more : List ℕ → List ℕ
more t = file triangle ++ t

-- The answer, the record and the table, which held sevens. Refused at a line after so many good weights, the record is all zero, and the
-- places not reached keep what they held. A file is read as the front of an input, and by `read` also alone; `put` has another line in the place of one.
abbrev FileRead : Type 0
FileRead = Says × Case × List ℤ

abbrev refused_at : ℕ → ℕ → ℕ → FileRead
refused_at at good n =
    let zero : List ℕ = replicate edge_places 0 in
    (says n (pos at ∷ []), (given 0 0 0 zero zero []).case, take good triangle.weights ++ replicate (full_length standard 2 - good) (pos 7))

pub files :
    let told : CaseCall → FileRead = λ q. (file_says q.read.answer, q.read.case, q.table) in
    let sevens : List ℤ = replicate (full_length standard 2) (pos 7) in
    let front : List ℕ → List FileRead = λ t. told (read_case Desk t sevens) ∷ [] in
    let read : List ℕ → List FileRead = λ t. told (read_case Desk t sevens) ∷ told (read_case_alone Desk t sevens) ∷ [] in
    let once : ℕ → ℕ → ℕ → List FileRead = λ at good n. refused_at at good n ∷ [] in
    let both : ℕ → ℕ → ℕ → List FileRead = λ at good n. refused_at at good n ∷ refused_at at good n ∷ [] in
    let put : ℕ → List ℕ → List ℕ = λ at t. cut (27 * at) ++ t ++ drop (27 * (at + 1)) (file triangle) in
    let rest : List ℕ = replicate (edge_places - 3) 0 in
    let whole : FileRead = (value (pos 22), (given 3 2 3 (0 ∷ 0 ∷ 1 ∷ rest) (1 ∷ 2 ∷ 2 ∷ rest) []).case, triangle.weights) in
    let fewer : FileRead = (value (pos 17), (given 3 2 2 (0 ∷ 0 ∷ 0 ∷ rest) (1 ∷ 2 ∷ 0 ∷ rest) []).case, full 2 (take 14 triangle.weights)) in
    Hold
    (read (more []) is (whole ∷ whole ∷ []) ∷ read (more (xs 27)) is (whole ∷ refused_at 22 18 1 ∷ [])
    ∷ read (more (l 4 0 0 0 0)) is (whole ∷ refused_at 22 18 2 ∷ []) ∷ read (more (xs 26)) is (whole ∷ refused_at 22 18 14 ∷ [])
    -- the head, the table's length, a cut
    ∷ read [] is both 0 0 14 ∷ read (cut 26) is both 0 0 14 ∷ read (xs 27) is both 0 0 1
    ∷ front (put 0 (l 11 3 2 3 0)) is once 0 0 2 ∷ front (put 0 (l 10 0 2 3 1)) is once 0 0 2 ∷ front (put 0 (l 10 0 2 3 0)) is once 0 0 3
    ∷ front (put 0 (l 10 3 0 3 0)) is once 0 0 3 ∷ front (put 0 (l 10 3 9 3 0)) is once 0 0 3 ∷ front (put 0 (l 10 3 2 97 0)) is once 0 0 3
    ∷ front (put 0 (bytes_of "10   3   2  -1           0\n")) is once 0 0 3 ∷ front (put 0 (l 10 3 1 3 0)) is once 0 0 4
    ∷ read (take 30 (put 0 (l 10 3 3 3 0))) is both 0 0 4 ∷ read (cut 27) is both 1 0 14 ∷ read (cut 135) is both 5 4 14
    ∷ read (cut 593) is both 21 17 14
    -- the counts of links and pairs do not change the length: a pair less is a case of 17 lines
    ∷ read (take 30 (put 0 (l 10 3 2 4 0))) is both 1 0 14 ∷ front (put 0 (l 10 3 2 2 0)) is (fewer ∷ [])
    -- weights of variables
    ∷ front (put 2 (l 11 1 1 0 0)) is once 2 1 5 ∷ front (put 2 (l 11 0 0 0 1_000_001)) is once 2 1 5 ∷ front (put 2 (l 11 0 1 1 0)) is once 2 1 2
    ∷ front (put 2 (l 11 0 1 0 1_000_001)) is once 2 1 8 ∷ front (put 2 (bytes_of "11   0   1   0    -1000001\n")) is once 2 1 8
    -- edges
    ∷ front (put 12 (l 12 0 0 2 0)) is once 12 10 5 ∷ front (put 12 (l 12 1 0 3 0)) is once 12 10 5 ∷ front (put 12 (l 12 1 3 0 0)) is once 12 10 5
    ∷ front (put 12 (bytes_of "12   1  -1   2           0\n")) is once 12 10 5 ∷ front (put 12 (l 12 0 2 0 1)) is once 12 10 2
    ∷ read (put 12 (l 12 1 2 0 0)) is both 12 10 6 ∷ front (put 12 (l 12 1 1 1 0)) is once 12 10 6 ∷ front (put 12 (l 12 1 0 1 0)) is once 12 10 7
    ∷ front (put 17 (l 12 2 0 1 0)) is once 17 14 7 ∷ front (put 17 (l 12 2 0 2 0)) is once 17 14 7
    -- weights of edges
    ∷ front (put 9 (l 13 1 0 1 0)) is once 9 7 5 ∷ front (put 9 (l 13 0 1 1 0)) is once 9 7 5 ∷ front (put 9 (l 13 0 0 0 1_000_001)) is once 9 7 5
    ∷ front (put 9 (l 13 0 0 1 1_000_001)) is once 9 7 8 ∷ front (put 9 (bytes_of "13   0   0   1    -1000001\n")) is once 9 7 8
    ∷ front (put 9 (l 12 5 0 1 0)) is once 9 7 2
    ∷ [])
files = refl

-- the greatest D and m, after which the file is cut; a table as long as the case's own places; what the head says
pub heads :
    Hold
    (file_says (read_case Desk (l 10 2 8 96 0) (zeros 6_528)).read.answer is says 14 (pos 1 ∷ [])
    ∷ file_says (read_case Desk (file triangle) (zeros 18)).read.answer is says 4 (pos 0 ∷ [])
    ∷ size_says (case_size Desk (cut 27)) is says 0 (pos 3 ∷ pos 2 ∷ pos 3 ∷ pos 480 ∷ [])
    ∷ size_says (case_size Desk (l 10 48 8 96 0)) is says 0 (pos 48 ∷ pos 8 ∷ pos 96 ∷ pos 6_528 ∷ [])
    ∷ size_says (case_size Desk (cut 26)) is no 14 ∷ size_says (case_size Desk (l 10 3 2 3 1)) is no 2
    ∷ [])
heads = refl

-- ---- programs: what they print; at the end the engine refused after a round

pub prints :
    let replay : List ℕ → List ℕ = λ t. replay_prints Desk t in
    Hold
    (replay (cut 100) is bytes_of "refused 14 3\n" ∷ replay [] is bytes_of "refused 14 0\n" ∷ replay (more (xs 28)) is bytes_of "refused 1 22\n"
    ∷ replay (more (l 4 0 0 0 5 ++ l 4 0 0 0 5)) is bytes_of "refused 12 22\n" ∷ replay (more (l 2 0 3 0 1)) is bytes_of "refused 14 23\n"
    ∷ replay (more (l 2 0 3 0 1 ++ l 3 3 0 0 0 ++ xs 1)) is bytes_of "refused 14 24\n"
    ∷ replay (file two_steps ++ step1 ++ step2) is bytes_of "accepted 2 -1\n"
    ∷ press_prints Desk (file two_steps) is (pair_step ++ press_step) ∷ press_prints Desk (cut 100) is bytes_of "refused 14 3\n"
    ∷ press_run 22 (run standard engine_next last_round.case 5 last_round.weights) is (by_one ++ bytes_of "refused 11 22\n")
    ∷ [])
prints = refl

-- ---- programs: the void lines are the last that `press` prints, and `replay` takes them

pub void-prints :
    let press : Input → List ℕ = λ i. press_prints Desk (file i) in
    let replay : Input → List ℕ = λ i. replay_prints Desk (file i ++ press i) in
    Hold
    (press locked is void_of 0 (1 ∷ 2 ∷ []) ∷ press late is (by_twos 0 2 ++ void_of 0 (2 ∷ 4 ∷ []))
    ∷ replay locked is bytes_of "void\n" ∷ replay late is bytes_of "void\n" ∷ replay over_no_choice is bytes_of "void\n"
    ∷ replay patchy is bytes_of "accepted 2 4\n" ∷ replay over_not_lower is bytes_of "accepted 2 1\n"
    ∷ press_run 10 (run standard engine_next at_border.case 5 at_border.weights) is bytes_of "refused 11 10\n"
    ∷ [])
void-prints = refl
