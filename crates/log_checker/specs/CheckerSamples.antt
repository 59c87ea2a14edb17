-- Samples of the replay's calls on all input, with links that leave and join (document 02, change 5), in tables as those of Borders. Assumes
-- nothing.
use Rattle.log_checker.specs.declared.JoinBegun.{JoinBegun}
use Rattle.std.specs.Prelude.{refl, Bool, true, false, ◌&&◌, List, [], ◌∷◌, ◌++◌, map, ℕ, ◌+◌, ◌-◌, ℤ, pos, eqb, length, take, replicate, if◌then◌else◌, Ok, None, Option, Some, None}
use Rattle.integers.specs.Words.{joined, minus}
use Rattle.definitions.specs.Rules.{standard}
use Rattle.definitions.specs.Answers.{outcome_says}
use Rattle.definitions.specs.Valid.{zeros_from}
use Rattle.definitions.specs.Lines.{line, line_text}
use Rattle.definitions.specs.Samples.{Input, full, given, with_table, clash, single, zeros}
use Rattle.definitions.specs.Borders.{◌is◌, Hold, W, edges, l}
use Rattle.definitions.specs.BarredBorders.{B}
use Rattle.definitions.specs.LengthBorders.{put_at, carrying, C1, small, crowd}
use Rattle.logs.specs.LeaveSamples.{ToldCase, told_case, paired}
use Rattle.case_lines.specs.declared.Awaited.{Awaited}
use Rattle.checker.specs.declared.Target.{Target}
use Rattle.checker.specs.declared.Due.{Due}
use Rattle.checker.specs.declared.Replay.{Replay as Stretch}
use Rattle.checker.specs.Checker.{none_raised, fresh_replay as fresh_stretch}
use Rattle.log_checker.specs.Checker.{Between, fresh_replay, step_replay, end_replay, after_lines, block_replay, fold_replay, join_begun}

-- ---- what is handed over

-- a record of a stretch, with a round's start of 6
abbrev stretch_at : ℕ → Bool → Due → Stretch
stretch_at rounds moved due = record { rounds = rounds; start = pos 6; moved = moved; raised = none_raised; due = due; standing = (Ok tt) }

abbrev quiet : Stretch
quiet = stretch_at 0 false Due.MoveOrBound

abbrev places : List ℕ → List ℕ
places ends = ends ++ replicate (96 - length ends) 0

-- a case and its starting table, its working table, and a record
abbrev handing : Input → Input → Stretch → Option JoinBegun → List ℕ → Between
handing i v s joining lower = record {
  case = i.case;
  starting = i.weights;
  table = v.weights;
  replay = record { stretch = s; joining = joining; lower = places lower };
}

-- the small case, in whose starting table some weights wait
abbrev waiting : List ℤ → Input
waiting zs = with_table small (full 1 (pos 1 ∷ pos 2 ∷ pos 3 ∷ zs))

-- in the middle of a join of p pairs to it
abbrev middle : ℕ → Awaited → List ℕ → List ℤ → Between
middle p due lower zs = handing (waiting zs) small quiet (Some (join_begun p due)) lower

-- the number of what is handed over: that of a block of no lines
abbrev lent : Between → ℕ
lent b = (outcome_says (block_replay standard b []).answer).number

-- the lines due: the link's weight, a pair's ends, a pair's weight, D 1
abbrev link : Awaited
link = Awaited.VariableWeight 0 0

abbrev ends : ℕ → Awaited
ends e = Awaited.EdgeEnds e

abbrev pair : ℕ → Awaited
pair e = Awaited.EdgeWeight e 0 0

abbrev tens : ℕ → List ℤ
tens n = take n (map pos (10 ∷ 20 ∷ 30 ∷ []))

-- ---- records in the middle of a join

pub records :
    Hold
    ( -- every line of a join
    lent (middle 0 link [] []) is 0 ∷ lent (middle 2 link [] []) is 0 ∷ lent (middle 2 (ends 0) [] (tens 1)) is 0
    ∷ lent (middle 2 (pair 0) (0 ∷ []) (tens 1)) is 0 ∷ lent (middle 2 (ends 1) (0 ∷ []) (tens 2)) is 0
    ∷ lent (middle 2 (pair 1) (0 ∷ 1 ∷ []) (tens 2)) is 0 ∷ lent (middle 2 (pair 1) (1 ∷ 0 ∷ []) (tens 2)) is 0
    -- 3: the join past the limits, whatever else is wrong; 5: a count above n
    ∷ lent (middle 95 link [] []) is 5 ∷ lent (middle 96 link [] []) is 3 ∷ lent (middle 3 link [] []) is 5
    ∷ lent (middle 96 (pair 9) (9 ∷ []) (tens 3)) is 3
    ∷ lent (handing (crowd 1) (crowd 1) quiet (Some (join_begun 0 link)) []) is 3
    -- 4 of either table, before 5
    ∷ lent (handing (with_table small (zeros 143)) small quiet (Some (join_begun 3 link)) []) is 4
    ∷ lent (handing small (with_table small (zeros 145)) quiet (Some (join_begun 3 link)) []) is 4
    -- 5: a line that is none of the join's
    ∷ lent (middle 2 (Awaited.VariableWeight 1 0) [] []) is 5 ∷ lent (middle 2 (Awaited.VariableWeight 0 1) [] []) is 5
    ∷ lent (middle 0 (ends 0) [] (tens 1)) is 5 ∷ lent (middle 2 (ends 2) (0 ∷ 1 ∷ []) (tens 3)) is 5
    ∷ lent (middle 2 (pair 2) (0 ∷ 1 ∷ []) (tens 3)) is 5
    ∷ lent (middle 2 (Awaited.EdgeWeight 0 1 0) (0 ∷ []) (tens 1)) is 5 ∷ lent (middle 2 (Awaited.EdgeWeight 0 0 1) (0 ∷ []) (tens 1)) is 5
    -- 5: a lower link that is none; one that was not read is not asked
    ∷ lent (middle 2 (pair 0) (2 ∷ []) (tens 1)) is 5 ∷ lent (middle 2 (pair 0) (255 ∷ []) (tens 1)) is 5
    ∷ lent (middle 2 (pair 1) (0 ∷ 2 ∷ []) (tens 2)) is 5
    ∷ lent (middle 2 (ends 0) (255 ∷ []) (tens 1)) is 0 ∷ lent (middle 2 (ends 1) (0 ∷ 255 ∷ []) (tens 2)) is 0
    -- 5: a stretch that is not between rounds, too many rounds, a carry
    ∷ lent (handing small small (stretch_at 0 true Due.MoveOrBound) (Some (join_begun 2 link)) []) is 5
    ∷ lent (handing small small (stretch_at 0 false (Due.Raise 0 (Target.Press (pos 1)) 1 None)) (Some (join_begun 2 link)) []) is 5
    ∷ lent (handing small small (stretch_at 0 false Due.Nothing) (Some (join_begun 2 link)) []) is 5
    ∷ lent (handing small small (stretch_at 999_999_999_999_999_999 false Due.MoveOrBound) (Some (join_begun 2 link)) []) is 0
    ∷ lent (handing small small (stretch_at 1_000_000_000_000_000_000 false Due.MoveOrBound) (Some (join_begun 2 link)) []) is 5
    ∷ lent (handing (carrying (pos C1) small) small quiet (Some (join_begun 2 link)) []) is 5
    -- 6 of the case; 7: a lower link twice, before 8
    ∷ lent (handing (edges 1 1 0 []) (edges 1 1 0 []) quiet (Some (join_begun 2 link)) []) is 6
    ∷ lent (middle 2 (pair 1) (1 ∷ 1 ∷ []) (tens 2)) is 7 ∷ lent (middle 2 (pair 1) (1 ∷ 1 ∷ []) (tens 3)) is 7
    ∷ lent (middle 2 (ends 1) (1 ∷ 1 ∷ []) (tens 2)) is 0
    -- 8: a weight that waits is outside its range, or none waits there
    ∷ lent (middle 2 (ends 0) [] (pos 1_000_000 ∷ [])) is 0 ∷ lent (middle 2 (ends 0) [] (pos 1_000_001 ∷ [])) is 8
    ∷ lent (middle 2 (ends 0) [] (minus 1_000_001 ∷ [])) is 8 ∷ lent (middle 2 link [] (tens 1)) is 8 ∷ lent (middle 2 (ends 0) [] (tens 2)) is 8
    ∷ lent (middle 2 (pair 0) (0 ∷ []) (tens 2)) is 8 ∷ lent (middle 2 (ends 0) [] (pos 10 ∷ B ∷ [])) is 8
    ∷ lent (handing (put_at 143 (pos 1) small) small quiet (Some (join_begun 2 link)) []) is 8
    -- 8: the working table past the own places, barred in one table only; 15: a whole scope is barred, of the case or of those that wait
    ∷ lent (handing (waiting (tens 1)) (waiting (tens 1)) quiet (Some (join_begun 2 (ends 0))) []) is 8
    ∷ lent (handing (put_at 0 B small) small quiet (Some (join_begun 2 link)) []) is 8
    ∷ lent (handing small (put_at 0 B small) quiet (Some (join_begun 2 link)) []) is 8
    ∷ lent (handing (put_at 0 B small) (put_at 0 B small) quiet (Some (join_begun 2 link)) []) is 15
    ∷ lent (middle 2 (ends 0) [] (B ∷ [])) is 15 ∷ lent (middle 2 (ends 1) (0 ∷ []) (pos 10 ∷ B ∷ [])) is 15
    ∷ lent (middle 2 (ends 1) (0 ∷ []) (B ∷ pos 1_000_001 ∷ [])) is 8
    ∷ [])
unfolding block_replay
records = refl

-- D 2: a scope of which some weights wait is not whole
pub halves :
    let half : Awaited → List ℤ → ℕ = λ due zs.
    lent (handing (with_table clash (full 2 (take 8 clash.weights ++ zs))) clash quiet (Some (join_begun 1 due)) (1 ∷ []))
    in
    Hold
    (half (Awaited.VariableWeight 0 1) (B ∷ []) is 0 ∷ half (Awaited.EdgeEnds 0) (B ∷ pos 5 ∷ []) is 0 ∷ half (Awaited.EdgeEnds 0) (B ∷ B ∷ []) is 15
    ∷ half (Awaited.VariableWeight 0 1) (B ∷ B ∷ []) is 8 ∷ half (Awaited.EdgeWeight 0 1 1) (pos 5 ∷ pos 5 ∷ B ∷ B ∷ B ∷ []) is 0
    ∷ half (Awaited.EdgeWeight 0 1 0) (pos 5 ∷ pos 5 ∷ B ∷ B ∷ B ∷ []) is 8 ∷ half (Awaited.EdgeWeight 0 0 0) (B ∷ B ∷ []) is 15
    ∷ [])
unfolding block_replay
halves = refl

-- ---- a step: its number, the tables, the record and the case after it

-- the first eight places of a table; none where it is not as long as it must be, or holds something past them
abbrev eight : List ℤ → List ℤ
eight w = if eqb (length w) 144 && zeros_from 8 w then take 8 w else []

abbrev fill : List ℤ → List ℤ
fill zs = zs ++ zeros (8 - length zs)

-- the number that stands, the join, the first three lower links; both tables; the case
abbrev Told : Type 0
Told = (ℕ × (Option JoinBegun) × List ℕ) × (List ℤ × List ℤ) × ToldCase

abbrev told : Between → Told
told b = (
  ((outcome_says b.replay.stretch.standing).number, b.replay.joining, take 3 b.replay.lower),
  (eight b.starting, eight b.table),
  told_case b.case,
)

-- a line's number, and what is left
abbrev step : Between → List ℕ → ℕ × Told
step b t = ((outcome_says (step_replay standard b t).answer).number, told (step_replay standard b t).after)

-- what is left of the small case: nothing but the number, the join, the lower links and the weights that wait
abbrev leaves : ℕ → Option JoinBegun → List ℕ → List ℤ → ℕ × Told
leaves number joining lower zs =
    let own : List ℤ = map pos (1 ∷ 2 ∷ 3 ∷ []) in
    (number, ((number, joining, take 3 (places lower)), (fill (own ++ zs), fill own), told_case small.case))

pub steps :
    let begun : Between = handing small small quiet None (7 ∷ 8 ∷ 9 ∷ []) in
    Hold
    ( -- a join is begun; its lines, each of which leaves the next one due; what was in the places for lower links stays until it is read
    step begun (l 8 2 0 0 0) is leaves 0 (Some (join_begun 2 link)) (7 ∷ 8 ∷ 9 ∷ []) []
    ∷ step (middle 2 link (7 ∷ 8 ∷ 9 ∷ []) []) (l 11 2 0 0 10) is leaves 0 (Some (join_begun 2 (ends 0))) (7 ∷ 8 ∷ 9 ∷ []) (tens 1)
    ∷ step (middle 2 (ends 0) (7 ∷ 8 ∷ 9 ∷ []) (tens 1)) (l 12 1 0 2 0) is leaves 0 (Some (join_begun 2 (pair 0))) (0 ∷ 8 ∷ 9 ∷ []) (tens 1)
    ∷ step (middle 2 (pair 0) (0 ∷ 8 ∷ 9 ∷ []) (tens 1)) (l 13 1 0 0 20) is leaves 0 (Some (join_begun 2 (ends 1))) (0 ∷ 8 ∷ 9 ∷ []) (tens 2)
    ∷ step (middle 2 (ends 1) (0 ∷ 8 ∷ 9 ∷ []) (tens 2)) (l 12 2 1 2 0) is leaves 0 (Some (join_begun 2 (pair 1))) (0 ∷ 1 ∷ 9 ∷ []) (tens 2)
    ∷ step (middle 2 (pair 1) (0 ∷ 1 ∷ 9 ∷ []) (tens 2)) (l 13 2 0 0 30) is (
      0,
      (
        (0, None, 0 ∷ 1 ∷ 9 ∷ []),
        (fill (map pos (1 ∷ 2 ∷ 10 ∷ 3 ∷ 20 ∷ 30 ∷ [])), fill (map pos (1 ∷ 2 ∷ 10 ∷ 3 ∷ 20 ∷ 30 ∷ []))),
        paired 3 1 (0 ∷ 0 ∷ 1 ∷ []) (1 ∷ 2 ∷ 2 ∷ []) (pos 0),
      ),
    )
    -- the last line of a join of no pairs; a leave
    ∷ step (middle 0 link [] []) (l 11 2 0 0 10) is (
      0,
      (
        (0, None, 0 ∷ 0 ∷ 0 ∷ []),
        (fill (map pos (1 ∷ 2 ∷ 10 ∷ 3 ∷ [])), fill (map pos (1 ∷ 2 ∷ 10 ∷ 3 ∷ []))),
        paired 3 1 (0 ∷ []) (1 ∷ []) (pos 0),
      ),
    )
    ∷ step begun (l 7 0 0 0 0) is (
      0,
      ((0, None, 7 ∷ 8 ∷ 9 ∷ []), (fill (pos 2 ∷ []), fill (pos 2 ∷ [])), paired 1 1 [] [] (pos 0)),
    )
    ∷ [])
unfolding step_replay
steps = refl

-- ---- refused: "a refused line or end sets them to 0, a refused table or record nothing"

pub refusals :
    let at : Between = middle 2 (ends 1) (0 ∷ []) (tens 2) in
    let zeroed : ℕ → ℕ × Told = λ number. leaves number (Some (join_begun 2 (ends 1))) (0 ∷ []) [] in
    let last : Between = middle 2 (pair 1) (0 ∷ 1 ∷ []) (tens 2) in
    let zeroed_last : ℕ → ℕ × Told = λ number. leaves number (Some (join_begun 2 (pair 1))) (0 ∷ 1 ∷ []) [] in
    Hold
    ( -- a line: 1, 2, 5, 6, 7, and 8, 15 of the last one
    step at [] is zeroed 1 ∷ step at (l 13 2 0 0 30) is zeroed 2 ∷ step at (l 7 0 0 0 0) is zeroed 2 ∷ step at (l 12 2 1 2 1) is zeroed 2
    ∷ step at (l 12 1 1 2 0) is zeroed 5 ∷ step at (l 12 2 1 1 0) is zeroed 5 ∷ step at (l 12 2 2 2 0) is zeroed 6 ∷ step at (l 12 2 0 2 0) is zeroed 7
    ∷ step last (l 13 2 0 0 1_000_001) is zeroed_last 8 ∷ step last (l 15 2 0 0 0) is zeroed_last 15 ∷ step last (l 13 2 0 1 30) is zeroed_last 5
    ∷ step (middle 2 link [] []) (l 14 2 0 0 0) is leaves 15 (Some (join_begun 2 link)) [] []
    -- a record: a count above n, a line that is none of the join's, a lower link twice; weights that wait
    ∷ step (middle 3 (ends 1) (0 ∷ []) (tens 2)) (l 12 2 1 2 0) is leaves 5 (Some (join_begun 3 (ends 1))) (0 ∷ []) (tens 2)
    ∷ step (middle 2 (ends 2) (0 ∷ []) (tens 2)) (l 12 3 1 2 0) is leaves 5 (Some (join_begun 2 (ends 2))) (0 ∷ []) (tens 2)
    ∷ step (middle 2 (pair 1) (1 ∷ 1 ∷ []) (tens 2)) (l 13 2 0 0 30) is leaves 7 (Some (join_begun 2 (pair 1))) (1 ∷ 1 ∷ []) (tens 2)
    ∷ step (middle 2 (ends 1) (0 ∷ []) (tens 3)) (l 12 2 1 2 0) is leaves 8 (Some (join_begun 2 (ends 1))) (0 ∷ []) (tens 3)
    ∷ step (middle 2 (ends 1) (0 ∷ []) (pos 10 ∷ B ∷ [])) (l 12 2 1 2 0) is leaves 15 (Some (join_begun 2 (ends 1))) (0 ∷ []) (pos 10 ∷ B ∷ [])
    -- a line and a record: the line's number, which comes first, and nothing is set to 0
    ∷ step (middle 3 (ends 1) (0 ∷ []) (tens 2)) (l 7 0 0 0 0) is leaves 2 (Some (join_begun 3 (ends 1))) (0 ∷ []) (tens 2)
    ∷ step (middle 2 (ends 1) (0 ∷ []) (tens 3)) (l 12 2 2 2 0) is leaves 6 (Some (join_begun 2 (ends 1))) (0 ∷ []) (tens 3)
    -- nothing waits: a refused leave, and a refused join
    ∷ step (handing small small quiet None []) (l 7 2 0 0 0) is leaves 5 None [] []
    ∷ step (handing small small quiet None []) (l 8 3 0 0 0) is leaves 5 None [] []
    ∷ [])
unfolding step_replay
refusals = refl

-- a working table that is refused, and what stands: nothing changes any more, not even weights that wait
pub kept :
    let out : Between = handing (waiting (tens 2)) (put_at 0 (pos (W + 1)) small) quiet (Some (join_begun 2 (ends 1))) (0 ∷ []) in
    let short : Between = handing (waiting (tens 2)) (with_table small (zeros 143)) quiet (Some (join_begun 2 (ends 1))) (0 ∷ []) in
    let after : Between → List (List ℕ) → ℕ × List ℤ = λ b ts.
    let q = after_lines standard b ts in
    ((outcome_says q.replay.stretch.standing).number, eight q.starting)
    in
    let ended : Between → ℕ × List ℤ = λ b. ((outcome_says (end_replay standard b).answer).number, eight (end_replay standard b).starting) in
    let waits : ℕ → ℕ → ℕ × List ℤ = λ number n. (number, fill (map pos (1 ∷ 2 ∷ 3 ∷ []) ++ tens n)) in
    Hold
    (after out (l 12 2 1 2 0 ∷ []) is waits 8 2 ∷ after out (l 12 2 1 2 0 ∷ l 7 0 0 0 0 ∷ [] ∷ []) is waits 8 2
    ∷ after short (l 12 2 1 2 0 ∷ []) is waits 4 2
    -- the end: 14 in the middle of a join; a table or a record refused; a number that stands
    ∷ ended (middle 2 (ends 1) (0 ∷ []) (tens 2)) is waits 14 0 ∷ ended (middle 0 link [] []) is waits 14 0
    ∷ ended out is waits 8 2 ∷ ended short is waits 4 2 ∷ ended (middle 3 (ends 1) (0 ∷ []) (tens 2)) is waits 5 2
    ∷ ended (after_lines standard out (l 12 2 1 2 0 ∷ [])) is waits 8 2
    ∷ ended (after_lines standard (middle 2 (ends 1) (0 ∷ []) (tens 2)) ([] ∷ [])) is waits 1 0
    -- no join: between rounds, after a move, in a press, after a void line; 4, 5, 8 and 15 before 14
    ∷ ended (handing small small quiet None []) is waits 0 0
    ∷ ended (handing small small (stretch_at 0 true Due.MoveOrBound) None []) is waits 14 0
    ∷ ended (handing small small (stretch_at 0 false (Due.Raise 0 (Target.Press (pos 1)) 1 None)) None []) is waits 14 0
    ∷ ended (handing small small (stretch_at 0 true Due.Nothing) None []) is waits 0 0
    ∷ ended (handing (waiting (tens 1)) small (stretch_at 0 true Due.MoveOrBound) None []) is waits 8 1
    ∷ ended (handing small (with_table small []) (stretch_at 0 true Due.MoveOrBound) None []) is waits 4 0
    ∷ [])
unfolding step_replay end_replay
kept = refl

-- ---- the numbers of the line and of what was handed over, in checking order

pub orders :
    let number : Between → List ℕ → ℕ = λ b t. (outcome_says (step_replay standard b t).answer).number in
    let none : Input → Input → Between = λ i v. handing i v quiet None [] in
    let wide : Input = with_table small (zeros 145) in
    let past : Input = put_at 3 (pos 1) small in
    let barred : Input = put_at 0 B small in
    let in_press : Input → Between =
    λ i. handing i i (stretch_at 0 true (Due.Raise 0 (Target.Press (pos 1)) 1 None)) None [] in
    Hold
    ( -- a line's 1 and 2 before all; 3 of the line before 4, after 3; 5 of the line after 4, before 8
    number (none wide small) [] is 1 ∷ number (none (given 49 1 0 [] [] []) small) (l 7 0 0 0 1) is 2
    ∷ number (none wide wide) (l 8 96 0 0 0) is 3
    ∷ number (none (with_table single (zeros 145)) single) (l 7 9 0 0 0) is 3 ∷ number (none wide wide) (l 7 9 0 0 0) is 4
    ∷ number (none small wide) (l 8 3 0 0 0) is 4
    ∷ number (none past past) (l 7 9 0 0 0) is 5 ∷ number (none past small) (l 8 3 0 0 0) is 5 ∷ number (none past small) (l 8 96 0 0 0) is 3
    ∷ number (none past small) (l 7 0 0 0 0) is 8 ∷ number (none small past) (l 8 0 0 0 0) is 8 ∷ number (none barred small) (l 7 0 0 0 0) is 8
    ∷ number (none barred barred) (l 7 0 0 0 0) is 15 ∷ number (none barred barred) (l 8 0 0 0 0) is 15 ∷ number (none barred barred) (l 7 9 0 0 0) is 5
    -- 15 before 9 and 12; 8 before 9
    ∷ number (in_press barred) (l 3 0 0 0 0) is 15 ∷ number (in_press past) (l 3 0 0 0 0) is 8 ∷ number (in_press small) (l 3 0 0 0 0) is 9
    ∷ number (none barred barred) (l 4 0 0 0 9) is 15 ∷ number (none small small) (l 4 0 0 0 9) is 12
    -- in a join: 2 of the line, 3 and 5 of the record; 6 of the line, 7 of the record, 8 of either, 15
    ∷ number (middle 96 link [] []) (l 7 0 0 0 0) is 2 ∷ number (middle 96 link [] []) (l 11 9 0 0 0) is 3
    ∷ number (middle 3 link [] []) (l 11 2 0 0 1_000_001) is 5
    ∷ number (middle 2 link [] (tens 1)) (l 11 9 0 0 0) is 5 ∷ number (middle 2 (ends 1) (0 ∷ []) (tens 3)) (l 12 2 2 2 0) is 6
    ∷ number (middle 2 (ends 1) (0 ∷ []) (tens 3)) (l 12 2 0 2 0) is 7 ∷ number (middle 2 (pair 1) (1 ∷ 1 ∷ []) (tens 2)) (l 13 2 0 0 1_000_001) is 7
    ∷ number (middle 2 (pair 0) (0 ∷ []) (B ∷ [])) (l 13 1 0 0 1_000_001) is 8 ∷ number (middle 2 (pair 0) (0 ∷ []) (tens 2)) (l 15 1 0 0 0) is 8
    ∷ number (middle 2 (pair 0) (0 ∷ []) (B ∷ [])) (l 13 1 0 0 5) is 15
    ∷ [])
unfolding step_replay
orders = refl

-- ---- fresh records and blocks

pub blocks :
    let start : Input → Between = λ i.
    record { case = i.case; starting = i.weights; table = i.weights; replay = fresh_replay standard i.case i.weights }
    in
    let by : Between → List (List ℕ) → ℕ × ℕ × Told = λ b ts.
    let q = block_replay standard b (joined ts) in
    (q.lines, (outcome_says q.answer).number, told q.after)
    in
    let begun : List (List ℕ) = l 8 1 0 0 0 ∷ l 11 2 0 0 10 ∷ l 12 1 0 2 0 ∷ [] in
    let count : ℕ → ℕ × Told → ℕ × ℕ × Told = λ n q. (n, q.0, q.1) in
    -- so many lines and a number; both tables hold the same, and no join is begun
    let done : ℕ → ℕ → List ℤ → ToldCase → ℕ × ℕ × Told =
    λ n number zs c. (n, number, ((number, None, 0 ∷ 0 ∷ 0 ∷ []), (fill zs, fill zs), c))
    in
    Hold
    ( -- no line: in a fresh record, in the middle of a join, and refused there
    by (start small) [] is count 0 (leaves 0 None [] [])
    ∷ by (middle 2 (ends 0) [] (tens 1)) [] is count 0 (leaves 0 (Some (join_begun 2 (ends 0))) [] (tens 1))
    ∷ by (middle 3 (ends 0) [] (tens 1)) [] is count 0 (leaves 5 (Some (join_begun 3 (ends 0))) [] (tens 1))
    -- a join up to some line, with a part line, with a refused line and one after it; whole, and a leave after it
    ∷ by (start small) (take 1 begun) is count 1 (leaves 0 (Some (join_begun 1 link)) [] [])
    ∷ by (start small) (take 2 begun) is count 2 (leaves 0 (Some (join_begun 1 (ends 0))) [] (tens 1))
    ∷ by (start small) (begun ++ (take 9 (l 13 1 0 0 20) ∷ [])) is count 3 (leaves 0 (Some (join_begun 1 (pair 0))) [] (tens 1))
    ∷ by (start small) (begun ++ (l 13 1 0 1 20 ∷ l 13 1 0 0 20 ∷ [])) is count 3 (leaves 5 (Some (join_begun 1 (pair 0))) [] [])
    ∷ by (start small) (begun ++ (l 13 1 0 0 20 ∷ l 7 2 0 0 0 ∷ [])) is done 5 0 (map pos (1 ∷ 2 ∷ 3 ∷ [])) (paired 2 1 (0 ∷ []) (1 ∷ []) (pos 0))
    -- 13: a round is compared with the ceiling after a leave, 2, and after a join, 1, not with the 6 before
    ∷ by (start small) (l 7 0 0 0 0 ∷ l 4 0 0 0 2 ∷ []) is done 1 13 (pos 2 ∷ []) (paired 1 1 [] [] (pos 0))
    ∷ by (start small) (l 8 0 0 0 0 ∷ line_text 12 (line 11 (pos 2) (pos 0) (pos 0) (minus 5)) ∷ l 4 0 0 0 1 ∷ []) is
    done 2 13 (pos 1 ∷ pos 2 ∷ minus 5 ∷ pos 3 ∷ []) (paired 3 1 (0 ∷ []) (1 ∷ []) (pos 0))
    -- a case that is refused
    ∷ by (start (put_at 3 (pos 1) small)) (take 1 begun) is done 0 8 (map pos (1 ∷ 2 ∷ 3 ∷ 1 ∷ [])) (told_case small.case)
    ∷ [])
unfolding fresh_replay fresh_stretch step_replay fold_replay block_replay
blocks = refl
