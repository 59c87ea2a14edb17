-- Samples of the call that asks whether the edges form no cycle (document 02, change 4), in tables as those of Borders. Assumes nothing.
use Rattle.std.specs.Prelude.{refl, [], ◌∷◌, pos}
use Rattle.integers.specs.Words.{from}
use Rattle.definitions.specs.Rules.{standard}
use Rattle.definitions.specs.Answers.{Says, verdict_says}
use Rattle.definitions.specs.Samples.{Input, given, triangle, clash, single}
use Rattle.definitions.specs.Borders.{◌is◌, Hold, no, value, edges}
use Rattle.calls.specs.Calls.{is_acyclic_answer}

abbrev none : Says
none = value (pos 1)

abbrev loop : Says
loop = value (pos 0)

pub answers :
    let asked : Input → Says = λ i. verdict_says (is_acyclic_answer standard i.case) in
    Hold
    ( -- no table is asked of it
    asked clash is none ∷ asked single is none ∷ asked triangle is loop ∷ asked (given 2 1 1 (0 ∷ []) (1 ∷ []) []) is none
    -- the longest chain, and closed
    ∷ asked (given 48 8 47 (from 0 47) (from 1 47) []) is none ∷ asked (given 48 8 48 (0 ∷ from 0 47) (47 ∷ from 1 47) []) is loop
    -- 3 before 5, 5 before 6, 6 before 7
    ∷ asked (given 0 1 0 [] [] []) is no 3 ∷ asked (given 49 1 0 [] [] []) is no 3 ∷ asked (given 1 0 0 [] [] []) is no 3
    ∷ asked (given 1 9 0 [] [] []) is no 3 ∷ asked (edges 97 0 9 []) is no 3
    ∷ asked (edges 1 0 2 []) is no 5 ∷ asked (edges 2 2 0 []) is no 5 ∷ asked (edges 2 1 0 []) is no 6 ∷ asked (edges 1 1 1 []) is no 6
    ∷ asked (edges 2 0 1 []) is no 7 ∷ asked (given 3 1 3 (0 ∷ 1 ∷ 0 ∷ []) (1 ∷ 2 ∷ 1 ∷ []) []) is no 7
    ∷ [])
unfolding is_acyclic_answer
answers = refl
