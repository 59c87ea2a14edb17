-- The program `replay` as a start, a block and a finish, on all input. Assumes nothing.
use Rattle.definitions.specs.declared.Refusal.{Refusal}
use Rattle.definitions.specs.declared.RefusedAt.{RefusedAt}
use Rattle.std.specs.Prelude.{Bool, false, ◌||◌, List, [], ◌∷◌, ◌++◌, ℕ, ◌+◌, min, ℤ, Result, Ok, Err, ⊤}
use Rattle.definitions.specs.declared.Rulebook.{Rulebook}
use Rattle.definitions.specs.declared.Case.{Case}
use Rattle.definitions.specs.declared.Refusal.TheVariants.{CutShort}
use Rattle.definitions.specs.Rules.{rules_of}
use Rattle.definitions.specs.Refusals.{Test, ◌when◌, first_refusal}
use Rattle.definitions.specs.Answers.{outcome_of, refused_at}
use Rattle.definitions.specs.Valid.{working_weight, handed_over}
use Rattle.calls.specs.Calls.{WriteCall}
use Rattle.definitions.specs.CaseFiles.{read_case}
use Rattle.definitions.specs.declared.Judgement.{Judgement}
use Rattle.checker.specs.declared.Replay.{Replay}
use Rattle.checker.specs.Checker.{is_short, good_in, record_out, fresh_replay, block_replay}
use Rattle.texts.specs.Texts.{greatest_count, write_judgement_call}
use Rattle.judging.specs.declared.Judging.{Judging}

-- what stands between the blocks of an input: the case, the working weights, which are the lent table, the replay's record, and how far the input
-- was read
pub record JudgingState : Type 0 where
  pub case : Case
  pub weights : List ℤ
  pub replay : Replay
  pub answer : Result ℕ RefusedAt

-- held by value, and the lent table
abbrev pub state_of : Judging → List ℤ → JudgingState
state_of j w = record { case = j.case; weights = w; replay = j.replay; answer = j.answer }

-- lines add up, to the greatest count that is written
abbrev pub lines_counted : ℕ → ℕ → ℕ
lines_counted at more = min greatest_count (at + more)

-- after lines of which the first with a number, if any, is line `at`
abbrev pub answer_at : ℕ → Result ⊤ Refusal → Result ℕ RefusedAt
answer_at at (Ok tt) = Ok at
answer_at at (Err x) = Err (refused_at x at)

-- the end's number belongs to the line after the last
abbrev pub end_judged : ℕ → Result ⊤ Refusal → Result Judgement RefusedAt → Result Judgement RefusedAt
end_judged at (Err x) good = Err (refused_at x at)
end_judged at (Ok tt) good = good

-- the case is read as the front of the input, under a rulebook; all that follows is by the rules of the case
unfoldable pub start_judging : Rulebook → List ℕ → List ℤ → JudgingState
start_judging b front w =
    let call = read_case b front w in
    record {
      case = call.read.case;
      weights = call.table;
      replay = fresh_replay (rules_of call.read.case) call.read.case call.table;
      answer = call.read.answer;
    }

-- once refused, nothing changes
abbrev pub block_from : JudgingState → List ℕ → Result ℕ RefusedAt → JudgingState
block_from s bytes (Err x) = s
block_from s bytes (Ok lines) =
    let call = block_replay (rules_of s.case) s.case s.weights s.replay bytes in
    record {
      case = s.case;
      weights = call.table;
      replay = call.block.replay;
      answer = answer_at (lines_counted lines call.block.lines) call.block.answer;
    }

unfoldable pub block_judging : JudgingState → List ℕ → JudgingState
block_judging s bytes = block_from s bytes s.answer

-- where the input ends here: the number that stands, else 3 to 8 and 15 of everything handed over, else 14 if a press or a void line is held, a
-- move has no bound line after it and no void line is whole, or a part line is left
abbrev pub finish_tests : Case → List ℤ → Replay → Bool → List Test
finish_tests c w p part =
    handed_over (rules_of c) (working_weight (rules_of c)) c w false (record_out (rules_of c) c p)
    ++ (CutShort when (is_short p.due p.moved || part) ∷ [])

abbrev pub finish_standing : Case → List ℤ → Replay → Bool → Result ⊤ Refusal → Result ⊤ Refusal
finish_standing c w p part (Err x) = Err x
finish_standing c w p part (Ok tt) = outcome_of (first_refusal (finish_tests c w p part))

abbrev pub judgement_from : JudgingState → Bool → Result ℕ RefusedAt → Result Judgement RefusedAt
judgement_from s part (Err x) = Err x
judgement_from s part (Ok lines) =
    end_judged
    lines
    (finish_standing s.case s.weights s.replay part s.replay.standing)
    (good_in s.case s.replay s.weights)

-- the judgement where the input ends here, and its text
unfoldable pub judgement_of : JudgingState → Bool → Result Judgement RefusedAt
judgement_of s part = judgement_from s part s.answer

unfoldable pub finish_judging : JudgingState → Bool → List ℕ → WriteCall
finish_judging s part out = write_judgement_call out (judgement_of s part)
