-- The calls on a case and a record as bytes. What is refused changes no byte and no weight, but where a line says so. Assumes nothing.
use Rattle.definitions.specs.declared.Refusal.{Refusal}
use Rattle.definitions.specs.declared.RefusedAt.{RefusedAt}
use Rattle.std.specs.Prelude.{true, false, List, ◌∷◌, ℕ, ℤ, eqb, if◌then◌else◌, Result, Ok, Err, ⊤}
use Rattle.definitions.specs.declared.Rulebook.TheVariants.{Desk}
use Rattle.definitions.specs.declared.Case.{Case}
use Rattle.definitions.specs.declared.CaseRead.{CaseRead}
use Rattle.definitions.specs.declared.Refusal.TheVariants.{CutShort}
use Rattle.definitions.specs.Rules.{rules_of}
use Rattle.definitions.specs.Refusals.{first_refusal}
use Rattle.definitions.specs.Answers.{outcome_says, figure_says, file_says, outcome_of}
use Rattle.definitions.specs.Valid.{working_weight, limit_test, edge_tests, handed_over}
use Rattle.definitions.specs.CaseFiles.{read_case_alone}
use Rattle.calls.specs.Calls.{supported_value_call}
use Rattle.checker.specs.declared.Replay.{Replay}
use Rattle.checker.specs.declared.Block.{Block}
use Rattle.checker.specs.Checker.{is_void, fresh_replay, block_replay, end_replay}
use Rattle.encoding.specs.CaseBytes.{bytes_of_case, case_in}
use Rattle.encoding.specs.RecordBytes.{record_bytes, is_record, record_in}
use Rattle.checker_library.specs.declared.CeilingLines.{CeilingLines}
use Rattle.checker_library.specs.declared.CeilingRounds.{CeilingRounds}
use Rattle.checker_library.specs.declared.CeilingValue.{CeilingValue}
use Rattle.checker_library.specs.Answers.{lines_of, rounds_of, value_of}

-- ---- reading a case

-- the lent bytes of a case after it was read: a refusal leaves them
abbrev pub case_after : Result ℕ RefusedAt → CaseRead → List ℕ → List ℕ
case_after (Ok lines) read bytes = bytes_of_case read.case
case_after (Err x) read bytes = bytes

-- what is answered, and the lent bytes of a case and the lent table after it
pub record ReadCall : Type 0 where
  pub answer : CeilingLines
  pub case : List ℕ
  pub table : List ℤ

unfoldable pub read_call : List ℕ → List ℕ → List ℤ → ReadCall
read_call text bytes w =
    let call = read_case_alone Desk text w in
    record {
      answer = lines_of (file_says call.read.answer);
      case = case_after call.read.answer call.read bytes;
      table = call.table;
    }

-- ---- why a channel was kept (document 02, change 3)

-- what is answered, and the lent bytes of the family and of the partners after it
pub record ValueCall : Type 0 where
  pub answer : CeilingValue
  pub family : List ℕ
  pub partners : List ℕ

unfoldable pub value_call : List ℕ → List ℤ → ℕ → List ℕ → List ℕ → ValueCall
value_call case w link family partners =
    let call = supported_value_call (rules_of (case_in case)) (case_in case) w link family partners in
    record { answer = value_of (figure_says call.answer); family = call.family; partners = call.partners }

-- ---- the replay

-- a fresh record is always written: refused, it stands so
unfoldable pub start_record : List ℕ → List ℤ → Replay
start_record case w = fresh_replay (rules_of (case_in case)) (case_in case) w

-- what a block answers, and the record's bytes and the table after it
pub record ReplayCall : Type 0 where
  pub answer : CeilingLines
  pub state : List ℕ
  pub table : List ℤ

-- bytes that say no record are number 5, after the limits and, where a table is lent, its length
abbrev pub not_record : Case → List ℤ → ℕ
not_record c w = (outcome_says (outcome_of (first_refusal (handed_over (rules_of c) (working_weight (rules_of c)) c w false true)))).number

abbrev pub not_record_at_end : Case → ℕ
not_record_at_end c = (outcome_says (outcome_of (first_refusal (limit_test (rules_of c) c ∷ edge_tests (rules_of c) c true)))).number

-- the first refusal, and how many lines got no number
abbrev pub block_answer : Block → CeilingLines
block_answer b = record { number = (outcome_says b.answer).number; lines = b.lines }

unfoldable pub replay_call : List ℕ → List ℤ → List ℕ → List ℕ → ReplayCall
replay_call case w bytes lines =
    let call = block_replay (rules_of (case_in case)) (case_in case) w (record_in bytes) lines in
    if is_record bytes
    then record {
      answer = block_answer call.block;
      state = record_bytes call.block.replay;
      table = call.table;
    }
    else record { answer = record { number = not_record (case_in case) w; lines = 0 }; state = bytes; table = w }

-- with so many bytes of a part line left: 14, where no other number applies
abbrev pub end_with : ℕ → Result ⊤ Refusal → Result ⊤ Refusal
end_with part (Ok tt) = if eqb part 0 then Ok tt else Err CutShort
end_with part (Err x) = Err x

unfoldable pub end_call : List ℕ → List ℕ → ℕ → CeilingRounds
end_call case bytes part =
    let end = end_replay (rules_of (case_in case)) (case_in case) (record_in bytes) in
    if is_record bytes then rounds_of (record_in bytes).rounds (is_void (record_in bytes).due) (outcome_says (end_with part end))
    else record { number = not_record_at_end (case_in case); rounds = 0; void = 0 }
