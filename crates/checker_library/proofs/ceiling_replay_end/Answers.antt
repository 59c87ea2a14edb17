-- By whether the bytes say a record. Assumes nothing.
use mathlib.Core.Path.{◌≡◌, sym, ◌∙◌}
use mathlib.Core.Bool.{true, false}
use Rattle.encoding.specs.RecordBytes.{is_record}
use Rattle.checker_library.specs.Calls.{end_call}
use Rattle.checker_library.proofs.ceiling_replay_end.Goals as goal

pub returns-then-is_record : goal.returns-then-is_record
unfolding end_call
returns-then-is_record c =
    let e : is_record c.args.state.now ≡ true = sym c.is_record.ensures ∙ c.if-is_record.true in
    rw e
    (rw (
      c.rounds_of.ensures,
      c.end_with.ensures,
      c.is_over.ensures,
      c.end-end.ensures,
      c.case_of.ensures,
      c.record_of-replay.ensures,
    ))

pub returns-else-is_record : goal.returns-else-is_record
unfolding end_call
returns-else-is_record c =
    let e : is_record c.args.state.now ≡ false = sym c.is_record.ensures ∙ c.if-is_record.false in
    rw e (rw (c.not_record_at_end.ensures, c.case_of-else-is_record.ensures))
