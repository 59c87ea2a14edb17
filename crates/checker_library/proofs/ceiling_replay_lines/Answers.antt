-- By whether the bytes say a record. Assumes nothing.
use mathlib.Core.Path.{◌≡◌, refl, sym, ◌∙◌}
use mathlib.Core.Bool.{true, false}
use Rattle.encoding.specs.RecordBytes.{is_record}
use Rattle.checker_library.specs.Calls.{replay_call}
use Rattle.checker_library.proofs.ceiling_replay_lines.Goals as goal

pub returns-then-is_record : goal.returns-then-is_record
unfolding replay_call
returns-then-is_record c =
    let e : is_record c.args.state.now ≡ true = sym c.is_record.ensures ∙ c.if-is_record.true in
    rw e (rw (c.case_of.ensures, c.record_of-replay.ensures) at c.replay_block.ensures)

pub returns-else-is_record : goal.returns-else-is_record
unfolding replay_call
returns-else-is_record c =
    let e : is_record c.args.state.now ≡ false = sym c.is_record.ensures ∙ c.if-is_record.false in
    rw e (rw (c.not_record.ensures, c.case_of-else-is_record.ensures) (refl, refl, refl))
