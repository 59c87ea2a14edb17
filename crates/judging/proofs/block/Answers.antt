use mathlib.Core.Path.{sym, ap, ◌∙◌}
use Rattle.judging.specs.Judging.{state_of, block_from, block_judging}
use Rattle.judging.proofs.block.Goals as goal

pub returns-in-Err : goal.returns-in-Err
unfolding block_judging
returns-in-Err c =
    sym (ap (block_from (state_of c.args.judging c.args.table.now) c.args.bytes.now) c.in-Err.is)

pub returns-in-Ok : goal.returns-in-Ok
unfolding block_judging
returns-in-Ok c =
    c.block_from.ensures
    ∙ sym (ap (block_from (state_of c.args.judging c.args.table.now) c.args.bytes.now) c.in-Ok.is)
