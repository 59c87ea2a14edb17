use mathlib.Core.Path.{sym, ap, ◌∙◌}
use Rattle.checker.specs.Taken.{fresh_from}
use Rattle.checker.proofs.Ends.{fresh-refused, fresh-good}
use Rattle.checker.proofs.Replay.fresh.Goals as goal

pub returns-in-Err : goal.returns-in-Err
returns-in-Err c = c.fresh_from.ensures
    ∙ fresh-refused c.args.case c.args.table.now (sym c.in-Err.is ∙ c.check_starting-checked.ensures)

pub returns-in-Ok : goal.returns-in-Ok
returns-in-Ok c = c.fresh_from-in-Ok.ensures ∙ ap fresh_from c.sum_of_greatest.ensures
    ∙ fresh-good c.args.case c.args.table.now (sym c.in-Ok.is ∙ c.check_starting-checked.ensures)
