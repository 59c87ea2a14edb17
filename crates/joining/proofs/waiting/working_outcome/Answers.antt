use Rattle.std.proofs.lemmas.Result.{err_from_is_err_and}
use mathlib.Core.Path.{sym, ◌∙◌}
use Rattle.joining.proofs.Held.{working-refused}
use Rattle.joining.proofs.waiting.working_outcome.Goals as goal

pub returns-in_err-check_working : goal.returns-in_err-check_working
returns-in_err-check_working c =
    let a = c.args in
    let p = err_from_is_err_and c.from_residual.result c.from_residual.ensures.1 in
    rw (p.1, p.2) (working-refused a.case c.requires.placed.limited a.starting.now a.table.now a.edges a.count c.requires.table_len c.requires.false_value
    (sym c.in_err-check_working.was ∙ c.check_working.ensures))
