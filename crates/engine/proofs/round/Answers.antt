use Rattle.std.proofs.lemmas.Result.{err_from_is_err_and}
use mathlib.Core.Path.{sym, ◌∙◌}
use mathlib.Core.Bool.{false}
use Rattle.engine.proofs.Runs.{asked-done, asked-refused}
use Rattle.engine.proofs.round.Goals as goal

pub first_round-requires : goal.first_round-requires
first_round-requires c =
    let a = c.args in
    let h = asked-done false a.case a.table.now a.out.now (sym c.in_ok-check_round.was
    ∙ c.check_round.ensures) in record { handed = h.0; case_in_bounds = h.1 }

pub returns-in_err-check_round : goal.returns-in_err-check_round
returns-in_err-check_round c =
    let a = c.args in
    let p = err_from_is_err_and c.from_residual.result c.from_residual.ensures.1 in
    rw (p.1, p.2) (let m = asked-refused false a.case a.table.now a.out.now
    (sym c.in_err-check_round.was ∙ c.check_round.ensures) in
    (m.answer, m.table, m.output))
