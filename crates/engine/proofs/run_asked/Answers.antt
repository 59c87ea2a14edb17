use mathlib.Core.Path.{sym, ◌∙◌}
use Rattle.engine.proofs.Runs.{asked-done, run-is-refused}
use Rattle.engine.proofs.run_asked.Goals as goal

pub run_from-requires : goal.run_from-requires
run_from-requires c =
    let a = c.args in
    let h = asked-done a.pairs a.case a.table.now a.out.now (sym c.in-Ok.is
    ∙ c.check_round-checked.ensures) in record { handed = h.0; case_in_bounds = h.1 }

pub returns-in-Err : goal.returns-in-Err
returns-in-Err c =
    let a = c.args in
    run-is-refused a.pairs a.case a.table.now a.out.now a.limit (sym c.in-Err.is
    ∙ c.check_round-checked.ensures)
