use Rattle.std.proofs.lemmas.Result.{err_from_is_err_and}
use mathlib.Core.Path.{sym, ◌∙◌}
use lib.ListN.{length}
use mir.Facts.{to_z-of_z}
use Rattle.tables.specs.Scopes.{tuple_tests}
use Rattle.tables.proofs.Order.{front-known, front-stops, front-passes}
use Rattle.tables.proofs.check.Goals as goal

pub weight_outcome-requires : goal.weight_outcome-requires
weight_outcome-requires c = let a = c.args in
    let k = front-known a.case (length a.table.now) a.wrong a.out (sym c.in_ok-front_outcome.was ∙ c.front_outcome.ensures) in
    record { limited = k.0; table_len = k.1; barred_weight_lt_low = simp (to_z-of_z c.ranges.low) c.requires }

pub returns-in_err-front_outcome : goal.returns-in_err-front_outcome
returns-in_err-front_outcome c =
    let a = c.args in
    let p = err_from_is_err_and c.from_residual.result c.from_residual.ensures.1 in
    rw (p.1, p.2) (front-stops a.case (length a.table.now) a.wrong a.out (tuple_tests a.case a.table.now a.low a.high)
    (sym c.in_err-front_outcome.was ∙ c.front_outcome.ensures))

pub returns : goal.returns
returns c = let a = c.args in
    let f = c.ranges in
    (simp (to_z-of_z f.low, to_z-of_z f.high) at c.weight_outcome.ensures)
    ∙ front-passes a.case (length a.table.now) a.wrong a.out (tuple_tests a.case a.table.now a.low a.high)
    (sym c.in_ok-front_outcome.was ∙ c.front_outcome.ensures)
