use mathlib.Core.Path.{sym, ◌∙◌}
use native.Mathlib.Omega.{arith}
use Rattle.definitions.specs.declared.Rulebook.TheVariants.{Desk}
use Rattle.judging.proofs.Tables.{table-most, size-given}
use Rattle.judging.proofs.table_length.Goals as goal

pub returns-in-Ok : goal.returns-in-Ok
returns-in-Ok c =
    let e = size-given (sym c.case_size.ensures ∙ c.in-Ok.is) in
    (e, omega (arith, e, table-most Desk c.args.front.now))
