use mathlib.Core.Path.{sym, ◌∙◌}
use borrow.Author.Tests.{not-false}
use Rattle.tables.proofs.Order.{limited}
use Rattle.tables.proofs.front_outcome.Goals as goal

pub table_length-requires : goal.table_length-requires
table_length-requires c = limited c.args.case (sym c.within_limits.ensures ∙ not-false _ c.if-not-within_limits.false-raw)
