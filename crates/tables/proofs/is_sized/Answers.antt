use mathlib.Core.Path.{◌≡◌, sym, ◌∙◌}
use mathlib.Core.Bool.{true}
use borrow.Author.Tests.{not-false}
use Rattle.definitions.specs.Rules.{rules_of}
use Rattle.definitions.specs.Valid.{within_limits}
use Rattle.tables.proofs.Order.{limited}
use Rattle.tables.proofs.is_sized.Goals as goal
use Rattle.tables.proofs.is_sized.Goals.{Else-not-within_limits}

right : (c : Else-not-within_limits) → let a = c.args in within_limits (rules_of a.case) a.case.n a.case.d a.case.m ≡ true
right c = sym c.within_limits.ensures ∙ not-false _ c.if-not-within_limits.false-raw

pub table_length-requires : goal.table_length-requires
table_length-requires c = limited c.args.case (right c)
