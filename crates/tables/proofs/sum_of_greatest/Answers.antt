use mathlib.Core.Path.{◌≡◌, sym, ◌∙◌}
use mathlib.Core.Bool.{true}
use borrow.Author.Tests.{eq-eqb, ne_eqb, not-true, not-false}
use Rattle.definitions.specs.Rules.{rules_of}
use Rattle.definitions.specs.Valid.{within_limits}
use Rattle.tables.specs.Scopes.{greatest_sum}
use Rattle.tables.proofs.Order.{limited}
use Rattle.tables.proofs.sum_of_greatest.Goals as goal
use Rattle.tables.proofs.sum_of_greatest.Goals.{Else-not-within_limits}

pub returns-then-not-within_limits : goal.returns-then-not-within_limits
unfolding greatest_sum
returns-then-not-within_limits c = rw (sym c.within_limits.ensures ∙ not-true _ c.if-not-within_limits.true-raw)

right : (c : Else-not-within_limits) → let a = c.args in within_limits (rules_of a.case) a.case.n a.case.d a.case.m ≡ true
right c = sym c.within_limits.ensures ∙ not-false _ c.if-not-within_limits.false-raw

pub table_length-requires : goal.table_length-requires
table_length-requires c = limited c.args.case (right c)

pub returns-then-table-table_length : goal.returns-then-table-table_length
unfolding greatest_sum
returns-then-table-table_length c = rw (right (goal.at.returns-then-table-table_length c).Else-not-within_limits, ne_eqb _ _ (λ d. c.if-table-table_length.true (d ∙ sym c.table_length.ensures)))

pub add_greatest-requires : goal.add_greatest-requires
add_greatest-requires c = record { limited = limited c.args.case (right (goal.at.add_greatest-requires c).Else-not-within_limits); table_len = c.if-table-table_length.false ∙ c.table_length.ensures }

pub returns : goal.returns
unfolding greatest_sum
returns c = rw (right (goal.at.returns c).Else-not-within_limits, eq-eqb _ _ (c.if-table-table_length.false ∙ c.table_length.ensures)) c.add_greatest.ensures
