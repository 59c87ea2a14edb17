use mathlib.Core.Path.{◌≡◌, sym, ◌∙◌}
use mathlib.Core.Bool.{true}
use native.Mathlib.Omega.{arith}
use borrow.Author.Tests.{not-true, not-false}
use Rattle.definitions.specs.Rules.{rules_of}
use Rattle.definitions.specs.Valid.{within_limits}
use Rattle.tables.proofs.Order.{limited}
use Rattle.tables.proofs.Best.{greatest-outside, greatest-other-length, greatest-short, greatest-done}
use Rattle.tables.proofs.greatest_weights.Goals as goal
use Rattle.tables.proofs.greatest_weights.Goals.{Else-not-within_limits}

pub returns-then-not-within_limits : goal.returns-then-not-within_limits
returns-then-not-within_limits c = let a = c.args in
    greatest-outside a.case a.table.now a.best.now (sym c.within_limits.ensures ∙ not-true _ c.if-not-within_limits.true-raw)

right : (c : Else-not-within_limits) → let a = c.args in within_limits (rules_of a.case) a.case.n a.case.d a.case.m ≡ true
right c = sym c.within_limits.ensures ∙ not-false _ c.if-not-within_limits.false-raw

pub table_length-requires : goal.table_length-requires
table_length-requires c = limited c.args.case (right c)

pub returns-then-table-table_length : goal.returns-then-table-table_length
returns-then-table-table_length c = let a = c.args in
    greatest-other-length a.case a.table.now a.best.now (right (goal.at.returns-then-table-table_length c).Else-not-within_limits) (λ e. c.if-table-table_length.true (e ∙ sym c.table_length.ensures))

pub scope_count-requires : goal.scope_count-requires
scope_count-requires c = limited c.args.case (right (goal.at.scope_count-requires c).Else-not-within_limits)

pub returns-then-best-scope_count : goal.returns-then-best-scope_count
returns-then-best-scope_count c = let a = c.args in
    greatest-short a.case a.table.now a.best.now (right (goal.at.returns-then-best-scope_count c).Else-not-within_limits) (c.if-table-table_length.false ∙ c.table_length.ensures)
    (omega (arith, c.scope_count.ensures, c.if-best-scope_count.true))

pub write_greatest-requires : goal.write_greatest-requires
write_greatest-requires c = record {
  limited = limited c.args.case (right (goal.at.write_greatest-requires c).Else-not-within_limits);
  table_len = c.if-table-table_length.false
      ∙ c.table_length.ensures;
  case_in_bounds = omega (arith, c.scope_count.ensures, c.if-best-scope_count.false);
}

pub returns : goal.returns
returns c = let a = c.args in
    let d = greatest-done a.case a.table.now a.best.now (right (goal.at.returns c).Else-not-within_limits) (c.if-table-table_length.false ∙ c.table_length.ensures)
    (omega (arith, c.scope_count.ensures, c.if-best-scope_count.false)) in
    (d.0, c.write_greatest.ensures ∙ d.1)
