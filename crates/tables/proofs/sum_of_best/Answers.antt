use mathlib.Core.Path.{◌≡◌, sym, ◌∙◌}
use mathlib.Core.Bool.{true}
use Prim.Native.Nat.{◌+◌}
use native.Mathlib.Omega.{arith}
use lib.ListN.{length}
use borrow.Author.Tests.{lt-ltb, le-ltb, not-true, not-false}
use Rattle.definitions.specs.Rules.{rules_of}
use Rattle.definitions.specs.Valid.{within_limits}
use Rattle.tables.specs.Scopes.{best_sum}
use Rattle.tables.proofs.Order.{limited}
use Rattle.tables.proofs.sum_of_best.Goals as goal
use Rattle.tables.proofs.sum_of_best.Goals.{Else-not-within_limits}

pub returns-then-not-within_limits : goal.returns-then-not-within_limits
unfolding best_sum
returns-then-not-within_limits c = rw (sym c.within_limits.ensures ∙ not-true _ c.if-not-within_limits.true-raw)

right : (c : Else-not-within_limits) → let a = c.args in within_limits (rules_of a.case) a.case.n a.case.d a.case.m ≡ true
right c = sym c.within_limits.ensures ∙ not-false _ c.if-not-within_limits.false-raw

pub scope_count-requires : goal.scope_count-requires
scope_count-requires c = limited c.args.case (right c)

pub returns-then-best-scope_count : goal.returns-then-best-scope_count
unfolding best_sum
returns-then-best-scope_count c = let a = c.args in
    rw (right (goal.at.returns-then-best-scope_count c).Else-not-within_limits, lt-ltb (length a.best.now) (a.case.n + a.case.m) (omega (arith, c.scope_count.ensures, c.if-best-scope_count.true)))

pub sum_in_range-requires : goal.sum_in_range-requires
sum_in_range-requires c = record { limited = limited c.args.case (right (goal.at.sum_in_range-requires c).Else-not-within_limits); case_in_bounds = omega (arith, c.scope_count.ensures, c.if-best-scope_count.false) }

pub returns : goal.returns
unfolding best_sum
returns c = let a = c.args in
    rw (right (goal.at.returns c).Else-not-within_limits, le-ltb (length a.best.now) (a.case.n + a.case.m) (omega (arith, c.scope_count.ensures, c.if-best-scope_count.false)))
    c.sum_in_range.ensures
