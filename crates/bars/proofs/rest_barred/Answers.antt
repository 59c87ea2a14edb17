use mathlib.Core.Path.{◌≡◌, sym, ap, ◌∙◌}
use mathlib.Core.Bool.{true, not}
use lib.ListN.{length}
use borrow.Author.Tests.{lt-ltb, le-ltb}
use Rattle.definitions.specs.Rules.{rules_of}
use Rattle.definitions.specs.Case.{scope_count}
use Rattle.definitions.specs.Valid.{within_limits}
use Rattle.tables.proofs.Order.{limited}
use Rattle.bars.specs.Bars.{rest_barred}
use Rattle.bars.proofs.rest_barred.Goals as goal
use Rattle.bars.proofs.rest_barred.Goals.{Else-not-within_limits}

pub returns-then-not-within_limits : goal.returns-then-not-within_limits
unfolding rest_barred
returns-then-not-within_limits c = rw (sym c.within_limits.ensures ∙ c.if-not-within_limits.true)

-- the limits are right
right : (c : Else-not-within_limits) → let a = c.args in
    within_limits (rules_of a.case) a.case.n a.case.d a.case.m ≡ true
right c = sym c.within_limits.ensures ∙ c.if-not-within_limits.false

pub returns-then-best-scopes : goal.returns-then-best-scopes
unfolding rest_barred
returns-then-best-scopes c = let a = c.args in
    rw (right (goal.at.returns-then-best-scopes c).Else-not-within_limits, lt-ltb (length a.best.now) (scope_count a.case) c.if-best-scopes.true)

pub returns-then-raised-scopes : goal.returns-then-raised-scopes
unfolding rest_barred
returns-then-raised-scopes c = let a = c.args in
    rw (
      right (goal.at.returns-then-raised-scopes c).Else-not-within_limits,
      le-ltb (length a.best.now) (scope_count a.case) c.if-best-scopes.false,
      lt-ltb (length a.raised.now) (scope_count a.case) c.if-raised-scopes.true,
    )

pub rest_open-requires : goal.rest_open-requires
rest_open-requires c =
    record { limited = limited c.args.case (right (goal.at.rest_open-requires c).Else-not-within_limits); case_in_bounds = (c.if-best-scopes.false, c.if-raised-scopes.false) }

pub returns : goal.returns
unfolding rest_barred
returns c = let a = c.args in
    rw (
      right (goal.at.returns c).Else-not-within_limits,
      le-ltb (length a.best.now) (scope_count a.case) c.if-best-scopes.false,
      le-ltb (length a.raised.now) (scope_count a.case) c.if-raised-scopes.false,
    ) (ap not c.rest_open.ensures)
