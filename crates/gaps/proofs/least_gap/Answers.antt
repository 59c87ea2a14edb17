use mathlib.Core.Path.{◌≡◌, sym, ◌∙◌}
use mathlib.Core.Bool.{true, false, not, ◌||◌}
use native.Mathlib.Omega.{arith}
use lib.Dec.{eqb, ltb}
use lib.ListN.{length}
use borrow.Author.Tests.{lt-ltb, le-ltb}
use Rattle.definitions.specs.Rules.{rules_of}
use Rattle.definitions.specs.Case.{scope_count, lent_length}
use Rattle.definitions.specs.Valid.{within_limits}
use Rattle.tables.proofs.Order.{limited}
use Rattle.gaps.specs.Gaps.{least_gap_answer}
use Rattle.gaps.proofs.Ranges.{gap-lengths-known}
use Rattle.gaps.proofs.least_gap.Goals as goal
use Rattle.gaps.proofs.least_gap.Goals.{Else-lengths_wrong, Else-not-within_limits}

pub returns-then-not-within_limits : goal.returns-then-not-within_limits
unfolding least_gap_answer
returns-then-not-within_limits c = rw (sym c.within_limits.ensures ∙ c.if-not-within_limits.true)

right : (c : Else-not-within_limits) → let a = c.args in within_limits (rules_of a.case) a.case.n a.case.d a.case.m ≡ true
right c = sym c.within_limits.ensures ∙ c.if-not-within_limits.false

pub lengths_wrong-requires : goal.lengths_wrong-requires
lengths_wrong-requires c = limited c.args.case (right c)

pub returns-then-lengths_wrong : goal.returns-then-lengths_wrong
unfolding least_gap_answer
returns-then-lengths_wrong c = rw (right (goal.at.returns-then-lengths_wrong c).Else-not-within_limits, sym c.lengths_wrong.ensures ∙ c.if-lengths_wrong.true)

-- the lengths are right
long : (c : Else-lengths_wrong) → let a = c.args in
    (not (eqb (length a.table.now) (lent_length (rules_of a.case) a.case))
    || (ltb (length a.best.now) (scope_count a.case) || ltb (length a.raised.now) (scope_count a.case))) ≡ false
long c = sym c.lengths_wrong.ensures ∙ c.if-lengths_wrong.false

pub returns-then-case-variable : goal.returns-then-case-variable
unfolding least_gap_answer
returns-then-case-variable c =
    let a = c.args in
    rw (right (goal.at.returns-then-case-variable c).Else-not-within_limits, long (goal.at.returns-then-case-variable c).Else-lengths_wrong, le-ltb a.variable a.case.n (omega (arith, c.if-case-variable.true)))

pub gap_in_range-requires : goal.gap_in_range-requires
gap_in_range-requires c =
    let a = c.args in
    let l = gap-lengths-known a.case a.table.now a.best.now a.raised.now (long (goal.at.gap_in_range-requires c).Else-lengths_wrong) in
    record { limited = (limited a.case (right (goal.at.gap_in_range-requires c).Else-not-within_limits), l.0); case_in_bounds = (l.1, l.2) }

pub returns : goal.returns
unfolding least_gap_answer
returns c =
    let a = c.args in
    rw (right (goal.at.returns c).Else-not-within_limits, long (goal.at.returns c).Else-lengths_wrong, lt-ltb a.variable a.case.n (omega (arith, c.if-case-variable.false))) c.gap_in_range.ensures
