use mathlib.Core.Path.{◌≡◌, sym, ap, ◌∙◌}
use mathlib.Core.Bool.{Bool, true, false, not, ◌||◌}
use Prim.Native.Nat.{◌*◌, ◌<◌}
use native.Mathlib.Omega.{arith}
use lib.Dec.{ltb, eqb}
use lib.ListN.{length}
use mir.Syntax.{w64}
use borrow.Author.Tests.{le-ltb}
use borrow.Author.Rules.{rules}
use Rattle.integers.specs.Linear.{read_back}
use Rattle.definitions.specs.Rules.{rules_of}
use Rattle.definitions.specs.Case.{scope_count, lent_length}
use Rattle.definitions.specs.Valid.{within_limits}
use Rattle.tables.specs.Scopes.{best_at}
use Rattle.tables.proofs.Order.{limited}
use Rattle.changes.specs.Kept.{values_with, best_values}
use Rattle.changes.proofs.ValueLaws.{values_of, values-taken}
use Rattle.changes.proofs.best_values.Goals as goal
use Rattle.changes.proofs.best_values.Goals.{Else-lengths_wrong, Else-not-within_limits}

pub returns-then-not-within_limits : goal.returns-then-not-within_limits
unfolding best_values
returns-then-not-within_limits c = let e = sym c.within_limits.ensures ∙ c.if-not-within_limits.true in rw e

right : (c : Else-not-within_limits) → let a = c.args in within_limits (rules_of a.case) a.case.n a.case.d a.case.m ≡ true
right c = sym c.within_limits.ensures ∙ c.if-not-within_limits.false

abbrev wrong : (c : Else-not-within_limits) → Bool
wrong c = let a = c.args in not (eqb (length a.table.now) (lent_length (rules_of a.case) a.case)) || ltb (length a.best.now) (scope_count a.case)

pub lengths_wrong-requires : goal.lengths_wrong-requires
lengths_wrong-requires c = limited c.args.case (right c)

pub returns-then-lengths_wrong : goal.returns-then-lengths_wrong
unfolding best_values
returns-then-lengths_wrong c =
    let e : wrong (goal.at.returns-then-lengths_wrong c).Else-not-within_limits ≡ true = sym c.lengths_wrong.ensures ∙ c.if-lengths_wrong.true in
    rw (right (goal.at.returns-then-lengths_wrong c).Else-not-within_limits, e)

lens : (c : Else-lengths_wrong) → wrong (goal.at.Else-lengths_wrong c).Else-not-within_limits ≡ false
lens c = sym c.lengths_wrong.ensures ∙ c.if-lengths_wrong.false

pub returns-then-case-variable : goal.returns-then-case-variable
unfolding best_values
returns-then-case-variable c =
    let a = c.args in
    rw (right (goal.at.returns-then-case-variable c).Else-not-within_limits, lens (goal.at.returns-then-case-variable c).Else-lengths_wrong, le-ltb a.variable a.case.n c.if-case-variable.true)

pub returns : goal.returns
returns c =
    let a = c.args in
    let h : a.variable < a.case.n = omega (arith, c.if-case-variable.false) in
    c.values_with.ensures ∙ ap (values_with a.table.now (a.variable * a.case.d) a.case.d)
    (read_back w64 (best_at a.best.now a.variable) (search rules))
    ∙ values_of a.case a.table.now a.best.now a.variable h
    ∙ sym (values-taken a.case a.table.now a.best.now a.variable (right (goal.at.returns c).Else-not-within_limits) (lens (goal.at.returns c).Else-lengths_wrong) h)
