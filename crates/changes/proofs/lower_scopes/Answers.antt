use mathlib.Core.Path.{◌≡◌, subst, ◌∙◌}
use Prim.Native.Nat.{ℕ, ◌≤◌, ◌<◌}
use native.Mathlib.Omega.{arith}
use mir.Syntax.{w64}
use mir.Val.{to_z, of_z}
use mir.Facts.{to_z-of_z}
use Rattle.integers.specs.Linear.{read_back}
use lib.ListN.{length}
use borrow.Author.Rules.{rules}
use Rattle.definitions.specs.Case.{scope_count, own_length}
use Rattle.tables.proofs.Order.{own-places}
use Rattle.tables.specs.Scopes.{best_at}
use Rattle.changes.proofs.LoweringLaws.{Lowered, lowered_none, lowered-all, lowered_long, lowered-lets, lowered-next}
use Rattle.changes.proofs.lower_scopes.Goals as goal
use Rattle.changes.proofs.lower_scopes.Goals.{Start}

-- the table has the case's own places
own_in : (s : Start) → own_length s.args.case ≤ length s.args.table.now
own_in s = own-places s.args.case s.requires.limited.0 s.args.table.now s.requires.limited.1

pub loop-x-init : goal.loop-x-init
loop-x-init c =
    let a = c.args in
    lowered_none a.case a.table.now a.best.now a.raised.now a.variable a.values (to_z w64 (of_z w64 a.amount))
    c.requires.variable_lt_n.0 (own_in (goal.at.loop-x-init c).Start) c.requires.case_in_bounds.0

pub lower_scope-requires : goal.lower_scope-requires
lower_scope-requires c =
    let l = c.loop-x in
    let a = c.args in
    let h : l.x < scope_count a.case = omega arith in
    let long = lowered_long a.case a.table.now a.best.now a.raised.now a.variable a.values (to_z w64 (of_z w64 a.amount))
    c.requires.variable_lt_n.0 (own_in (goal.at.lower_scope-requires c).Start) c.requires.case_in_bounds.0 l.invariant ∙ c.requires.limited.1 in
    let lets = lowered-lets a.case a.table.now a.best.now a.raised.now a.variable a.values (to_z w64 (of_z w64 a.amount))
    c.requires.variable_lt_n.0 (own_in (goal.at.lower_scope-requires c).Start) c.requires.case_in_bounds.0 l.invariant h (rw (to_z-of_z c.ranges.amount) c.requires.t) in record { in_scope = (record { limited = c.requires.limited.0; long = long; scope = h }, omega (arith, l.invariant.same-long, c.requires.case_in_bounds.0)); t = rw (read_back w64 (best_at l.best l.x) (search rules)) lets; t_2 = rw (to_z-of_z c.ranges.amount) c.requires.variable_lt_n.1 }

pub loop-x-preserved : goal.loop-x-preserved
loop-x-preserved c =
    let l = c.loop-x in
    let a = c.args in
    let h : l.x < scope_count a.case = omega (arith, c.loop-x-test.true) in
    lowered-next a.case a.table.now a.best.now a.raised.now a.variable a.values (to_z w64 (of_z w64 a.amount))
    c.requires.variable_lt_n.0 (own_in (goal.at.loop-x-preserved c).Start) c.requires.case_in_bounds.0 l.invariant h (rw (read_back w64 (best_at l.best l.x) (search rules)) at c.lower_scope.ensures.table_after) c.lower_scope.ensures.best_after

pub returns : goal.returns
returns c =
    let a = c.args in
    let l = c.loop-x in
    let e : l.x ≡ scope_count a.case = omega arith in
    let done = subst (λ (x : ℕ). Lowered a.case a.table.now a.best.now a.raised.now a.variable a.values
    (to_z w64 (of_z w64 a.amount)) x l.table l.best) e l.invariant in
    rw (to_z-of_z c.ranges.amount) at (lowered-all a.case a.table.now a.best.now a.raised.now a.variable a.values
    (to_z w64 (of_z w64 a.amount)) c.requires.variable_lt_n.0 (own_in (goal.at.returns c).Start) c.requires.case_in_bounds.0 done)
