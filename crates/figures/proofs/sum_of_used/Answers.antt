use mathlib.Core.Path.{◌≡◌, ◌∙◌}
use Prim.Native.Nat.{◌+◌}
use native.Mathlib.Omega.{arith}
use lib.IntN.{pos, ◌+ℤ◌}
use mir.Syntax.{w64}
use mir.Val.{to_z, of_z}
use mir.Facts.{to_z-of_z}
use Rattle.integers.specs.Linear.{flat, zs, read_back}
use Rattle.integers.specs.Sums.{Σ}
use Rattle.definitions.specs.Rules.{coherent}
use Rattle.definitions.specs.Case.{at_used, weight}
use Rattle.tables.proofs.Bounds.{sum_more, sum_fits}
use Rattle.figures.proofs.Tuples.{used-working}
use Rattle.figures.proofs.sum_of_used.Goals as goal
use Rattle.figures.proofs.sum_of_used.Goals.{After-used_weight-sum}

-- the sum after the turn
next : (c : After-used_weight-sum) → let a = c.args in
    to_z w64 c.loop-x.sum-bits +ℤ to_z w64 (of_z w64 c.used_weight-sum.result)
    ≡ Σ (λ y. at_used a.case a.assignment.now y (weight a.case a.table.now y)) 0 (c.loop-x.x + 1) +ℤ pos 0
next c =
    let a = c.args in
    sum_more (λ y. at_used a.case a.assignment.now y (weight a.case a.table.now y)) (pos 0) c.loop-x.x c.loop-x.invariant
    (read_back w64 c.used_weight-sum.result c.used_weight-sum.type_inv ∙ c.used_weight-sum.ensures)

pub overflow_add-sum : goal.overflow_add-sum
overflow_add-sum c = let a = c.args in
    rw (next c) (sum_fits (λ y. at_used a.case a.assignment.now y (weight a.case a.table.now y)) (coherent a.case.rulebook) (c.loop-x.x + 1)
    (omega (arith, c.requires.handed.variables-most, c.requires.handed.edges_most))
    (λ y l. used-working c.requires.handed a.assignment.now c.requires.t y (omega arith)) (pos 0) (simp flat (omega zs)))

pub loop-x-preserved : goal.loop-x-preserved
loop-x-preserved c = to_z-of_z (overflow_add-sum c) ∙ next c
