use mathlib.Core.Path.{◌≡◌}
use lib.IntN.{pos, ◌+ℤ◌}
use Rattle.integers.specs.Sums.{Σ}
use Rattle.definitions.specs.Case.{at_used, weight}
use Rattle.figures.proofs.sum_of_used.Given as goal

abbrev pub invariant-loop-x : goal.invariant-loop-x
invariant-loop-x l = l.sum ≡ Σ (λ y. at_used l.case l.assignment y (weight l.case l.table y)) 0 l.x +ℤ pos 0
