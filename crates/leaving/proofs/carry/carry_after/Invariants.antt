use mathlib.Core.Path.{◌≡◌}
use lib.IntN.{◌+ℤ◌}
use Rattle.integers.specs.Sums.{Σ}
use Rattle.leaving.specs.Scopes.{growth, edge_growth}
use Rattle.leaving.proofs.carry.carry_after.Given as goal

abbrev pub invariant-loop-e : goal.invariant-loop-e
invariant-loop-e l = (l.carry ≡ Σ (edge_growth l.case l.starting l.table l.variable) 0 l.e +ℤ (l.case.carry +ℤ growth l.case l.starting l.table l.variable))
