use mathlib.Core.Path.{◌≡◌}
use lib.Dec.{eqb}
use lib.ListN.{drop}
use Rattle.integers.specs.Words.{all}
use Rattle.checker.proofs.ranges.none_from.Given as goal

abbrev pub invariant-loop-x : goal.invariant-loop-x
invariant-loop-x l = all (λ b. eqb b 0) (drop l.x l.raised) ≡ all (λ b. eqb b 0) (drop l.from l.raised)
