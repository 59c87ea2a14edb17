use mathlib.Core.Path.{◌≡◌}
use lib.Dec.{eqb}
use lib.ListN.{get_or}
use Rattle.integers.specs.Words.{any, below}
use Rattle.joining.proofs.waiting.repeated_at.Given as goal

abbrev pub invariant-loop-before : goal.invariant-loop-before
invariant-loop-before l = l.found ≡ any (λ g. eqb (get_or l.lower l.e 0) (get_or l.lower g 0)) (below l.before-index)
