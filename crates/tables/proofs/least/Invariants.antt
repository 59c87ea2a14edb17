use mathlib.Core.Path.{◌≡◌}
use mathlib.Core.List.{◌∷◌}
use lib.ListN.{take}
use Rattle.integers.specs.Words.{smallest_of}
use Rattle.tables.proofs.least.Given as goal

abbrev pub invariant-loop-weight : goal.invariant-loop-weight
invariant-loop-weight l = l.lowest ≡ smallest_of (l.initial.lowest ∷ take l.weight-index l.rest)
