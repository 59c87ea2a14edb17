use mathlib.Core.Path.{◌≡◌}
use mathlib.Core.List.{◌∷◌}
use lib.ListN.{take}
use Rattle.integers.specs.Words.{greatest_of}
use Rattle.tables.proofs.greatest.Given as goal

abbrev pub invariant-loop-weight : goal.invariant-loop-weight
invariant-loop-weight l = l.best ≡ greatest_of (l.initial.best ∷ take l.weight-index l.rest)
