use mathlib.Core.Path.{◌≡◌}
use Prim.Native.Nat.{◌<◌}
use Rattle.pair_choice.specs.PairChoice.{has_choice}
use Rattle.pair_choice.proofs.has_choice.Given as goal

abbrev pub invariant-loop-left : goal.invariant-loop-left
invariant-loop-left l = (l.left < 256) × (has_choice l.rows l.at l.left l.other ≡ has_choice l.rows l.at l.set l.other)

abbrev pub decreases-loop-left : goal.decreases-loop-left
decreases-loop-left l = l.left
