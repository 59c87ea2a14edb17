use mathlib.Core.Path.{◌≡◌}
use lib.ListN.{length}
use Rattle.arcs.proofs.Crossing.{Adding}
use Rattle.arcs.proofs.add_below.Given as goal

abbrev pub invariant-loop-left : goal.invariant-loop-left
invariant-loop-left l = Adding l.row l.k l.initial.bytes l.bytes l.left × (length l.bytes ≡ 16)

abbrev pub decreases-loop-left : goal.decreases-loop-left
decreases-loop-left l = l.left
