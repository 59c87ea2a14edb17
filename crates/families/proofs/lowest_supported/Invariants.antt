use mathlib.Core.Path.{◌≡◌}
use Prim.Native.Nat.{◌<◌}
use Rattle.marks.specs.Marks.{byte_of}
use Rattle.arcs.specs.Partners.{lowest_in_both}
use Rattle.families.specs.Closing.{leaves, lowest_left}
use Rattle.families.proofs.lowest_supported.Given as goal

abbrev pub invariant-loop-untried : goal.invariant-loop-untried
invariant-loop-untried l =
    (l.untried < 256) × (lowest_in_both l.untried (byte_of (leaves l.case l.rows l.sets l.variable)) ≡ lowest_left l.case l.rows l.sets l.variable)

abbrev pub decreases-loop-untried : goal.decreases-loop-untried
decreases-loop-untried l = l.untried
