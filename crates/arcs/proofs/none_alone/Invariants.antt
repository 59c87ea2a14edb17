use mathlib.Core.Path.{◌≡◌}
use lib.ListN.{length, get_or}
use Rattle.arcs.specs.Closure.{network_of_bytes}
use Rattle.arcs.specs.Tried.{has_family}
use Rattle.arcs.proofs.Trying.{Trying}
use Rattle.arcs.proofs.none_alone.Given as goal

abbrev pub invariant-loop-untried : goal.invariant-loop-untried
invariant-loop-untried l =
    Trying (has_family (network_of_bytes (length l.sets) l.lower l.upper l.rows l.raised) l.sets l.variable) (get_or l.sets l.variable 0) l.values l.untried × (length l.work ≡ length l.sets)

abbrev pub decreases-loop-untried : goal.decreases-loop-untried
decreases-loop-untried l = l.untried
