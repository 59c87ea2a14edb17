use lib.ListN.{length}
use Rattle.arcs.specs.Closure.{network_of_bytes}
use Rattle.arcs.specs.Sweeps.{Fewer, Filled, total}
use Rattle.arcs.proofs.settle.Given as goal

abbrev pub invariant-loop : goal.invariant-loop
invariant-loop l = Fewer (network_of_bytes (length l.initial.sets) l.lower l.upper l.rows l.raised) l.initial.sets l.sets × Filled l.sets

abbrev pub decreases-loop : goal.decreases-loop
decreases-loop l = total l.sets
