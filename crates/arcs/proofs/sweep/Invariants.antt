use Prim.Native.Nat.{◌<◌}
use lib.ListN.{length}
use Rattle.arcs.specs.Closure.{network_of_bytes}
use Rattle.arcs.specs.Sweeps.{Swept}
use Rattle.arcs.proofs.sweep.Given as goal

abbrev pub invariant-loop-e : goal.invariant-loop-e
invariant-loop-e l =
    Swept (network_of_bytes (length l.initial.sets) l.lower l.upper l.rows l.raised) (λ f up. f < l.e) l.initial.sets l.sets l.change
