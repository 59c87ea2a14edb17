use lib.ListN.{get_or}
use Rattle.definitions.specs.Graph.{renamed}
use Rattle.arcs.specs.Active.{Written}
use Rattle.graphs.proofs.relabel.Given as goal

abbrev pub invariant-loop-label : goal.invariant-loop-label
invariant-loop-label l = Written (λ p. renamed l.from l.to (get_or l.initial.labels p 0)) 0 l.label-index l.initial.labels l.labels
