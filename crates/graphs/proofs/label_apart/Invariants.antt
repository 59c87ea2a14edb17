use Rattle.arcs.specs.Active.{Written}
use Rattle.graphs.proofs.label_apart.Given as goal

abbrev pub invariant-loop-i : goal.invariant-loop-i
invariant-loop-i l = Written (λ p. p) 0 l.i l.initial.labels l.labels
