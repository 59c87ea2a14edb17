use Rattle.integers.specs.Words.{below}
use Rattle.graph_theory.proofs.Walks.{Decides, InTurn}
use Rattle.graphs.proofs.join_edges.Given as goal

abbrev pub invariant-loop-e : goal.invariant-loop-e
invariant-loop-e l = Decides l.case (below l.e) l.labels × InTurn l.case l.e
