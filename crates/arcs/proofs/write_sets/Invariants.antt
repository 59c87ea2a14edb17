use Rattle.arcs.specs.Active.{set_where, has_best, Written}
use Rattle.arcs.proofs.write_sets.Given as goal

abbrev pub invariant-loop-j : goal.invariant-loop-j
invariant-loop-j l = Written (set_where l.case (has_best l.case l.table l.best)) 0 l.j l.initial.sets l.sets
