use Rattle.arcs.specs.Active.{Written}
use Rattle.arcs.specs.Best.{allowed_best}
use Rattle.arcs.proofs.prepare_sets.Given as goal

abbrev pub invariant-loop-j : goal.invariant-loop-j
invariant-loop-j l = Written (allowed_best l.case l.table l.best l.raised) 0 l.j l.initial.sets l.sets
