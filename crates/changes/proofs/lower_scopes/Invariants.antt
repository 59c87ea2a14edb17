use Rattle.changes.proofs.LoweringLaws.{Lowered}
use Rattle.changes.proofs.lower_scopes.Given as goal

abbrev pub invariant-loop-x : goal.invariant-loop-x
invariant-loop-x l = Lowered l.case l.initial.table l.initial.best l.raised l.variable l.values (l.amount) l.x l.table l.best
