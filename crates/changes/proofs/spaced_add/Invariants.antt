use mathlib.Core.Path.{◌≡◌}
use Rattle.changes.specs.Spaced.{spaced_add}
use Rattle.changes.proofs.spaced_add.Given as goal

abbrev pub invariant-loop-j : goal.invariant-loop-j
invariant-loop-j l = l.table ≡ spaced_add l.initial.table l.start l.step l.j (l.by)
