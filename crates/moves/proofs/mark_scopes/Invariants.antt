use mathlib.Core.Path.{◌≡◌}
use lib.ListN.{length, drop}
use Rattle.moves.specs.Marks.{marked}
use Rattle.moves.proofs.mark_scopes.Given as goal

abbrev pub invariant-loop-scope : goal.invariant-loop-scope
invariant-loop-scope l = (length l.marks ≡ length l.initial.marks) × (marked l.marks (drop l.scope-index l.raised) ≡ marked l.initial.marks l.raised)
