use mathlib.Core.Path.{◌≡◌}
use mathlib.Core.List.{List}
use lib.IntN.{ℤ}
use lib.ListN.{length}
use Rattle.definitions.specs.Engine.{kept_scopes}
use Rattle.engine.specs.Search.{Prepared, OthersRaised, Enough}
use Rattle.engine.proofs.Trims.{trimmed_at}
use Rattle.engine.proofs.trim.drop_scopes.Given as goal

abbrev pub invariant-loop-x : goal.invariant-loop-x
invariant-loop-x l =
    (length l.raised ≡ length l.initial.raised) × (length l.enough ≡ length l.initial.enough)
    × ((w : List ℤ) → Prepared l.case w l.acts l.rows → OthersRaised l.case l.variable l.initial.raised → Enough l.case w l.variable l.initial.raised l.initial.enough
    → Enough l.case w l.variable l.raised l.enough × (trimmed_at l.case w l.variable l.raised l.x ≡ kept_scopes l.case w l.variable))
