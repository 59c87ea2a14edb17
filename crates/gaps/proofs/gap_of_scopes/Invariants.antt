use mathlib.Core.Path.{◌≡◌}
use Rattle.gaps.specs.Gaps.{gap_below}
use Rattle.gaps.proofs.gap_of_scopes.Given as goal

abbrev pub invariant-loop-x : goal.invariant-loop-x
invariant-loop-x l =
    l.least ≡ gap_below l.case l.table l.best l.raised l.variable l.x
