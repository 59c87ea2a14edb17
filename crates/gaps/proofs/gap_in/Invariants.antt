use mathlib.Core.Path.{◌≡◌}
use lib.ListN.{drop}
use Rattle.gaps.specs.Gaps.{less_gaps}
use Rattle.gaps.proofs.Lesser.{Floor, floor_gap}
use Rattle.gaps.proofs.gap_in.Given as goal

abbrev pub invariant-loop-weight : goal.invariant-loop-weight
invariant-loop-weight l =
    Floor (l.best) (l.limit) (l.floor)
    × (less_gaps (l.best) (drop l.weight-index l.part) (floor_gap (l.best) (l.limit) (l.floor)) ≡ less_gaps (l.best) l.part (l.limit))
