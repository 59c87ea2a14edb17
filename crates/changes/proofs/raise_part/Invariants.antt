use mathlib.Core.Path.{◌≡◌}
use Prim.Native.Nat.{ℕ, ◌≤◌, ◌<◌}
use lib.IntN.{pos}
use lib.ListN.{get_or}
use Rattle.changes.specs.Scopes.{raised_by, weight_after}
use Rattle.changes.proofs.raise_part.Given as goal

abbrev pub invariant-loop-weight : goal.invariant-loop-weight
invariant-loop-weight l = ((k : ℕ) → k < l.weight-index → get_or l.part k (pos 0) ≡ weight_after (raised_by (l.best) (l.rest)) l.initial.part k)
    × ((k : ℕ) → l.weight-index ≤ k → get_or l.part k (pos 0) ≡ get_or l.initial.part k (pos 0))
