use mathlib.Core.Path.{◌≡◌}
use Prim.Native.Nat.{ℕ, ◌≤◌, ◌<◌}
use lib.IntN.{pos}
use lib.ListN.{get_or}
use Rattle.changes.specs.Scopes.{lowered_by, weight_after}
use Rattle.changes.proofs.lower_part.Given as goal

abbrev pub invariant-loop-value : goal.invariant-loop-value
invariant-loop-value l = ((k : ℕ) → k < l.value → get_or l.part k (pos 0) ≡ weight_after (lowered_by l.values (l.amount) (l.best) (l.rest)) l.initial.part k)
    × ((k : ℕ) → l.value ≤ k → get_or l.part k (pos 0) ≡ get_or l.initial.part k (pos 0))
