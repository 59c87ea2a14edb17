use mathlib.Core.Path.{◌≡◌}
use mathlib.Core.Bool.{true}
use Prim.Native.Nat.{ℕ, ◌<◌}
use Rattle.definitions.specs.Rules.{rules_in}
use Rattle.changes.specs.Spaced.{stays_with, weight_at}
use Rattle.changes.specs.Scopes.{raised_by}
use Rattle.changes.proofs.raised_stays.Given as goal

abbrev pub invariant-loop-weight : goal.invariant-loop-weight
invariant-loop-weight l = (k : ℕ) → k < l.weight-index
    → stays_with (rules_in l.rulebook) (weight_at l.part k) (raised_by (l.best) (l.rest) k (weight_at l.part k)) ≡ true
