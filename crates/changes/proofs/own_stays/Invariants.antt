use mathlib.Core.Path.{◌≡◌}
use mathlib.Core.Bool.{true}
use Prim.Native.Nat.{ℕ, ◌<◌}
use Rattle.definitions.specs.Rules.{rules_in}
use Rattle.changes.specs.Spaced.{stays_with, weight_at}
use Rattle.changes.specs.Scopes.{lowered_by}
use Rattle.changes.proofs.own_stays.Given as goal

abbrev pub invariant-loop-i : goal.invariant-loop-i
invariant-loop-i l = (k : ℕ) → k < l.i
    → stays_with (rules_in l.rulebook) (weight_at l.part k) (lowered_by l.values (l.amount) (l.best) (l.rest) k (weight_at l.part k)) ≡ true
