use mathlib.Core.Path.{◌≡◌}
use Prim.Native.Nat.{ℕ, ◌<◌}
use lib.IntN.{◌+ℤ◌}
use lib.Dec.{T}
use Rattle.integers.specs.Sums.{Σ}
use Rattle.definitions.specs.Rules.{rules_in}
use Rattle.definitions.specs.Valid.{in_working}
use Rattle.tables.specs.Scopes.{best_at}
use Rattle.tables.proofs.sum_in_range.Given as goal

abbrev pub invariant-loop-weight : goal.invariant-loop-weight
invariant-loop-weight l =
    ((y : ℕ) → y < l.weight-index → T (in_working (rules_in l.rulebook) (best_at l.best y)))
    × (l.sum ≡ Σ (best_at l.best) 0 l.weight-index +ℤ l.initial.sum)
