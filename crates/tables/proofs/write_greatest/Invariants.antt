use mathlib.Core.Path.{◌≡◌}
use Prim.Native.Nat.{ℕ, ◌≤◌, ◌<◌}
use lib.ListN.{length}
use Rattle.definitions.specs.Case.{greatest}
use Rattle.tables.specs.Scopes.{best_at}
use Rattle.tables.proofs.write_greatest.Given as goal

abbrev pub invariant-loop-x : goal.invariant-loop-x
invariant-loop-x l =
    (length l.best ≡ length l.initial.best)
    × ((y : ℕ) → y < l.x → best_at l.best y ≡ greatest l.case l.table y)
    × ((y : ℕ) → l.x ≤ y → best_at l.best y ≡ best_at l.initial.best y)
