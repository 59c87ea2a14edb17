use mathlib.Core.Path.{◌≡◌}
use mathlib.Core.Bool.{false}
use Prim.Native.Nat.{ℕ, ◌<◌}
use Rattle.arcs.specs.Closure.{end_missing}
use Rattle.arcs.proofs.some_end_outside.Given as goal

abbrev pub invariant-loop-e : goal.invariant-loop-e
invariant-loop-e l = (f : ℕ) → f < l.e → end_missing l.n l.lower l.upper f ≡ false
