use mathlib.Core.Path.{◌≡◌}
use Prim.Native.Nat.{ℕ, ◌<◌}
use lib.ListN.{get_or}
use Rattle.engine.proofs.trim.keep_raised.Given as goal

abbrev pub invariant-loop-j : goal.invariant-loop-j
invariant-loop-j l = (y : ℕ) → y < l.j → get_or l.raised y 0 ≡ 0 → get_or l.enough y 0 ≡ 0
