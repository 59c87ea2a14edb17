use mathlib.Core.Path.{◌≡◌}
use Prim.Native.Nat.{ℕ, ◌<◌}
use lib.ListN.{get_or}
use Rattle.std.specs.Prelude.{if◌then◌else◌}
use Rattle.calls.specs.Calls.{is_raised}
use Rattle.engine.proofs.choosing.allow.Given as goal

abbrev pub invariant-loop-j : goal.invariant-loop-j
invariant-loop-j l =
    (k : ℕ) → k < l.j → get_or l.sets k 0 ≡ (if is_raised l.raised k then get_or l.acts k 0 else l.full)
