use mathlib.Core.Path.{◌≡◌}
use Prim.Native.Nat.{◌+◌, ◌*◌, ◌≤◌}
use lib.ListN.{length}
use Rattle.definitions.specs.Places.{round_places}
use Rattle.press.proofs.Calls.{Made}
use Rattle.press.proofs.print_rounds.Given as goal

abbrev pub invariant-loop : goal.invariant-loop
invariant-loop g l =
    (length l.table ≡ length l.initial.table) × (length l.out ≡ round_places) × (l.state.bytes ≤ round_places * (l.counter + 1))
    × (length l.initial.out ≡ round_places)
    × Made l.counter (record { pressed = l.initial.state.pressed; table = l.initial.table; out = l.initial.out }) l.state l.table l.out
