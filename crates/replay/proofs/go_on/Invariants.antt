use mathlib.Core.Path.{◌≡◌}
use Prim.Native.Nat.{◌-◌}
use lib.ListN.{length, take}
use Rattle.judging.specs.Judging.{state_of}
use Rattle.replay.specs.Turns.{desk_line, Goes}
use Rattle.replay.proofs.go_on.Given as goal

abbrev pub invariant-loop : goal.invariant-loop
invariant-loop g l =
    (length l.table ≡ length l.initial.table) × (length l.buf ≡ length l.initial.buf)
    × Goes l.counter (length l.initial.buf - desk_line) (state_of l.initial.state.judging l.initial.table)
    (take l.initial.state.held l.initial.buf) l.initial.state.filled l.state l.table l.buf
