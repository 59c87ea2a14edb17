-- The measure is the room that is left: a read that brought something leaves less. Assumes nothing.
use Rattle.std.proofs.Common.{◌≡◌, ◌-◌, ◌≤◌, pos, length, take, drop}
use Rattle.std.specs.Io.KnownBytes.{Consumes, IsAtEnd}
use Rattle.streams.proofs.fill.Given as goal

abbrev pub invariant-loop-filled : goal.invariant-loop-filled
invariant-loop-filled g l = record {
  onward : l.from ≤ l.filled.to;
  within : l.from ≤ length l.buf → l.filled.to ≤ length l.buf;
  kept : take l.from l.buf ≡ take l.from l.fn.buf;
  unread : length l.fn.buf ≤ l.from → (l.filled.to ≡ l.from) × (l.filled.got ≡ pos 1) × (l.buf ≡ l.fn.buf);
  reads : Consumes (g.R.Read.remaining l.fn.input) (g.R.Read.remaining l.input) (drop l.from (take l.filled.to l.buf));
  ends : l.filled.got ≡ pos 0 → IsAtEnd (g.R.Read.remaining l.input);
}

abbrev pub decreases-loop-filled : goal.decreases-loop-filled
decreases-loop-filled g l = length l.initial.buf - l.filled.to
