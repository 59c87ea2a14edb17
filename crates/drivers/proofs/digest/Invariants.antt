use mathlib.Core.Path.{◌≡◌}
use Prim.Native.Nat.{◌<◌, ◌%◌}
use lib.ListN.{drop}
use Rattle.drivers.specs.Drivers.{digest_from}
use Rattle.drivers.proofs.digest.Given as goal

abbrev pub invariant-loop-byte : goal.invariant-loop-byte
invariant-loop-byte l = (l.sum < 1_000_000_007) × (digest_from l.sum (drop l.byte-index l.bytes) ≡ digest_from (l.earlier % 1_000_000_007) l.bytes)
