use Prim.Native.Nat.{◌<◌}
use Rattle.casefile_vectors.proofs.fill.Given as goal

abbrev pub invariant-loop-place : goal.invariant-loop-place
invariant-loop-place l = l.v < 2_000_001
