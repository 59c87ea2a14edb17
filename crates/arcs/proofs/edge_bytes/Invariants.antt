use mathlib.Core.Path.{◌≡◌}
use Prim.Native.Nat.{◌+◌, ◌*◌}
use lib.ListN.{length}
use Rattle.arcs.specs.Active.{best_marks, Crossed}
use Rattle.arcs.proofs.edge_bytes.Given as goal

abbrev pub invariant-loop-k : goal.invariant-loop-k
invariant-loop-k l = Crossed (λ j. best_marks l.table (l.first + j * l.d) l.d (l.best)) l.k l.bytes × (length l.bytes ≡ 16)
