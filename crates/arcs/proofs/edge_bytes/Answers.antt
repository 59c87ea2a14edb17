use mathlib.Core.Path.{◌∙◌}
use Prim.Native.Nat.{ℕ}
use native.Mathlib.Omega.{arith}
use lib.ListN.{length-set, length-replicate}
use Rattle.arcs.proofs.Crossing.{crossed-none, crossed-next}
use Rattle.arcs.proofs.edge_bytes.Goals as goal

pub loop-k-init : goal.loop-k-init
loop-k-init c = (crossed-none _ 16, length-replicate {A = ℕ} 16 0)

pub loop-k-preserved : goal.loop-k-preserved
loop-k-preserved c =
    let a = c.args in
    let l = c.loop-k in (
      crossed-next _ _ l.bytes _ _ l.invariant.0 (omega (
        arith,
        c.requires.0,
      )) (omega (
        arith,
        c.requires.0,
        l.invariant.1,
      )) c.best_values-row.ensures c.add_below.ensures,
      c.add_below.ensures.same_length ∙ length-set l.bytes _ _ ∙ l.invariant.1,
    )
