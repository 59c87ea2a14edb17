use mathlib.Core.Path.{◌≡◌, subst}
use Prim.Native.Nat.{ℕ, ◌*◌}
use native.Mathlib.Omega.{arith}
use lib.ListN.{get_or}
use Rattle.arcs.specs.Active.{Written}
use Rattle.arcs.specs.Best.{partners_best, best_rows}
use Rattle.arcs.proofs.Marked.{rows_of, edge-written}
use Rattle.arcs.proofs.prepare_rows.Goals as goal

pub loop-e-preserved : goal.loop-e-preserved
loop-e-preserved c =
    let a = c.args in
    edge-written (partners_best a.case a.table.now a.best.now a.raised.now) _ _ (omega arith) _ _ _ c.loop-e.invariant c.prepare_edge.ensures

pub returns : goal.returns
unfolding best_rows
returns c =
    let a = c.args in
    let l = c.loop-e in
    let all : l.e ≡ a.case.m = omega arith in
    subst (λ (m : ℕ). Written (λ q. get_or (rows_of (partners_best a.case a.table.now a.best.now a.raised.now) a.case.m) q 0) 0 (16 * m)
    a.rows.now l.rows) all l.invariant
