use mathlib.Core.Path.{◌≡◌, subst}
use Prim.Native.Nat.{ℕ, ◌*◌}
use native.Mathlib.Omega.{arith}
use lib.ListN.{get_or}
use Rattle.arcs.specs.Active.{Written}
use Rattle.families.specs.Closing.{all_bytes}
use Rattle.families.proofs.Bytes.{edge-next, all-written}
use Rattle.families.proofs.write_partners.Goals as goal

pub loop-e-preserved : goal.loop-e-preserved
loop-e-preserved c =
    let a = c.args in
    edge-next a.case a.rows.now a.sets.now c.loop-e.e (omega arith) _ _ _ c.loop-e.invariant c.write_edge.ensures

pub returns : goal.returns
returns c =
    let a = c.args in
    let l = c.loop-e in
    let all : l.e ≡ a.case.m = omega arith in
    all-written a.case a.rows.now a.sets.now _ _ c.requires.m_in_bounds.1
    (subst (λ (m : ℕ). Written (λ q. get_or (all_bytes a.case a.rows.now a.sets.now) q 0) 0 (m * (2 * a.case.d)) a.partners.now l.partners)
    all l.invariant)
