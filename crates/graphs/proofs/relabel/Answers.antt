use mathlib.Core.Path.{◌≡◌, subst}
use Prim.Native.Nat.{ℕ}
use native.Mathlib.Omega.{arith}
use lib.ListN.{length, get_or}
use Rattle.definitions.specs.Graph.{renamed}
use Rattle.arcs.specs.Active.{Written}
use Rattle.graphs.proofs.Labels.{map-written}
use Rattle.graphs.proofs.relabel.Goals as goal

pub returns : goal.returns
returns c =
    let l = c.loop-label in
    let a = c.args in
    let S = a.labels.now in
    let all : l.label-index ≡ length S = omega (arith, l.invariant.same_length) in
    map-written S l.labels (renamed a.from a.to) (subst (λ (n : ℕ). Written (λ p. renamed a.from a.to (get_or S p 0)) 0 n S l.labels) all l.invariant)
