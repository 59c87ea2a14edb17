use mathlib.Core.Path.{◌≡◌, subst}
use Prim.Native.Nat.{ℕ}
use native.Mathlib.Omega.{arith}
use lib.ListN.{length}
use Rattle.arcs.specs.Active.{Written}
use Rattle.graphs.proofs.Labels.{own-written}
use Rattle.graphs.proofs.label_apart.Goals as goal

pub returns : goal.returns
returns c =
    let l = c.loop-i in
    let S = c.args.labels.now in
    let all : l.i ≡ length S = omega (arith, l.invariant.same_length) in
    own-written S l.labels (subst (λ (n : ℕ). Written (λ p. p) 0 n S l.labels) all l.invariant)
