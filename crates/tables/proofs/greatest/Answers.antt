use Prim.Native.Nat.{◌+◌}
use mathlib.Core.List.{◌∷◌}
use mathlib.Core.Path.{◌≡◌}
use lib.IntN.{pos}
use lib.ListN.{get_or, take}
use mir.Syntax.{w64}
use mir.Val.{to_z, of_z}
use Rattle.integers.specs.Words.{max_z, greatest_of}
use Rattle.integers.specs.Linear.{read_back}
use Rattle.tables.proofs.Maxima.{next-greatest, takes, keeps}
use Rattle.tables.proofs.greatest.Goals as goal
use Rattle.tables.proofs.greatest.Goals.{then-best-weight, else-best-weight}

pub loop-weight-preserved : goal.loop-weight-preserved
loop-weight-preserved c =
    let l = c.in-Some.rest.now in
    let i = c.loop-weight.weight-index in
    let y = to_z w64 (of_z w64 c.in-Some.first.now) in
    let x = get_or l i (pos 0) in
    let e : to_z w64 (of_z w64 x) ≡ x = read_back w64 x c.weight-1.given in
    let b = to_z w64 c.loop-weight.best-bits in
    let g : greatest_of (y ∷ take (i + 1) l) ≡ max_z b x = rw c.loop-weight.invariant (next-greatest y l i c.loop-weight-test.true) in
    elim c.if-best-weight.branch [
      | then-best-weight w ↦ cc (takes b x _ g (rw e at w.if-best-weight.true))
      | else-best-weight w ↦ cc (keeps b x _ g (rw e at w.if-best-weight.false))
    ]
