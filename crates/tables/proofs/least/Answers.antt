use Prim.Native.Nat.{◌+◌}
use mathlib.Core.List.{◌∷◌}
use mathlib.Core.Path.{◌≡◌}
use lib.IntN.{pos}
use lib.ListN.{get_or, take}
use mir.Syntax.{w64}
use mir.Val.{to_z, of_z}
use Rattle.integers.specs.Words.{min_z, smallest_of}
use Rattle.integers.specs.Linear.{read_back}
use Rattle.tables.proofs.Maxima.{next-least, takes-less, keeps-less}
use Rattle.tables.proofs.least.Goals as goal
use Rattle.tables.proofs.least.Goals.{then-weight-lowest, else-weight-lowest}

pub loop-weight-preserved : goal.loop-weight-preserved
loop-weight-preserved c =
    let l = c.in-Some.rest.now in
    let i = c.loop-weight.weight-index in
    let y = to_z w64 (of_z w64 c.in-Some.first.now) in
    let x = get_or l i (pos 0) in
    let e : to_z w64 (of_z w64 x) ≡ x = read_back w64 x c.weight-1.given in
    let b = to_z w64 c.loop-weight.lowest-bits in
    let g : smallest_of (y ∷ take (i + 1) l) ≡ min_z b x = rw c.loop-weight.invariant (next-least y l i c.loop-weight-test.true) in
    elim c.if-weight-lowest.branch [
      | then-weight-lowest w ↦ cc (takes-less b x _ g (rw e at w.if-weight-lowest.true))
      | else-weight-lowest w ↦ cc (keeps-less b x _ g (rw e at w.if-weight-lowest.false))
    ]
