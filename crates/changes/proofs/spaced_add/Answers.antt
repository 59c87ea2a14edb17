use mathlib.Core.Path.{refl, ap, ◌∙◌}
use Prim.Native.Nat.{◌+◌, ◌*◌}
use native.Mathlib.Numerals.{add-one}
use lib.IntN.{ℤ}
use lib.ListN.{set}
use mir.Facts.{to_z-of_z}
use mir.Val.{of_z, to_z}
use mir.Syntax.{w64}
use borrow.Author.Rules.{rules}
use Rattle.integers.specs.Linear.{read_back}
use Rattle.changes.proofs.SpacedLaws.{spaced-next}
use Rattle.changes.specs.Spaced.{weight_with, weight_at, spaced_add}
use Rattle.changes.proofs.spaced_add.Goals as goal

pub loop-j-init : goal.loop-j-init
unfolding spaced_add
loop-j-init c = refl

pub weight_with-requires : goal.weight_with-requires
weight_with-requires c =
    let a = c.args in
    let p = a.start + c.loop-j.j * a.step in
    -- the weight there is as it was
    let held = read_back w64 (weight_at c.loop-j.table p) (search rules) ∙ ap (λ t. weight_at t p) c.loop-j.invariant
    ∙ spaced-next a.table.now a.start a.step (to_z w64 (of_z w64 a.by)) c.requires.sums_fit.1 c.loop-j.j in
    rw (to_z-of_z c.ranges.by, held) (c.requires.sums_fit.0 c.loop-j.j c.loop-j-test.true)

pub loop-j-preserved : goal.loop-j-preserved
unfolding spaced_add
loop-j-preserved c =
    let a = c.args in
    let p = a.start + c.loop-j.j * a.step in
    let r = c.weight_with in
    let e = read_back w64 r.result r.type_inv ∙ r.ensures
    ∙ ap (λ (z : ℤ). weight_with z (to_z w64 (of_z w64 a.by))) (read_back w64 (weight_at c.loop-j.table p) (search rules)) in
    rw (e, add-one) (ap (λ t. set t p (weight_with (weight_at t p) (to_z w64 (of_z w64 a.by)))) c.loop-j.invariant)
