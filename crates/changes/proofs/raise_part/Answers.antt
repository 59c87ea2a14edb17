use mathlib.Core.Path.{◌≡◌, ap, ◌∙◌}
use Prim.Native.Nat.{◌<◌}
use native.Mathlib.Omega.{arith}
use lib.IntN.{ℤ, pos}
use lib.ListN.{length, get_or}
use lib.Seq.{get_or-set_same, get_or-set_other}
use mir.Syntax.{w64}
use mir.Val.{to_z, of_z}
use mir.Facts.{to_z-of_z}
use borrow.Author.Count.{below_more}
use borrow.Author.Rules.{rules}
use Rattle.integers.specs.Linear.{read_back}
use Rattle.changes.specs.Spaced.{weight_with}
use Rattle.changes.specs.Scopes.{raised_by, weight_after}
use Rattle.changes.proofs.ScopeLaws.{after_is}
use Rattle.changes.proofs.raise_part.Goals as goal
use Rattle.changes.proofs.raise_part.Goals.{After-raised_weight}

stored : (c : After-raised_weight) → let a = c.args in
    to_z w64 (of_z w64 c.raised_weight.result) ≡ weight_after (raised_by a.best a.rest) a.part.now c.loop-weight.weight-index
stored c =
    let a = c.args in
    let f = c.ranges in
    read_back w64 c.raised_weight.result c.raised_weight.type_inv ∙ rw (to_z-of_z f.best, to_z-of_z f.rest) at c.raised_weight.ensures
    ∙ ap (λ (z : ℤ). weight_with z (raised_by a.best a.rest c.loop-weight.weight-index z))
    (read_back w64 (get_or c.loop-weight.part c.loop-weight.weight-index (pos 0)) (search rules) ∙ c.loop-weight.invariant.1 c.loop-weight.weight-index (omega arith))

pub loop-weight-preserved : goal.loop-weight-preserved
loop-weight-preserved c =
    let l = c.loop-weight in
    let f = c.ranges in
    let h : l.weight-index < length l.part = omega arith in (
      below_more _ _
          (λ k u. get_or-set_other l.part l.weight-index k _ (pos 0) (λ e. omega arith) ∙ l.invariant.0 k u)
          (get_or-set_same l.part l.weight-index _ (pos 0) h ∙ rw (to_z-of_z f.best, to_z-of_z f.rest) (stored c)),
      λ k u. get_or-set_other l.part l.weight-index k _ (pos 0) (λ e. omega arith) ∙ l.invariant.1 k (omega arith),
    )

pub returns : goal.returns
returns c =
    let a = c.args in
    let f = c.ranges in
    after_is (raised_by a.best a.rest) a.part.now c.loop-weight.part c.loop-weight.auto.part
    (λ k h. rw (to_z-of_z f.best, to_z-of_z f.rest) at (c.loop-weight.invariant.0 k (omega arith)))
