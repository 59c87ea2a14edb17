use mathlib.Core.Path.{◌≡◌, ap, ◌∙◌}
use Prim.Native.Nat.{◌<◌}
use native.Mathlib.Omega.{arith}
use lib.IntN.{ℤ, pos}
use lib.ListN.{length, get_or}
use lib.Seq.{get_or-set_same, get_or-set_other}
use mir.Syntax.{w64}
use mir.Val.{to_z, of_z}
use mir.Facts.{to_z-of_z}
use borrow.Author.Count.{below_more}
use borrow.Author.Rules.{rules}
use Rattle.integers.specs.Linear.{read_back}
use Rattle.changes.specs.Spaced.{weight_with}
use Rattle.changes.specs.Scopes.{lowered_by, weight_after}
use Rattle.changes.proofs.ScopeLaws.{after_is}
use Rattle.changes.proofs.lower_part.Goals as goal
use Rattle.changes.proofs.lower_part.Goals.{After-own_weight}

stored : (c : After-own_weight) → let a = c.args in
    to_z w64 (of_z w64 c.own_weight.result) ≡ weight_after (lowered_by a.values a.amount a.best a.rest) a.part.now c.loop-value.value
stored c =
    let a = c.args in
    let f = c.ranges in
    read_back w64 c.own_weight.result c.own_weight.type_inv ∙ rw (to_z-of_z f.best, to_z-of_z f.rest, to_z-of_z f.amount) at c.own_weight.ensures
    ∙ ap (λ (z : ℤ). weight_with z (lowered_by a.values a.amount a.best a.rest c.loop-value.value z))
    (read_back w64 (get_or c.loop-value.part c.loop-value.value (pos 0)) (search rules) ∙ c.loop-value.invariant.1 c.loop-value.value (omega arith))

pub loop-value-preserved : goal.loop-value-preserved
loop-value-preserved c =
    let l = c.loop-value in
    let f = c.ranges in
    let h : l.value < length l.part = omega arith in (
      below_more _ _
          (λ k u. get_or-set_other l.part l.value k _ (pos 0) (λ e. omega arith) ∙ l.invariant.0 k u)
          (get_or-set_same l.part l.value _ (pos 0) h ∙ rw (to_z-of_z f.best, to_z-of_z f.rest, to_z-of_z f.amount) (stored c)),
      λ k u. get_or-set_other l.part l.value k _ (pos 0) (λ e. omega arith) ∙ l.invariant.1 k (omega arith),
    )

pub returns : goal.returns
returns c =
    let a = c.args in
    let f = c.ranges in
    after_is (lowered_by a.values a.amount a.best a.rest) a.part.now c.loop-value.part c.loop-value.auto.part
    (λ k h. rw (to_z-of_z f.best, to_z-of_z f.rest, to_z-of_z f.amount) at (c.loop-value.invariant.0 k (omega arith)))
