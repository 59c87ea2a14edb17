use mathlib.Core.Path.{◌≡◌, sym, ap, ap₂, subst, ◌∙◌}
use native.Mathlib.Omega.{arith}
use lib.IntN.{ℤ, pos}
use lib.Dec.{T}
use lib.ListN.{length, get_or}
use mir.Syntax.{w64}
use mir.Val.{to_z, of_z}
use mir.Facts.{to_z-of_z}
use borrow.Author.Count.{below_more}
use borrow.Author.Rules.{rules}
use Rattle.integers.specs.Linear.{read_back}
use Rattle.definitions.specs.Rules.{rules_in}
use Rattle.changes.specs.Spaced.{amount_within, stays_with, weight_at}
use Rattle.changes.specs.Scopes.{raised_by}
use Rattle.changes.proofs.Tests.{not-all, all-passed}
use Rattle.changes.proofs.raised_stays.Goals as goal
use Rattle.changes.proofs.raised_stays.Goals.{After-stays_with}

pub stays_with-requires : goal.stays_with-requires
stays_with-requires c =
    let a = c.args in
    let f = c.ranges in
    let r = c.added in
    let e = read_back w64 r.result r.type_inv ∙ rw (to_z-of_z f.best, to_z-of_z f.rest) at r.ensures in
    subst (λ (z : ℤ). T (amount_within (rules_in a.rulebook) z)) (sym e)
    (c.requires c.loop-weight.weight-index (to_z w64 (of_z w64 (get_or a.part.now c.loop-weight.weight-index (pos 0)))))

told : (c : After-stays_with) → let a = c.args in
    c.stays_with.result
    ≡ stays_with (rules_in a.rulebook) (weight_at a.part.now c.loop-weight.weight-index)
    (raised_by a.best a.rest c.loop-weight.weight-index (weight_at a.part.now c.loop-weight.weight-index))
told c =
    let a = c.args in
    let f = c.ranges in
    let r = c.added in
    let e = read_back w64 (get_or a.part.now c.loop-weight.weight-index (pos 0)) (search rules) in
    c.stays_with.ensures ∙ ap₂ (stays_with (rules_in a.rulebook)) e (read_back w64 r.result r.type_inv
    ∙ rw (to_z-of_z f.best, to_z-of_z f.rest) at r.ensures ∙ ap (raised_by a.best a.rest c.loop-weight.weight-index) e)

pub returns-then-not-stays_with : goal.returns-then-not-stays_with
returns-then-not-stays_with c =
    let a = c.args in
    not-all (λ p. stays_with (rules_in a.rulebook) (weight_at a.part.now p) (raised_by a.best a.rest p (weight_at a.part.now p)))
    (length a.part.now)
    c.loop-weight.weight-index (omega arith) (sym (told (goal.at.returns-then-not-stays_with c).After-stays_with) ∙ c.if-not-stays_with.true)

pub loop-weight-preserved : goal.loop-weight-preserved
loop-weight-preserved c =
    let f = c.ranges in
    below_more _ _ c.loop-weight.invariant (rw (to_z-of_z f.best, to_z-of_z f.rest) (sym (told (goal.at.loop-weight-preserved c).After-stays_with) ∙ c.if-not-stays_with.false))

pub returns : goal.returns
returns c =
    let a = c.args in
    let f = c.ranges in
    all-passed (λ p. stays_with (rules_in a.rulebook) (weight_at a.part.now p) (raised_by a.best a.rest p (weight_at a.part.now p)))
    (length a.part.now)
    (λ k h. rw (to_z-of_z f.best, to_z-of_z f.rest) at (c.loop-weight.invariant k (omega arith)))
