use mathlib.Core.Path.{◌≡◌, sym, ap, ap₂, ◌∙◌}
use native.Mathlib.Omega.{arith}
use lib.IntN.{pos}
use lib.ListN.{length, get_or}
use mir.Syntax.{w64}
use mir.Facts.{to_z-of_z}
use borrow.Author.Count.{below_more}
use borrow.Author.Rules.{rules}
use Rattle.integers.specs.Linear.{read_back}
use Rattle.definitions.specs.Rules.{rules_in}
use Rattle.changes.specs.Spaced.{stays_with, weight_at}
use Rattle.changes.specs.Scopes.{lowered_by}
use Rattle.changes.proofs.Tests.{not-all, all-passed}
use Rattle.changes.proofs.own_stays.Goals as goal
use Rattle.changes.proofs.own_stays.Goals.{After-stays_with}

told : (c : After-stays_with) → let a = c.args in
    c.stays_with.result
    ≡ stays_with (rules_in a.rulebook) (weight_at a.part.now c.loop-i.i)
    (lowered_by a.values a.amount a.best a.rest c.loop-i.i (weight_at a.part.now c.loop-i.i))
told c =
    let a = c.args in
    let f = c.ranges in
    let r = c.own_added-by in
    let e = read_back w64 (get_or a.part.now c.loop-i.i (pos 0)) (search rules) in
    c.stays_with.ensures ∙ ap₂ (stays_with (rules_in a.rulebook)) e (read_back w64 r.result r.type_inv
    ∙ rw (to_z-of_z f.best, to_z-of_z f.rest, to_z-of_z f.amount) at r.ensures
    ∙ ap (lowered_by a.values a.amount a.best a.rest c.loop-i.i) e)

pub returns-then-not-stays_with : goal.returns-then-not-stays_with
returns-then-not-stays_with c =
    let a = c.args in
    not-all (λ p. stays_with (rules_in a.rulebook) (weight_at a.part.now p)
    (lowered_by a.values a.amount a.best a.rest p (weight_at a.part.now p)))
    (length a.part.now) c.loop-i.i (omega arith) (sym (told (goal.at.returns-then-not-stays_with c).After-stays_with) ∙ c.if-not-stays_with.true)

pub loop-i-preserved : goal.loop-i-preserved
loop-i-preserved c =
    let f = c.ranges in
    below_more _ _ c.loop-i.invariant
    (rw (to_z-of_z f.best, to_z-of_z f.rest, to_z-of_z f.amount) (sym (told (goal.at.loop-i-preserved c).After-stays_with) ∙ c.if-not-stays_with.false))

pub returns : goal.returns
returns c =
    let a = c.args in
    let f = c.ranges in
    all-passed (λ p. stays_with (rules_in a.rulebook) (weight_at a.part.now p)
    (lowered_by a.values a.amount a.best a.rest p (weight_at a.part.now p)))
    (length a.part.now) (λ k h. rw (to_z-of_z f.best, to_z-of_z f.rest, to_z-of_z f.amount) at (c.loop-i.invariant k (omega arith)))
