use mathlib.Core.Path.{◌≡◌, sym, ap₂, subst, ◌∙◌}
use lib.IntN.{ℤ, ◌-ℤ◌}
use mir.Syntax.{w64}
use mir.Val.{SFits, to_z, of_z}
use mir.Facts.{to_z-of_z}
use Rattle.integers.specs.Linear.{read_back}
use Rattle.changes.specs.Scopes.{raised_by, lowered_by}
use Rattle.changes.proofs.ScopeLaws.{is-lowered-by}
use Rattle.changes.proofs.own_added.Goals as goal
use Rattle.changes.proofs.own_added.Goals.{After-added-by, Then-is_lowered}

by-is : (c : After-added-by) → let a = c.args in to_z w64 (of_z w64 c.added-by.result) ≡ raised_by a.best a.rest a.value a.weight
by-is c =
    let f = c.ranges in
    read_back w64 c.added-by.result c.added-by.type_inv ∙ rw (to_z-of_z f.weight, to_z-of_z f.best, to_z-of_z f.rest) at c.added-by.ensures

-- the code's difference
less : (c : Then-is_lowered) → let a = c.args in
    to_z w64 (of_z w64 c.added-by.result) -ℤ to_z w64 (of_z w64 a.amount) ≡ lowered_by a.values a.amount a.best a.rest a.value a.weight
less c =
    let a = c.args in
    ap₂ ◌-ℤ◌ (by-is (goal.at.Then-is_lowered c).After-added-by) (to_z-of_z c.ranges.amount)
    ∙ is-lowered-by a.values a.value a.amount a.best a.rest a.weight (sym c.is_lowered.ensures ∙ c.if-is_lowered.true)

pub overflow_sub-result : goal.overflow_sub-result
overflow_sub-result c = subst (λ (z : ℤ). SFits w64 z) (sym (less c)) c.requires

pub returns-then-is_lowered : goal.returns-then-is_lowered
returns-then-is_lowered c = to_z-of_z (overflow_sub-result c) ∙ less c
