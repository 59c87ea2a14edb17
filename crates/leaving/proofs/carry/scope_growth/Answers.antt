use mathlib.Core.Path.{◌≡◌, ap, ap₂, ◌∙◌}
use lib.IntN.{◌-ℤ◌}
use mir.Syntax.{w64}
use mir.Val.{to_z, of_z}
use mir.Facts.{to_z-of_z}
use Rattle.integers.specs.Words.{greatest_of, smallest_of}
use Rattle.integers.specs.Linear.{read_back}
use Rattle.tables.proofs.Parts.{part-greatest}
use Rattle.tables.proofs.Answered.{scope-weights-known}
use Rattle.leaving.specs.Scopes.{growth}
use Rattle.leaving.proofs.Growth.{part-least, first-working, growth-fits}
use Rattle.leaving.proofs.carry.scope_growth.Goals as goal
use Rattle.leaving.proofs.carry.scope_growth.Goals.{After-least-least}

-- the difference that is made
made : (c : After-least-least) → let a = c.args in
    to_z w64 (of_z w64 c.greatest-greatest.result) -ℤ to_z w64 (of_z w64 c.least-least.result) ≡ growth a.case a.starting.now a.table.now a.x
made c =
    let a = c.args in
    let h = c.requires.both_handed in
    let x = c.requires.x_bound in
    ap₂ ◌-ℤ◌
    (read_back w64 c.greatest-greatest.result c.greatest-greatest.type_inv ∙ c.greatest-greatest.ensures
    ∙ ap greatest_of (c.scope_weights.ensures ∙ scope-weights-known h.now a.x x) ∙ part-greatest a.case a.table.now h.now.own-fits a.x x)
    (read_back w64 c.least-least.result c.least-least.type_inv ∙ c.least-least.ensures
    ∙ ap smallest_of (c.scope_weights-2.ensures ∙ scope-weights-known (first-working a.case a.starting.now a.table.now h) a.x x)
    ∙ part-least a.case a.starting.now h.first.own-fits a.x x)

pub overflow_sub-result : goal.overflow_sub-result
overflow_sub-result c = let a = c.args in
    rw (made c) (growth-fits a.case a.starting.now a.table.now c.requires.both_handed a.x c.requires.x_bound)

pub returns : goal.returns
returns c = let a = c.args in
    rw (made c) (to_z-of_z (growth-fits a.case a.starting.now a.table.now c.requires.both_handed a.x c.requires.x_bound))
