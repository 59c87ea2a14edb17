use mathlib.Core.Path.{◌≡◌, sym, ◌∙◌}
use mir.Facts.{to_z-of_z}
use Rattle.integers.specs.Tests.{is_true, true-is}
use Rattle.definitions.specs.Rules.{rules_in}
use Rattle.changes.specs.Scopes.{raised_by, lowered_by, Amounts, part_stays}
use Rattle.changes.proofs.ScopeLaws.{none_stays, none-amounts, rest-within, room-stays}
use Rattle.changes.proofs.part_stays.Goals as goal
use Rattle.changes.proofs.part_stays.Goals.{Else-values-ne0}

amounts : (c : Else-values-ne0) → let a = c.args in Amounts (rules_in a.rulebook) (raised_by a.best a.rest)
amounts c = let a = c.args in none-amounts a.values a.amount a.best a.rest c.if-values-ne0.false (rules_in a.rulebook) c.requires

same : (c : Else-values-ne0) → let a = c.args in
    part_stays (rules_in a.rulebook) (lowered_by a.values a.amount a.best a.rest) a.part.now
    ≡ part_stays (rules_in a.rulebook) (raised_by a.best a.rest) a.part.now
same c = let a = c.args in none_stays a.values a.amount a.best a.rest c.if-values-ne0.false a.part.now (rules_in a.rulebook)

pub has_room-requires : goal.has_room-requires
has_room-requires c =
    rw (to_z-of_z c.ranges.rest) (rest-within (rules_in c.args.rulebook) c.args.best c.args.rest (amounts c))

pub returns-then-has_room : goal.returns-then-has_room
returns-then-has_room c =
    let a = c.args in
    let room = true-is _ (sym (rw (to_z-of_z c.ranges.rest) at c.has_room.ensures) ∙ c.if-has_room.true) in
    sym (same (goal.at.returns-then-has_room c).Else-values-ne0 ∙ is_true _ (room-stays (rules_in a.rulebook) a.best a.rest a.part.now room))

pub raised_stays-requires : goal.raised_stays-requires
raised_stays-requires c =
    rw (to_z-of_z c.ranges.best, to_z-of_z c.ranges.rest) (amounts (goal.at.raised_stays-requires c).Else-values-ne0)

pub returns : goal.returns
returns c =
    rw (to_z-of_z c.ranges.best, to_z-of_z c.ranges.rest) at c.raised_stays.ensures ∙ sym (same (goal.at.returns c).Else-values-ne0)
