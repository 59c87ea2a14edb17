use mathlib.Core.Path.{sym, ◌∙◌}
use mir.Facts.{to_z-of_z}
use Rattle.changes.proofs.ScopeLaws.{none-fits, none_after}
use Rattle.changes.proofs.change_part.Goals as goal

pub raise_part-requires : goal.raise_part-requires
raise_part-requires c =
    let a = c.args in
    rw (to_z-of_z c.ranges.best, to_z-of_z c.ranges.rest)
    (none-fits a.values a.amount a.best a.rest c.if-values-eq0.true a.part.now c.requires.part_fits)

pub returns-then-values-eq0 : goal.returns-then-values-eq0
returns-then-values-eq0 c =
    let a = c.args in
    rw (to_z-of_z c.ranges.best, to_z-of_z c.ranges.rest) at c.raise_part.ensures
    ∙ sym (none_after a.values a.amount a.best a.rest c.if-values-eq0.true a.part.now)
