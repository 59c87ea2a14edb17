use mir.Facts.{to_z-of_z}
use mathlib.Core.Path.{sym, ap, ◌∙◌}
use Rattle.definitions.specs.Answers.{outcome_of}
use Rattle.tables.proofs.Ranges.{nothing_left}
use Rattle.tables.proofs.own_outcome.Goals as goal

pub returns-then-all_within : goal.returns-then-all_within
returns-then-all_within c = let a = c.args in
    let f = c.ranges in
    ap outcome_of (sym (nothing_left a.low a.high a.table.now c.requires.barred_weight_lt_low a.case c.requires.limited c.requires.table_len
    (sym (simp (to_z-of_z f.low, to_z-of_z f.high, c.requires.own_value) at c.all_within.ensures) ∙ c.if-all_within.true)))
