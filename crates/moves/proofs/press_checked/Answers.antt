use mathlib.Core.Path.{◌≡◌, sym, ap, ◌∙◌}
use mathlib.Core.Bool.{true, false}
use mir.Facts.{to_z-of_z}
use Rattle.integers.specs.Words.{is_in}
use Rattle.definitions.specs.Answers.{outcome_of, unless_refused}
use Rattle.definitions.specs.Moves.{active_press, moved}
use Rattle.calls.specs.Calls.{is_rising}
use Rattle.moves.proofs.PressLaws.{raised-left}
use Rattle.moves.proofs.press_checked.Goals as goal
use Rattle.moves.proofs.press_checked.Goals.{Else-holds}

-- number 9 does not apply
allowed : (c : Else-holds) → let a = c.args in (is_rising a.raised.now ≡ true)
    × (is_in a.raised.now a.variable ≡ false)
allowed c = (sym c.is_rising.ensures ∙ c.if-not-is_rising.false, sym c.holds.ensures ∙ c.if-holds.false)

pub returns : goal.returns
returns c = let a = c.args in
    let (d, e) = allowed (goal.at.returns c).Else-holds in
    let g = raised-left a.case a.table.now a.variable a.raised.now a.amount d e in
    let r = rw (to_z-of_z c.ranges.amount) at c.press_raised.ensures in record {
      value = r.value ∙ ap outcome_of (sym g);
      table_after = r.table_after ∙ ap (λ o. unless_refused o
          (moved a.case (active_press a.case a.table.now a.variable a.raised.now a.amount) a.table.now) a.table.now) (sym g);
    }
