use mathlib.Core.Path.{◌≡◌, sym, ◌∙◌}
use mathlib.Core.Bool.{Bool, true}
use mir.Facts.{to_z-of_z}
use Rattle.definitions.specs.Rules.{rules_of}
use Rattle.marks.specs.Marks.{mark}
use Rattle.changes.specs.Scopes.{lowering_lets}
use Rattle.changes.specs.Kept.{Change, lowering_change, stays_working}
use Rattle.tables.proofs.Order.{own-places}
use Rattle.changes.proofs.LoweringLaws.{lets-is}
use Rattle.changes.proofs.KeptLaws.{kept-left, kept-made}
use Rattle.changes.proofs.lowering_kept.Goals as goal
use Rattle.changes.proofs.lowering_kept.Goals.{Else-not-lowering_stays, Start}

abbrev change : (s : Start) → Change
change s = let a = s.args in lowering_change a.case a.table.now a.best.now a.raised.now a.variable (mark a.values) a.amount

abbrev stays : (s : Start) → Bool
stays s = let a = s.args in stays_working (rules_of a.case) a.case a.table.now (change s)

abbrev lets : (s : Start) → Bool
lets s =
    let a = s.args in
    lowering_lets (rules_of a.case) a.case a.table.now a.best.now a.raised.now a.variable a.values a.amount

same : (s : Start) → (lets s) ≡ (stays s)
same s =
    let a = s.args in
    lets-is a.case a.table.now a.best.now a.raised.now a.variable a.values a.amount s.requires.variable_lt_n.0
    (own-places a.case s.requires.limited.0 a.table.now s.requires.limited.1)

pub returns-then-not-lowering_stays : goal.returns-then-not-lowering_stays
returns-then-not-lowering_stays c =
    let a = c.args in
    kept-left a.case a.table.now a.best.now (change (goal.at.returns-then-not-lowering_stays c).Start) (stays (goal.at.returns-then-not-lowering_stays c).Start)
    (sym (same (goal.at.returns-then-not-lowering_stays c).Start) ∙ rw (to_z-of_z c.ranges.amount) at (sym c.lowering_stays.ensures ∙ c.if-not-lowering_stays.true))

may : (c : Else-not-lowering_stays) → lets (goal.at.Else-not-lowering_stays c).Start ≡ true
may c = rw (to_z-of_z c.ranges.amount) at (sym c.lowering_stays.ensures ∙ c.if-not-lowering_stays.false)

pub returns : goal.returns
returns c =
    let a = c.args in
    let r = rw (to_z-of_z c.ranges.amount) at c.lower_scopes.ensures in
    kept-made a.case a.table.now a.best.now (change (goal.at.returns c).Start) (stays (goal.at.returns c).Start) (sym (same (goal.at.returns c).Start) ∙ may (goal.at.returns c).Else-not-lowering_stays) r.0 r.1
