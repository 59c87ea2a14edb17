use Rattle.std.specs.Prelude.{None}
use mathlib.Core.Path.{◌≡◌, sym, ap, ◌∙◌}
use Rattle.definitions.specs.Rules.{rules_of}
use Rattle.tables.proofs.Order.{outcome-done}
use Rattle.checker.specs.Checker.{BlockCall, lent_standing}
use Rattle.checker.proofs.Front.{good-known}
use Rattle.checker.proofs.Fold.{block-good}
use Rattle.checker.proofs.Replay.lines.Goals as goal
use Rattle.checker.proofs.Replay.lines.Goals.{In-Ok}

-- nothing applies to what was handed over
right : (c : In-Ok) → let a = c.args in
    lent_standing (rules_of a.case) a.case a.table.now a.self a.self.standing ≡ None
right c = outcome-done (sym c.in-Ok.is ∙ c.lent_answer-lent.ensures)

pub good_lines-requires : goal.good_lines-requires
good_lines-requires c = let a = c.args in
    let (h, g, r) = good-known a.case a.table.now a.self (right (goal.at.good_lines-requires c).In-Ok) in record { handed = h; standing_value = (g, r) }

pub returns-in-Ok : goal.returns-in-Ok
returns-in-Ok c = let a = c.args in
    let e = sym (block-good a.case a.table.now a.self a.bytes.now (right (goal.at.returns-in-Ok c).In-Ok)) in
    (c.good_lines.ensures.0 ∙ ap (λ (x : BlockCall). x.block) e, c.good_lines.ensures.1 ∙ ap (λ (x : BlockCall). x.table) e)
