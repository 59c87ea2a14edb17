use mathlib.Core.Path.{sym, ◌∙◌}
use Rattle.tables.proofs.Order.{outcome-done}
use Rattle.checker.proofs.Front.{good-known}
use Rattle.checker.proofs.Replay.step.Goals as goal

pub good_step-requires : goal.good_step-requires
good_step-requires c = let a = c.args in
    let (h, g, r) = good-known a.case a.table.now a.self (outcome-done (sym c.in-Ok.is ∙ c.lent_answer-lent.ensures)) in
    record { handed = h; standing_value = (g, r) }
