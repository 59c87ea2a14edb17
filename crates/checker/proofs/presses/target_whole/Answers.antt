use mathlib.Core.Path.{sym, subst}
use Prim.Native.Nat.{ℕ}
use Rattle.definitions.specs.Moves.{active_values}
use Rattle.changes.specs.Kept.{MarksOf}
use Rattle.changes.proofs.ValueLaws.{best-values-active}
use Rattle.checker.proofs.presses.target_whole.Goals as goal
use Rattle.checker.proofs.presses.target_whole.Goals.{After-best_values-values}

active-found : (c : After-best_values-values) → let a = c.args in MarksOf a.case (active_values a.case a.table.now a.variable) c.best_values-values.result
active-found c =
    let a = c.args in
    let p = c.requires in
    subst (λ (s : ℕ). MarksOf a.case (active_values a.case a.table.now a.variable) s) (sym c.best_values-values.ensures)
    (best-values-active p.handed p.best_of a.variable p.raised_len.1)

pub all_refuted-requires : goal.all_refuted-requires
all_refuted-requires c =
    let p = c.requires in
    record { handed = p.handed; best_of = p.best_of; raised_len = (p.raised_len.0, p.raised_len.1); marks_of = active-found c }

pub target_made-requires : goal.target_made-requires
target_made-requires c =
    let p = c.requires in
    record { handed = p.handed; best_of = p.best_of; raised_len = p.raised_len; marks_of = active-found (goal.at.target_made-requires c).After-best_values-values }
