use Rattle.std.proofs.lemmas.Result.{err_from_is_err_and}
use mathlib.Core.Path.{sym, ap, ◌∙◌}
use mathlib.Core.Bool.{Bool}
use mathlib.Core.List.{List}
use Prim.Native.Nat.{ℕ, ◌+◌}
use lib.IntN.{ℤ}
use lib.ListN.{set}
use mir.Facts.{to_z-of_z}
use Rattle.definitions.specs.Rules.{rules_of}
use Rattle.definitions.specs.Case.{greatest}
use Rattle.changes.specs.Kept.{Change, transfer_change, stays_working}
use Rattle.changes.proofs.TransferLaws.{transfer-best}
use Rattle.changes.proofs.KeptLaws.{kept-refused, kept-done}
use Rattle.changes.proofs.transfer_kept.Goals as goal
use Rattle.changes.proofs.transfer_kept.Goals.{Start}

abbrev change : (s : Start) → Change
change s = let a = s.args in transfer_change a.case a.edge a.end a.value a.amount

abbrev stays : (s : Start) → Bool
stays s = let a = s.args in stays_working (rules_of a.case) a.case a.table.now (change s)

pub returns-in_err-transfer_checked : goal.returns-in_err-transfer_checked
returns-in_err-transfer_checked c =
    let a = c.args in
    let r = rw (to_z-of_z c.ranges.amount) at c.transfer_checked.ensures in
    let p = err_from_is_err_and c.from_residual.result c.from_residual.ensures.1 in
    rw (p.1, p.2) (kept-refused a.case a.table.now a.best.now (change (goal.at.returns-in_err-transfer_checked c).Start) (stays (goal.at.returns-in_err-transfer_checked c).Start) (sym c.in_err-transfer_checked.was ∙ r.value) r.table_after)

pub returns : goal.returns
returns c =
    let a = c.args in
    let r = rw (to_z-of_z c.ranges.amount) at c.transfer_checked.ensures in
    let t = c.transfer_checked.new.table in
    let x = a.case.n + a.edge in
    kept-done a.case a.table.now a.best.now (change (goal.at.returns c).Start) (stays (goal.at.returns c).Start) (sym c.in_ok-transfer_checked.was ∙ r.value) r.table_after
    (λ d. c.keep_greatest-2.ensures
    ∙ ap (λ (b : List ℤ). set b x (greatest a.case t x))
    (c.keep_greatest.ensures ∙ ap (λ (x : ℕ). set a.best.now x (greatest a.case t x)) c.end_variable.ensures)
    ∙ transfer-best a.case a.edge a.end a.value a.amount a.table.now a.best.now c.requires.limited.2 c.requires.edge_lt_m.0 c.requires.edge_lt_m.3 d)
