use Rattle.std.proofs.lemmas.Result.{err_from_is_err_and}
use Rattle.std.specs.Prelude.{Result, Some, ⊤}
use Rattle.definitions.specs.declared.Refusal.{Refusal}
use mathlib.Core.Path.{◌≡◌, subst}
use mir.Syntax.{w64}
use mir.Val.{to_z, of_z}
use mir.Facts.{to_z-of_z}
use Rattle.definitions.specs.Engine.{least_gap}
use Rattle.press_theory.proofs.Trim.{chosen-some}
use Rattle.engine.specs.Rounds.{Pressed}
use Rattle.engine.proofs.Rounds.{amount-within, made-refused}
use Rattle.engine.proofs.press_round.Goals as goal
use Rattle.engine.proofs.press_round.Goals.{After-press, Start}

-- the amount, read back
amount : (s : Start) → let a = s.args in least_gap a.case a.table.now a.variable ≡ Some (to_z w64 (of_z w64 a.amount))
amount s = rw (to_z-of_z s.ranges.amount) s.requires.found.1

pub press-requires : goal.press-requires
press-requires c =
    let f = c.requires.found.0 in
    let n = (chosen-some c.args.case c.args.table.now f.which).0 in
    record { handed = f.handed; best_of = f.greatest-held; case_in_bounds = (f.room, n, amount-within f.handed f.which (amount (goal.at.press-requires c).Start)) }

pressed : (c : After-press) {r : Result ⊤ Refusal} → c.press.result ≡ r → let a = c.args in
    Pressed a.case a.variable a.raised.now (to_z w64 (of_z w64 a.amount)) a.table.now c.press.new.table c.press.new.best r
pressed c e =
    let a = c.args in
    subst (λ (q : Result ⊤ Refusal).
    Pressed a.case a.variable a.raised.now (to_z w64 (of_z w64 a.amount)) a.table.now c.press.new.table c.press.new.best q)
    e c.press.ensures

pub returns-in_err-press : goal.returns-in_err-press
returns-in_err-press c =
    let f = c.requires.found.0 in
    let p = err_from_is_err_and c.from_residual.result c.from_residual.ensures.1 in
    rw (p.1, p.2) (made-refused f.handed f.which (amount (goal.at.returns-in_err-press c).Start) f.no-pair c.args.raised.now f.kept c.args.out.now c.requires.case_in_bounds
    (pressed (goal.at.returns-in_err-press c).After-press c.in_err-press.was))
