use Rattle.std.specs.Prelude.{Result, Ok}
use Rattle.definitions.specs.declared.Refusal.{Refusal}
use mathlib.Core.Path.{◌≡◌, sym, ◌∙◌}
use mathlib.Core.List.{List}
use Prim.Native.Nat.{ℕ}
use native.Mathlib.Omega.{arith}
use lib.IntN.{ℤ}
use mir.Syntax.{w64}
use mir.Val.{to_z, of_z}
use mir.Facts.{to_z-of_z}
use Rattle.integers.specs.Linear.{read_back}
use Rattle.definitions.specs.Case.{upper_bound}
use Rattle.tables.proofs.Best.{best-sum-known}
use Rattle.engine.specs.Rounds.{PressMade}
use Rattle.engine.proofs.Rounds.{done-handed, made-done}
use borrow.Author.Rules.{rules}
use Rattle.engine.proofs.write_pressed.Goals as goal
use Rattle.engine.proofs.write_pressed.Goals.{After-sum_of_best}

-- the sum is the upper bound
summed : (c : After-sum_of_best) {f : Result ℤ Refusal} → c.sum_of_best.result ≡ f → let a = c.args in
    (w after : List ℤ) → PressMade a.case a.variable a.raised.now a.amount w after a.best.now
    → f ≡ Ok (upper_bound a.case after)
summed c e w after p =
    let a = c.args in
    sym e ∙ c.sum_of_best.ensures
    ∙ best-sum-known (done-handed p.handed p.which p.least p.no-pair a.raised.now p.kept a.out.now c.requires.1 p.pressed)
    p.pressed.greatest-kept

pub returns-in_err-bound : goal.returns-in_err-bound
returns-in_err-bound c w after p =
    let e = summed (goal.at.returns-in_err-bound c).After-sum_of_best c.in_err-bound.was w after p in
    let z : ◌≡◌ {A = ℕ} 0 1 = cc in
    absurd (omega arith)

pub returns : goal.returns
returns c w after p =
    let a = c.args in
    let e = summed (goal.at.returns c).After-sum_of_best c.in_ok-bound.was w after p in
    let d : c.in_ok-bound.bound ≡ upper_bound a.case after = cc in
    let p : PressMade a.case a.variable a.raised.now (to_z w64 (of_z w64 a.amount)) w after a.best.now = rw (to_z-of_z c.ranges.amount) p in
    made-done p.handed p.which p.least p.no-pair a.raised.now p.kept a.out.now c.requires.1 p.pressed c.requires.0
    (read_back w64 c.in_ok-bound.bound (search rules) ∙ d) c.write_lines.ensures.value c.write_lines.ensures.out_after
