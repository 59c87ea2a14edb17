use Rattle.definitions.specs.declared.Refusal.{Refusal}
use mathlib.Core.Path.{◌≡◌, sym, ap, ◌∙◌}
use mathlib.Core.Bool.{Bool}
use Prim.Native.Nat.{ℕ}
use native.Mathlib.Omega.{arith}
use borrow.Author.Rules.{rules}
use mir.Syntax.{w64}
use Rattle.integers.specs.Linear.{read_back}
use Rattle.std.specs.Prelude.{if◌then◌else◌, Result, Ok, ℤ}
use Rattle.definitions.specs.declared.Judgement.{Judgement}
use Rattle.definitions.specs.Case.{upper_bound}
use Rattle.tables.proofs.Answered.{greatest-sum-known}
use Rattle.judging.proofs.good_judgement.Goals as goal
use Rattle.judging.proofs.good_judgement.Goals.{After-sum_of_greatest-sum}

summed : (c : After-sum_of_greatest-sum) {x : Result ℤ Refusal} → c.sum_of_greatest-sum.result ≡ x
    → let a = c.args in x ≡ Ok (upper_bound a.case a.table.now)
summed c f = sym f ∙ c.sum_of_greatest-sum.ensures ∙ greatest-sum-known c.requires

pub returns-in-Err : goal.returns-in-Err
returns-in-Err c =
    let e = summed (goal.at.returns-in-Err c).After-sum_of_greatest-sum c.in-Err.is in
    let z : ◌≡◌ {A = ℕ} 0 1 = cc in
    absurd (omega arith)

pub returns-in-Ok : goal.returns-in-Ok
returns-in-Ok c =
    let a = c.args in
    let bound = upper_bound a.case a.table.now in
    let z = c.in-Ok.bound in
    let f = summed (goal.at.returns-in-Ok c).After-sum_of_greatest-sum c.in-Ok.is in
    let d : z ≡ bound = cc in
    ap (λ (b : ℤ). Ok (Judgement.Accepted a.replay.rounds b)) (read_back w64 z (search rules) ∙ d)
    ∙ ap (λ (over : Bool). if over then Ok Judgement.Void else Ok (Judgement.Accepted a.replay.rounds bound)) (sym c.if-is_over.false ∙ c.is_over.ensures)
