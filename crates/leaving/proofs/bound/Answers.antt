use Rattle.std.specs.Prelude.{Result, Ok, ℤ}
use Rattle.definitions.specs.declared.Refusal.{Refusal}
use mathlib.Core.Path.{◌≡◌, sym, ◌∙◌}
use Prim.Native.Nat.{ℕ}
use native.Mathlib.Omega.{arith}
use mir.Syntax.{w64}
use Rattle.integers.specs.Linear.{read_back}
use Rattle.definitions.specs.Case.{upper_bound}
use Rattle.tables.proofs.Answered.{greatest-sum-known}
use borrow.Author.Rules.{rules}
use Rattle.leaving.proofs.bound.Goals as goal
use Rattle.leaving.proofs.bound.Goals.{After-sum_of_greatest-sum}

answered : (c : After-sum_of_greatest-sum) {f : Result ℤ Refusal} → c.sum_of_greatest-sum.result ≡ f → let a = c.args in
    f ≡ Ok (upper_bound a.case a.table.now)
answered c e = sym e ∙ c.sum_of_greatest-sum.ensures ∙ greatest-sum-known c.requires

pub returns-in-Ok : goal.returns-in-Ok
returns-in-Ok c = let e = answered (goal.at.returns-in-Ok c).After-sum_of_greatest-sum c.in-Ok.is in
    let d : c.in-Ok.bound ≡ upper_bound c.args.case c.args.table.now = cc in
    read_back w64 c.in-Ok.bound (search rules) ∙ d

pub returns-in-Err : goal.returns-in-Err
returns-in-Err c = let e = answered (goal.at.returns-in-Err c).After-sum_of_greatest-sum c.in-Err.is in
    let u : ◌≡◌ {A = ℕ} 0 1 = cc in
    absurd (omega arith)
