use Rattle.std.specs.Prelude.{Result, Ok, ℤ}
use Rattle.definitions.specs.declared.Refusal.{Refusal}
use mathlib.Core.Path.{◌≡◌, sym, ap, ◌∙◌}
use mir.Syntax.{w64}
use Rattle.integers.specs.Linear.{read_back}
use Rattle.definitions.specs.Case.{upper_bound}
use Rattle.tables.proofs.Best.{best-sum-known}
use Rattle.engine.proofs.Runs.{run_with}
use borrow.Author.Rules.{rules}
use Rattle.engine.proofs.stop_run.Goals as goal
use Rattle.engine.proofs.stop_run.Goals.{After-sum_of_best-sum}

-- the sum is the upper bound
summed : (c : After-sum_of_best-sum) {x : Result ℤ Refusal} → c.sum_of_best-sum.result ≡ x → let a = c.args in x ≡ Ok
    (upper_bound a.case a.table.now)
summed c e = sym e ∙ c.sum_of_best-sum.ensures ∙ best-sum-known c.requires.0 c.requires.1

pub returns-in-Err : goal.returns-in-Err
returns-in-Err c = let e = summed (goal.at.returns-in-Err c).After-sum_of_best-sum c.in-Err.is in cc

pub returns-in-Ok : goal.returns-in-Ok
returns-in-Ok c =
    let a = c.args in
    let z = c.in-Ok.bound in
    let e = summed (goal.at.returns-in-Ok c).After-sum_of_best-sum c.in-Ok.is in
    let d : z ≡ upper_bound a.case a.table.now = cc in
    ap (run_with a.answer a.rounds) (read_back w64 z (search rules) ∙ d)
