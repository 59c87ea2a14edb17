use Rattle.std.specs.Prelude.{Result, Ok}
use Rattle.definitions.specs.declared.Refusal.{Refusal}
use mathlib.Core.Path.{◌≡◌, sym, ◌∙◌}
use mathlib.Core.List.{List}
use lib.IntN.{ℤ}
use mir.Syntax.{w64}
use borrow.Author.Rules.{rules}
use Rattle.integers.specs.Linear.{read_back}
use Rattle.definitions.specs.Rules.{rules_of}
use Rattle.definitions.specs.Case.{upper_bound}
use Rattle.definitions.specs.Valid.{working_weight}
use Rattle.theory.proofs.Validity.{Handed}
use Rattle.tables.specs.Scopes.{BestOf}
use Rattle.tables.proofs.Best.{best-sum-known}
use Rattle.checker.proofs.kinds.bound_line.Goals as goal
use Rattle.checker.proofs.kinds.bound_line.Goals.{After-sum_of_best-sum}

-- the sum is the upper bound
summed : (c : After-sum_of_best-sum) {x : Result ℤ Refusal} (w : List ℤ) → c.sum_of_best-sum.result ≡ x → let a = c.args in
    Handed (rules_of a.case) (working_weight (rules_of a.case)) a.case w → BestOf a.case w a.best.now → x ≡ Ok (upper_bound a.case w)
summed c w e h k = sym e ∙ c.sum_of_best-sum.ensures ∙ best-sum-known h k

pub returns-in-Err : goal.returns-in-Err
returns-in-Err c = λ w raised h k. let e = summed (goal.at.returns-in-Err c).After-sum_of_best-sum w c.in-Err.is h k in cc

pub returns-in-Ok : goal.returns-in-Ok
returns-in-Ok c = λ w raised h k. let z = c.in-Ok.bound in
    let e = summed (goal.at.returns-in-Ok c).After-sum_of_best-sum w c.in-Ok.is h k in
    let d : z ≡ upper_bound c.args.case w = cc in
    c.stated_bound.ensures c.args.case w raised (read_back w64 z (search rules) ∙ d)
