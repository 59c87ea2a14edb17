use Rattle.std.specs.Prelude.{Result, Ok}
use Rattle.definitions.specs.declared.Refusal.{Refusal}
use mathlib.Core.Path.{◌≡◌, sym, ◌∙◌}
use mathlib.Core.List.{List}
use Prim.Native.Nat.{ℕ}
use native.Mathlib.Omega.{arith}
use lib.IntN.{ℤ}
use mir.Syntax.{w64}
use mir.Val.{to_z, of_z}
use Rattle.integers.specs.Linear.{read_back}
use Rattle.definitions.specs.Rules.{rules_of}
use Rattle.definitions.specs.Case.{upper_bound}
use Rattle.definitions.specs.Valid.{working_weight}
use Rattle.theory.proofs.Validity.{Handed}
use Rattle.tables.specs.Scopes.{BestOf}
use Rattle.tables.proofs.Best.{best-sum-known}
use Rattle.pair_rounds.proofs.Texts.{bound-fits}
use borrow.Author.Rules.{rules}
use Rattle.pair_rounds.proofs.put_bound.Goals as goal
use Rattle.pair_rounds.proofs.put_bound.Goals.{After-bound_line, After-sum_of_best}

-- the sum is the upper bound
summed : (c : After-sum_of_best) {f : Result ℤ Refusal} → c.sum_of_best.result ≡ f → let a = c.args in
    (v : List ℤ) → Handed (rules_of a.case) (working_weight (rules_of a.case)) a.case v → BestOf a.case v a.best.now
    → f ≡ Ok (upper_bound a.case v)
summed c e v h b = sym e ∙ c.sum_of_best.ensures ∙ best-sum-known h b

-- the bound, read back
bound : (c : After-bound_line) → let a = c.args in
    (v : List ℤ) → Handed (rules_of a.case) (working_weight (rules_of a.case)) a.case v → BestOf a.case v a.best.now
    → to_z w64 (of_z w64 c.in_ok-bound.bound) ≡ upper_bound a.case v
bound c v h b =
    let e = summed (goal.at.After-bound_line c).After-sum_of_best c.in_ok-bound.was v h b in
    let d : c.in_ok-bound.bound ≡ upper_bound c.args.case v = cc in
    read_back w64 c.in_ok-bound.bound (search rules) ∙ d

pub put_line-bytes-requires : goal.put_line-bytes-requires
put_line-bytes-requires c =
    let (v, h, b) = c.requires.held in
    (c.requires.case_in_bounds, rw (c.bound_line.ensures, bound c v h b) (bound-fits h))

pub returns-in_err-bound : goal.returns-in_err-bound
returns-in_err-bound c v h b =
    let e = summed (goal.at.returns-in_err-bound c).After-sum_of_best c.in_err-bound.was v h b in
    let z : ◌≡◌ {A = ℕ} 0 1 = cc in
    absurd (omega arith)

pub returns : goal.returns
returns c v h b =
    let e = bound (goal.at.returns c).After-bound_line v h b in
    record {
      answer = rw (e, c.put_line-bytes.ensures.0);
      put = rw (c.bound_line.ensures, e) at c.put_line-bytes.ensures.1;
    }
