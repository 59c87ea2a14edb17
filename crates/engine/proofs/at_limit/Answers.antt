use Rattle.std.specs.Prelude.{Ok, Option, None, ℕ}
use mathlib.Core.Path.{◌≡◌, sym, subst, ◌∙◌}
use mathlib.Core.Bool.{Bool}
use Rattle.definitions.specs.declared.RunAnswer.{RunAnswer}
use Rattle.definitions.specs.Rules.{rules_of}
use Rattle.definitions.specs.PairRounds.{lowest_pair}
use Rattle.engine.specs.Rounds.{LimitIs}
use Rattle.engine.proofs.Pairs.{next-pair, next-pairs}
use Rattle.engine.proofs.Runs.{limit-round, limit-settled}
use Rattle.engine.proofs.at_limit.Goals as goal
use Rattle.engine.proofs.at_limit.Goals.{After-prepare-found, In-None}

-- what was found
found-is : (c : After-prepare-found) {r : Option ℕ} → c.prepare-found.result ≡ r → let a = c.args in
    r ≡ lowest_pair (rules_of a.case) a.case a.table.now
found-is c e = sym e ∙ c.prepare-found.ensures.0

no-pair : (c : In-None) → let a = c.args in lowest_pair (rules_of a.case) a.case a.table.now ≡ None
no-pair c = sym (found-is (goal.at.In-None c).After-prepare-found c.in-None.is)

pub returns-then-pairs : goal.returns-then-pairs
returns-then-pairs c =
    let a = c.args in
    subst (λ (b : Bool). LimitIs b a.case a.table.now a.out.now a.out.now (Ok RunAnswer.Settled)) (sym c.if-pairs.true)
    (limit-settled c.requires.handed.0 c.requires.case_in_bounds (next-pairs a.case a.table.now (no-pair (goal.at.returns-then-pairs c).In-None)))

pub returns-in-Some : goal.returns-in-Some
returns-in-Some c =
    let a = c.args in
    limit-round c.requires.handed.0 c.requires.case_in_bounds (next-pair a.case a.table.now (sym (found-is (goal.at.returns-in-Some c).After-prepare-found c.in-Some.is)) a.pairs)
