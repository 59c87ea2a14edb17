use Rattle.std.specs.Prelude.{Ok, Option, None, ℕ}
use mathlib.Core.Path.{◌≡◌, sym, subst, ◌∙◌}
use mathlib.Core.Bool.{Bool}
use Rattle.definitions.specs.declared.Round.{Round}
use Rattle.definitions.specs.Rules.{rules_of}
use Rattle.definitions.specs.PairRounds.{lowest_pair}
use Rattle.engine.specs.Rounds.{MadeRound}
use Rattle.engine.proofs.Runs.{nothing-made}
use Rattle.engine.proofs.Pairs.{next-pairs}
use Rattle.engine.proofs.round_checked.Goals as goal
use Rattle.engine.proofs.round_checked.Goals.{After-prepare-found, In-None}

-- what was found
found-is : (c : After-prepare-found) {r : Option ℕ} → c.prepare-found.result ≡ r → let a = c.args in
    r ≡ lowest_pair (rules_of a.case) a.case a.table.now
found-is c e = sym e ∙ c.prepare-found.ensures.0

no-pair : (c : In-None) → let a = c.args in lowest_pair (rules_of a.case) a.case a.table.now ≡ None
no-pair c = sym (found-is (goal.at.In-None c).After-prepare-found c.in-None.is)

pub returns-then-pairs : goal.returns-then-pairs
returns-then-pairs c =
    let a = c.args in (
      subst (λ (b : Bool). MadeRound b a.case a.table.now a.out.now a.table.now a.out.now (Ok Round.Settled)) (sym c.if-pairs.true)
          (nothing-made c.requires.handed.0 c.requires.case_in_bounds (next-pairs a.case a.table.now (no-pair (goal.at.returns-then-pairs c).In-None))),
      c.requires.handed.1,
    )
