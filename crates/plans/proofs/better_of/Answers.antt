use Rattle.std.proofs.lemmas.Result.{err_from_is_err_and}
use mathlib.Core.Path.{◌≡◌, sym, ap, ap₂, ◌∙◌}
use lib.Dec.{T}
use Rattle.std.specs.Prelude.{if◌then◌else◌, Ok}
use Rattle.definitions.specs.declared.Choice.{Choice}
use Rattle.definitions.specs.Rules.{rules_of}
use Rattle.definitions.specs.Answers.{outcome_of}
use Rattle.definitions.specs.Case.{is_assignment}
use Rattle.definitions.specs.Scoring.{ranks_below}
use Rattle.theory.proofs.Validity.{Valid}
use Rattle.plans.specs.Totals.{total_in}
use Rattle.plans.proofs.Scored.{scores_asked, total-given, both-known, choice-refused, choice-made}
use Rattle.plans.proofs.better_of.Goals as goal
use Rattle.plans.proofs.better_of.Goals.{After-check_starting, In_ok-check_starting}

-- what was checked, with the definitions for the arguments
checked : (c : After-check_starting) → let a = c.args in
    c.check_starting.result ≡ outcome_of (scores_asked a.case a.table.now a.first.now a.second.now)
checked c = rw (c.some_beyond.ensures, c.some_beyond-2.ensures) at c.check_starting.ensures

-- what is known where no number applies
passed : (c : In_ok-check_starting) → let a = c.args in
    Valid (rules_of a.case) a.case a.table.now × T (is_assignment a.case a.first.now) × T (is_assignment a.case a.second.now)
passed c =
    let a = c.args in
    both-known a.case a.table.now a.first.now a.second.now (sym c.in_ok-check_starting.was ∙ checked (goal.at.In_ok-check_starting c).After-check_starting)

pub returns-in_err-check_starting : goal.returns-in_err-check_starting
returns-in_err-check_starting c =
    let a = c.args in
    let p = err_from_is_err_and c.from_residual.result c.from_residual.ensures.1 in
    rw (p.1, p.2) (choice-refused a.case a.table.now a.first.now a.second.now
    (sym c.in_err-check_starting.was ∙ checked (goal.at.returns-in_err-check_starting c).After-check_starting))

pub returns : goal.returns
returns c =
    let a = c.args in
    let (h, p, q) = passed (goal.at.returns c).In_ok-check_starting in
    ap Ok (c.ranked.ensures
    ∙ ap₂ (λ u v. if ranks_below u v then Choice.Second else Choice.First)
    (ap total_in c.objective.ensures ∙ total-given h a.first.now p)
    (ap total_in c.objective-2.ensures ∙ total-given h a.second.now q))
    ∙ choice-made a.case a.table.now a.first.now a.second.now (sym c.in_ok-check_starting.was ∙ checked (goal.at.returns c).After-check_starting)
