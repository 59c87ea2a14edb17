use Rattle.std.proofs.lemmas.Result.{err_from_is_err_and}
use mathlib.Core.Path.{◌≡◌, sym, ◌∙◌}
use mathlib.Core.Bool.{false}
use Rattle.definitions.specs.Rules.{rules_of}
use Rattle.definitions.specs.Case.{active}
use Rattle.definitions.specs.Refusals.{first_refusal}
use Rattle.definitions.specs.Answers.{outcome_of}
use Rattle.definitions.specs.Valid.{working_weight, handed_over}
use Rattle.calls.specs.Calls.{is_active_answer, tuple_out}
use Rattle.tables.proofs.Answered.{answer-refused, answer-given, known}
use Rattle.figures.proofs.Tuples.{tuple-known}
use Rattle.figures.proofs.is_active.Goals as goal
use Rattle.figures.proofs.is_active.Goals.{After-check_working}

-- what was checked, with the definition for the argument
asked : (c : After-check_working) → let a = c.args in
    c.check_working.result ≡ outcome_of (first_refusal (handed_over (rules_of a.case) (working_weight (rules_of a.case)) a.case a.table.now false
    (tuple_out a.case a.scope a.k a.l)))
asked c = rw c.tuple_out.ensures at c.check_working.ensures

pub has_greatest-requires : goal.has_greatest-requires
has_greatest-requires c = let a = c.args in
    let k = known a.case a.table.now false (tuple_out a.case a.scope a.k a.l) (sym c.in_ok-check_working.was ∙ asked (goal.at.has_greatest-requires c).After-check_working) in
    record { handed = k.0; x_bound = tuple-known k.0 a.scope a.k a.l k.2 }

pub returns-in_err-check_working : goal.returns-in_err-check_working
unfolding is_active_answer
returns-in_err-check_working c =
    let a = c.args in
    let p = err_from_is_err_and c.from_residual.result c.from_residual.ensures.1 in
    rw (p.1, p.2) (answer-refused a.case a.table.now false (tuple_out a.case a.scope a.k a.l) (active a.case a.table.now a.scope a.k a.l)
    (sym c.in_err-check_working.was ∙ asked (goal.at.returns-in_err-check_working c).After-check_working))

pub returns : goal.returns
unfolding is_active_answer
returns c = let a = c.args in
    c.has_greatest.ensures
    ∙ answer-given a.case a.table.now false (tuple_out a.case a.scope a.k a.l) (active a.case a.table.now a.scope a.k a.l)
    (sym c.in_ok-check_working.was ∙ asked (goal.at.returns c).After-check_working)
