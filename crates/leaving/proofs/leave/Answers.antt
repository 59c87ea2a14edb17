use mathlib.Core.Path.{◌≡◌, sym, ap, ◌∙◌}
use mathlib.Core.Bool.{Bool, not}
use lib.Dec.{ltb}
use Rattle.definitions.specs.Rules.{rules_of}
use Rattle.definitions.specs.Refusals.{first_refusal}
use Rattle.definitions.specs.Answers.{outcome_of}
use Rattle.definitions.specs.Valid.{both_handed_over}
use Rattle.leaving.proofs.Call.{at_least, leave-alone, leave-refused, leave-done, leave-known}
use Rattle.leaving.proofs.leave.Goals as goal
use Rattle.leaving.proofs.leave.Goals.{After-check_both-answer}

-- By what was asked, and what the call leaves where nothing applies. Assumes nothing.
pub returns-then-case-le1 : goal.returns-then-case-le1
returns-then-case-le1 c = let a = c.args in leave-alone a.case a.starting.now a.table.now a.variable c.if-case-le1.true

-- what was asked
checked : (c : After-check_both-answer) → let a = c.args in
    c.check_both-answer.result ≡ outcome_of (first_refusal (both_handed_over (rules_of a.case) a.case a.starting.now a.table.now (not (ltb a.variable a.case.n))))
checked c =
    let a = c.args in
    c.check_both-answer.ensures
    ∙ ap (λ (b : Bool). outcome_of (first_refusal (both_handed_over (rules_of a.case) a.case a.starting.now a.table.now b)))
    (at_least a.variable a.case.n)

pub leave_checked-requires : goal.leave_checked-requires
leave_checked-requires c = let a = c.args in
    let h = leave-known a.case a.starting.now a.table.now a.variable c.if-case-le1.false
    (sym c.in-Ok.is ∙ checked (goal.at.leave_checked-requires c).After-check_both-answer) in
    record { both_handed = h.0; variable_lt_n = (h.1, c.if-case-le1.false) }

pub returns-in-Err : goal.returns-in-Err
returns-in-Err c = let a = c.args in
    leave-refused a.case a.starting.now a.table.now a.variable c.if-case-le1.false (sym c.in-Err.is ∙ checked (goal.at.returns-in-Err c).After-check_both-answer)

pub returns-in-Ok : goal.returns-in-Ok
returns-in-Ok c = let a = c.args in
    let e = c.leave_checked.ensures in
    leave-done a.case a.starting.now a.table.now a.variable c.if-case-le1.false (sym c.in-Ok.is ∙ checked (goal.at.returns-in-Ok c).After-check_both-answer) _ _ _ e.0 e.1 e.2
