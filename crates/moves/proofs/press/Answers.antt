use Rattle.std.proofs.lemmas.Result.{err_from_is_err_and}
use mathlib.Core.Path.{◌≡◌, sym, ◌∙◌}
use mathlib.Core.Bool.{false}
use mir.Facts.{to_z-of_z}
use Rattle.definitions.specs.Rules.{rules_of}
use Rattle.definitions.specs.Refusals.{first_refusal}
use Rattle.definitions.specs.Answers.{outcome_of}
use Rattle.definitions.specs.Valid.{working_weight, handed_over}
use Rattle.calls.specs.Calls.{press_out}
use Rattle.tables.proofs.Order.{limited}
use Rattle.tables.proofs.Answered.{known}
use Rattle.moves.proofs.PressLaws.{press-refused, press-next, press-in, outside-limits}
use Rattle.moves.proofs.press.Goals as goal
use Rattle.moves.proofs.press.Goals.{After-check_working}

pub returns-then-not-within_limits : goal.returns-then-not-within_limits
returns-then-not-within_limits c = let a = c.args in
    press-refused a.case a.table.now a.variable a.raised.now a.amount
    (outside-limits a.case a.table.now a.variable a.raised.now a.amount
    (sym c.within_limits.ensures ∙ c.if-not-within_limits.true))

pub press_out-out-requires : goal.press_out-out-requires
press_out-out-requires c = limited c.args.case (sym c.within_limits.ensures ∙ c.if-not-within_limits.false)

asked : (c : After-check_working) → let a = c.args in c.check_working.result ≡ outcome_of (first_refusal
    (handed_over (rules_of a.case) (working_weight (rules_of a.case)) a.case a.table.now false
    (press_out (rules_of a.case) a.case a.variable a.raised.now a.amount)))
asked c = rw (c.press_out-out.ensures, to_z-of_z c.ranges.amount) at c.check_working.ensures

pub press_checked-requires : goal.press_checked-requires
press_checked-requires c =
    let a = c.args in
    let k = known a.case a.table.now false (press_out (rules_of a.case) a.case a.variable a.raised.now a.amount)
    (sym c.in_ok-check_working.was ∙ asked (goal.at.press_checked-requires c).After-check_working) in
    let q = press-in a.case a.table.now a.variable a.raised.now a.amount k.2 in
    record { handed = k.0; variable_lt_n = q.0; t = rw (to_z-of_z c.ranges.amount) q.1 }

pub returns-in_err-check_working : goal.returns-in_err-check_working
returns-in_err-check_working c =
    let a = c.args in
    let p = err_from_is_err_and c.from_residual.result c.from_residual.ensures.1 in
    rw (p.1, p.2) (press-refused a.case a.table.now a.variable a.raised.now a.amount
    (sym c.in_err-check_working.was ∙ asked (goal.at.returns-in_err-check_working c).After-check_working))

pub returns : goal.returns
returns c =
    let a = c.args in
    let r = rw (to_z-of_z c.ranges.amount) at c.press_checked.ensures in
    let n = press-next a.case a.table.now a.variable a.raised.now a.amount (sym c.in_ok-check_working.was ∙ asked (goal.at.returns c).After-check_working) in
    (r.value ∙ n.0, r.table_after ∙ n.1)
