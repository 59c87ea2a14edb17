use Rattle.std.proofs.lemmas.Result.{err_from_is_err_and}
use mathlib.Core.Path.{◌≡◌, sym, ◌∙◌}
use mathlib.Core.Bool.{false}
use Prim.Native.Nat.{◌≤◌}
use native.Mathlib.Omega.{arith}
use lib.IntN.{pos}
use lib.ListN.{replicate}
use mir.Facts.{to_z-of_z}
use Rattle.integers.specs.Tests.{is_false}
use Rattle.definitions.specs.Rules.{rules_of, scope_places}
use Rattle.definitions.specs.Refusals.{first_refusal}
use Rattle.definitions.specs.Answers.{outcome_of}
use Rattle.definitions.specs.Case.{scope_count}
use Rattle.definitions.specs.Valid.{working_weight, handed_over}
use Rattle.calls.specs.Calls.{shift_out}
use Rattle.tables.proofs.Answered.{known, limits-known}
use Rattle.moves.proofs.ShiftLaws.{shift-refused, shift-given}
use Rattle.moves.proofs.shift.Goals as goal
use Rattle.moves.proofs.shift.Goals.{After-check_working}

-- what was checked, with the definition for the argument
asked : (c : After-check_working) → let a = c.args in
    c.check_working.result ≡ outcome_of (first_refusal
    (handed_over (rules_of a.case) (working_weight (rules_of a.case)) a.case a.table.now false
    (shift_out (rules_of a.case) a.case a.edge a.end a.value a.amount)))
asked c = rw (c.transfer_out-out.ensures, to_z-of_z c.ranges.amount) at c.check_working.ensures

pub returns-in_err-check_working : goal.returns-in_err-check_working
returns-in_err-check_working c =
    let a = c.args in
    let p = err_from_is_err_and c.from_residual.result c.from_residual.ensures.1 in
    rw (p.1, p.2) (shift-refused a.case a.table.now a.edge a.end a.value a.amount
    (sym c.in_err-check_working.was ∙ asked (goal.at.returns-in_err-check_working c).After-check_working))

pub returns : goal.returns
returns c =
    let a = c.args in
    let d = sym c.in_ok-check_working.was ∙ asked (goal.at.returns c).After-check_working in
    let (h, right, inside) = known a.case a.table.now false (shift_out (rules_of a.case) a.case a.edge a.end a.value a.amount) d in
    let few : scope_count a.case ≤ scope_places = omega (arith, limits-known h) in
    let r = rw (to_z-of_z c.ranges.amount) at c.transfer.ensures in
    shift-given a.case a.table.now a.edge a.end a.value a.amount d h (is_false _ inside) (replicate scope_places (pos 0)) few
    c.greatest_weights.ensures.1 r.0 r.1
