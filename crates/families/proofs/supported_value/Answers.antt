use Rattle.std.proofs.lemmas.Result.{err_from_is_err_and}
use Rattle.std.specs.Prelude.{Ok}
use mathlib.Core.Path.{◌≡◌, sym, ◌∙◌}
use Rattle.definitions.specs.Answers.{outcome_of}
use Rattle.families.proofs.Shown.{asked, call-refused, call-given, call-checked}
use Rattle.families.proofs.supported_value.Goals as goal
use Rattle.families.proofs.supported_value.Goals.{In_ok-check_call}

done : (c : In_ok-check_call) → let a = c.args in
    Ok tt ≡ outcome_of (asked a.case a.table.now a.variable a.family.now a.partners.now)
done c = sym c.in_ok-check_call.was ∙ c.check_call.ensures

pub show_value-requires : goal.show_value-requires
show_value-requires c =
    let a = c.args in
    call-checked a.case a.table.now a.variable a.family.now a.partners.now (done (goal.at.show_value-requires c).In_ok-check_call)

pub returns-in_err-check_call : goal.returns-in_err-check_call
returns-in_err-check_call c =
    let a = c.args in
    let p = err_from_is_err_and c.from_residual.result c.from_residual.ensures.1 in
    rw (p.1, p.2) (call-refused a.case a.table.now a.variable a.family.now a.partners.now (sym c.in_err-check_call.was ∙ c.check_call.ensures))

pub returns : goal.returns
returns c =
    let a = c.args in
    call-given a.case a.table.now a.variable a.family.now a.partners.now (done (goal.at.returns c).In_ok-check_call) c.show_value.ensures
