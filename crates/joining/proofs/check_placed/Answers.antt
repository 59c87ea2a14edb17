use mathlib.Core.Path.{◌≡◌, sym, ap, ◌∙◌}
use Rattle.definitions.specs.Refusals.{first_refusal}
use Rattle.definitions.specs.Answers.{outcome_of}
use Rattle.case_lines.specs.declared.Awaited.{Awaited}
use Rattle.case_lines.specs.Dues.{due_awaited}
use Rattle.joining.specs.Steps.{rest_tests}
use Rattle.joining.proofs.check_placed.Goals as goal
use Rattle.joining.proofs.check_placed.Goals.{Start}

as-due : (s : Start) {x y : Awaited} → x ≡ y → let a = s.args in
    outcome_of (first_refusal (rest_tests a.case a.starting.now a.edges (due_awaited x) a.lower.now a.line))
    ≡ outcome_of (first_refusal (rest_tests a.case a.starting.now a.edges (due_awaited y) a.lower.now a.line))
as-due s e = let a = s.args in
    ap (λ (x : Awaited). outcome_of (first_refusal (rest_tests a.case a.starting.now a.edges (due_awaited x) a.lower.now a.line))) e

pub returns-in-VariableWeight : goal.returns-in-VariableWeight
returns-in-VariableWeight c = let a = c.args in
    c.check_value.ensures a.lower.now ∙ as-due (goal.at.returns-in-VariableWeight c).Start (sym c.in-VariableWeight.is)

pub returns-in-EdgeEnds : goal.returns-in-EdgeEnds
returns-in-EdgeEnds c = let a = c.args in
    c.check_ends.ensures a.starting.now ∙ as-due (goal.at.returns-in-EdgeEnds c).Start (sym c.in-EdgeEnds.is)

pub returns-in-EdgeWeight : goal.returns-in-EdgeWeight
returns-in-EdgeWeight c = let a = c.args in
    c.check_tuple.ensures a.lower.now ∙ as-due (goal.at.returns-in-EdgeWeight c).Start (sym c.in-EdgeWeight.is)
