use mathlib.Core.Path.{ap₂, ◌∙◌}
use lib.IntN.{ℤ}
use mir.Syntax.{w64}
use Rattle.integers.specs.Linear.{read_back}
use Rattle.definitions.specs.Refusals.{first_refusal}
use Rattle.definitions.specs.Rules.{rules_of}
use Rattle.definitions.specs.Answers.{outcome_of}
use Rattle.definitions.specs.Valid.{handed_over}
use Rattle.tables.specs.Scopes.{holdable}
use Rattle.tables.proofs.check_starting.Goals as goal

pub returns : goal.returns
returns c = let a = c.args in
    let low = c.least_starting in
    let high = c.most_starting in
    c.check.ensures
    ∙ ap₂ (λ (x y : ℤ). outcome_of (first_refusal (handed_over (rules_of a.case) (holdable x y) a.case a.table.now a.wrong a.out)))
    (read_back w64 low.result low.type_inv ∙ low.ensures)
    (read_back w64 high.result high.type_inv ∙ high.ensures)
