use Rattle.std.specs.Prelude.{Ok}
use mathlib.Core.Path.{◌≡◌, sym, ap, ◌∙◌}
use mathlib.Core.Bool.{Bool}
use borrow.Author.Rules.{rules}
use Rattle.definitions.specs.Rules.{rules_of}
use Rattle.definitions.specs.Answers.{outcome_of}
use Rattle.arcs.specs.Active.{length_refusal}
use Rattle.arcs.specs.Best.{too_few}
use Rattle.arcs.proofs.Prepared.{lengths-known}
use Rattle.arcs.proofs.check_arguments.Goals as goal
use Rattle.arcs.proofs.check_arguments.Goals.{After-check_lengths, In_ok-check_lengths, then-too_few, else-too_few}

-- what was asked of the lengths
lengths : (c : After-check_lengths) → let a = c.args in
    c.check_lengths.result ≡ outcome_of (length_refusal (rules_of a.case) a.case a.table.now (too_few a.case a.best.now a.raised.now))
lengths c =
    let a = c.args in
    let wrong : c.if-too_few.wrong ≡ too_few a.case a.best.now a.raised.now =
    elim c.if-too_few.branch [ then-too_few w ↦ search rules | else-too_few w ↦ search rules ] in
    c.check_lengths.ensures
    ∙ ap (λ (b : Bool). outcome_of (length_refusal (rules_of a.case) a.case a.table.now b))
    wrong

done : (c : In_ok-check_lengths) → let a = c.args in
    Ok tt ≡ outcome_of (length_refusal (rules_of a.case) a.case a.table.now (too_few a.case a.best.now a.raised.now))
done c = sym c.in_ok-check_lengths.was ∙ lengths (goal.at.In_ok-check_lengths c).After-check_lengths

pub argument_outside-requires : goal.argument_outside-requires
argument_outside-requires c =
    let a = c.args in
    (lengths-known a.case a.table.now (too_few a.case a.best.now a.raised.now) (done c)).0.limits
