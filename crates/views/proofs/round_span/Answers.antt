use mathlib.Core.Path.{◌∙◌}
use Rattle.definitions.specs.declared.Rulebook.TheVariants.{Desk}
use Rattle.definitions.specs.Rules.{rules_in, coherent}
use Rattle.views.proofs.Spans.{span-at-rules}
use Rattle.views.proofs.round_span.Goals as goal

pub returns : goal.returns
returns c =
    let a = c.args in
    c.round_span_in.ensures ∙ span-at-rules (rules_in Desk) (coherent Desk) c.amount_width.ensures a.log.now a.round
