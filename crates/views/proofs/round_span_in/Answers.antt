use mathlib.Core.Path.{sym, ◌∙◌}
use Rattle.views.proofs.Spans.{span-out, span-within}
use Rattle.views.proofs.round_span_in.Goals as goal

pub returns-then-width_out : goal.returns-then-width_out
returns-then-width_out c =
    let a = c.args in
    span-out a.width a.log.now a.round (sym c.width_out.ensures ∙ c.if-width_out.true)

pub returns : goal.returns
returns c =
    let a = c.args in
    c.span_in.ensures ∙ span-within a.width a.log.now a.round (sym c.width_out.ensures ∙ c.if-width_out.false)
