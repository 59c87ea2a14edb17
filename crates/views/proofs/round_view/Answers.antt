use Rattle.std.specs.Prelude.{Result}
use Rattle.definitions.specs.declared.RefusedAt.{RefusedAt}
use mathlib.Core.Path.{◌≡◌, sym, ◌∙◌}
use Prim.Native.Nat.{◌≤◌}
use lib.ListN.{length}
use Rattle.definitions.specs.declared.Span.{Span}
use Rattle.definitions.specs.declared.Rulebook.TheVariants.{Desk}
use Rattle.definitions.specs.Rules.{rules_in}
use Rattle.definitions.specs.Views.{round_span}
use Rattle.views.proofs.Spans.{part-inside}
use Rattle.views.proofs.round_view.Goals as goal
use Rattle.views.proofs.round_view.Goals.{After-round_span-span, In-Ok}

-- the span that was found is the round's
found : (c : After-round_span-span) {x : Result Span RefusedAt} → c.round_span-span.result ≡ x → let a =
    c.args in x ≡ round_span (rules_in Desk) a.log.now a.round
found c e = sym e ∙ c.round_span-span.ensures

within : (c : In-Ok) → (c.in-Ok.field-0.from ≤ c.in-Ok.field-0.to) × (c.in-Ok.field-0.to ≤ length c.args.log.now)
within c =
    let a = c.args in
    part-inside (rules_in Desk).amount_width a.log.now a.round (sym (found (goal.at.In-Ok c).After-round_span-span c.in-Ok.is))

pub slice_bounds-result-count : goal.slice_bounds-result-count
slice_bounds-result-count c = (within c).0

pub slice_bounds-result-start : goal.slice_bounds-result-start
slice_bounds-result-start c = (within c).0

pub slice_bounds-result-end : goal.slice_bounds-result-end
slice_bounds-result-end c = (within c).1
