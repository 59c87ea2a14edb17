use Rattle.std.proofs.lemmas.Result.{err_from_is_err_and}
use Rattle.std.specs.Prelude.{Result}
use Rattle.definitions.specs.declared.Span.{Span}
use Rattle.definitions.specs.declared.RefusedAt.{RefusedAt}
use mathlib.Core.Path.{◌≡◌, refl, sym, ap, ◌∙◌}
use Prim.Native.Nat.{ℕ, ◌+◌, ◌*◌, ◌/◌}
use lib.ListN.{length, take, drop}
use Rattle.definitions.specs.Lines.{line_length}
use Rattle.definitions.specs.Views.{span_in}
use Rattle.lines.specs.AtWidth.{read_line_at}
use Rattle.views.specs.Steps.{resumed_step, resumed}
use Rattle.views.proofs.Spans.{passed-inside, on-inside, span_at, at-step}
use Rattle.views.proofs.span_in.Goals as goal
use Rattle.views.proofs.span_in.Goals.{After-step_at}

-- the line looked at
stepped : (c : After-step_at) → let a = c.args in
    let log = a.log.now in
    resumed (span_at a.width log (length log / line_length a.width) (c.loop-at.at + 1)) c.step_at.result ≡ span_in a.width log a.round
stepped c =
    let a = c.args in
    let log = a.log.now in
    let whole = length log / line_length a.width in
    ap (resumed (span_at a.width log whole (c.loop-at.at + 1))) c.step_at.ensures
    ∙ at-step a.width c.requires log whole c.loop-at.at c.loop-at.from c.loop-at.left c.loop-at-test.true ∙ c.loop-at.invariant.2

-- the answer from the next line on
abbrev rest : (c : After-step_at) → ℕ → ℕ → Result Span RefusedAt
rest c = let a = c.args in span_at a.width a.log.now (length a.log.now / line_length a.width) (c.loop-at.at + 1)

pub returns-in_err-step : goal.returns-in_err-step
returns-in_err-step c =
    let p = err_from_is_err_and c.from_residual.result c.from_residual.ensures.1 in
    rw (p.1, p.2) (ap (resumed (rest (goal.at.returns-in_err-step c).After-step_at)) (sym c.in_err-step.was)
    ∙ stepped (goal.at.returns-in_err-step c).After-step_at)

pub returns-in-Found : goal.returns-in-Found
returns-in-Found c =
    let k = (goal.at.returns-in-Found c).After-step_at in
    ap (resumed_step (rest k)) (sym c.in-Found.is) ∙ ap (resumed (rest k)) (sym c.in_ok-step.was) ∙ stepped k

pub loop-at-preserved : goal.loop-at-preserved
loop-at-preserved c =
    let a = c.args in
    let k = (goal.at.loop-at-preserved c).After-step_at in
    let e = c.in-On.is in (
      refl,
      on-inside a.width c.loop-at.at c.in-On.first c.in-On.fewer (sym c.step_at.ensures ∙ c.in_ok-step.was) e
          (passed-inside a.width c.loop-at.at c.loop-at.from c.loop-at.invariant.1
          (read_line_at a.width (take (line_length a.width) (drop (c.loop-at.at * line_length a.width) a.log.now))) c.loop-at.left),
      ap (resumed_step (rest k)) (sym e) ∙ ap (resumed (rest k)) (sym c.in_ok-step.was) ∙ stepped k,
    )
