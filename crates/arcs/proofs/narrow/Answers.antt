use mathlib.Core.Path.{sym, ◌∙◌}
use Rattle.arcs.proofs.Results.{some-empty}
use Rattle.arcs.proofs.narrow.Goals as goal

pub returns-then-has_empty : goal.returns-then-has_empty
returns-then-has_empty c =
    let a = c.args in
    some-empty a.sets.now (sym c.has_empty.ensures ∙ c.if-has_empty.true) a.lower.now a.upper.now a.rows.now a.raised.now
