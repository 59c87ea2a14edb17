use mathlib.Core.Path.{sym, ◌∙◌}
use native.Mathlib.Omega.{arith}
use Rattle.tables.proofs.Search.{found, not_found}
use Rattle.arcs.proofs.some_end_outside.Goals as goal

pub returns-then-end_outside : goal.returns-then-end_outside
returns-then-end_outside c = found _ c.args.edges c.loop-e.e (omega arith) (sym c.end_outside.ensures ∙ c.if-end_outside.true)

pub returns : goal.returns
returns c = not_found _ c.args.edges (λ f h. c.loop-e.invariant f (omega arith))
