use mathlib.Core.Path.{sym, ◌∙◌}
use Rattle.integers.specs.Tests.{tests}
use Rattle.tables.specs.Scopes.{scope_weights}
use Rattle.tables.proofs.Order.{limited-by}
use Rattle.tables.proofs.scope_weights.Goals as goal

pub scope_part-requires : goal.scope_part-requires
scope_part-requires c = let (((((p, q), (s, t)), (u, v)), e), x) = simp tests at (sym c.has_scope.ensures ∙ c.if-has_scope.true) in
    record { limited = limited-by c.args.case p q s t v; table_len = e; x_bound = x }

pub returns-then-has_scope : goal.returns-then-has_scope
unfolding scope_weights
returns-then-has_scope c = rw (sym c.has_scope.ensures ∙ c.if-has_scope.true) c.scope_part.ensures

pub returns-else-has_scope : goal.returns-else-has_scope
unfolding scope_weights
returns-else-has_scope c = rw (sym c.has_scope.ensures ∙ c.if-has_scope.false)
