use mathlib.Core.Path.{sym, ap, ◌∙◌}
use mathlib.Core.Bool.{Bool, ◌||◌}
use Rattle.std.proofs.Common.{rules}
use borrow.Author.Tests.{tests}
use Rattle.integers.specs.Words.{below, any}
use Rattle.tables.proofs.Chains.{any_below}
use Rattle.leaving.proofs.Growth.{barred-whole}
use Rattle.leaving.specs.Scopes.{edge_barred}
use Rattle.leaving.proofs.carry.some_barred.Goals as goal

pub returns : goal.returns
returns c = let a = c.args in
    any_below (edge_barred a.case a.starting.now a.variable) a.case.m _ _ _ c.any.ensures.ran (cc) (λ x b q k. search (rules, tests))
    ∙ ap (λ (b : Bool). b || any (edge_barred a.case a.starting.now a.variable) (below a.case.m)) (sym (sym c.scope_barred.ensures ∙ c.if-scope_barred.false))
    ∙ barred-whole a.case a.starting.now a.variable
