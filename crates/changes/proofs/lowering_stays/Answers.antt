use Rattle.std.proofs.Common.{rules}
use borrow.Author.Tests.{tests}
use Prim.Native.Nat.{◌+◌}
use lib.ListN.{get_or}
use Rattle.definitions.specs.Rules.{rules_of}
use Rattle.tables.specs.Scopes.{best_at}
use Rattle.changes.specs.Scopes.{scope_lets}
use Rattle.tables.proofs.Chains.{all_below}
use Rattle.changes.proofs.lowering_stays.Goals as goal

pub returns : goal.returns
returns c = let a = c.args in
    all_below (λ x. scope_lets (rules_of a.case) a.case a.table.now a.variable a.values a.amount x (get_or a.raised.now x 0) (best_at a.best.now x))
    (a.case.n + a.case.m) _ _ _ c.all.ensures.ran (cc) (λ x b q k. search (rules, tests))
