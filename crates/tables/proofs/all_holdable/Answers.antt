use Rattle.std.proofs.Common.{rules}
use borrow.Author.Tests.{tests}
use Rattle.tables.specs.Scopes.{holdable}
use Rattle.tables.proofs.Chains.{all_over}
use Rattle.tables.proofs.all_holdable.Goals as goal

pub returns : goal.returns
returns c = let a = c.args in
    all_over (holdable a.low a.high) a.weights.now _ _ _ c.all.ensures.ran (cc) (λ x b q k. search (rules, tests))
