use Rattle.std.proofs.Common.{rules}
use borrow.Author.Tests.{tests}
use Rattle.bars.specs.Bars.{is_open}
use Rattle.tables.proofs.Chains.{any_over}
use Rattle.bars.proofs.some_open.Goals as goal

pub returns : goal.returns
returns c = let a = c.args in
    any_over (is_open a.best) a.weights.now _ _ _ c.any.ensures.ran (cc) (λ x b q k. search (rules, tests))
