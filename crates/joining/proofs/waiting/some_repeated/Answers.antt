use Rattle.std.proofs.Common.{rules}
use borrow.Author.Tests.{tests}
use Rattle.joining.specs.Steps.{repeated_at}
use Rattle.tables.proofs.Chains.{any_below}
use Rattle.joining.proofs.waiting.some_repeated.Goals as goal

pub returns : goal.returns
returns c = let a = c.args in
    any_below (repeated_at a.lower.now) a.count _ _ _ c.any.ensures.ran (cc) (λ x b q k. search (rules, tests))
