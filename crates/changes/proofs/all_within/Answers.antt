use Rattle.std.proofs.Common.{rules}
use borrow.Author.Tests.{tests}
use Rattle.integers.specs.Words.{within_z}
use Rattle.tables.proofs.Chains.{all_over}
use Rattle.changes.proofs.all_within.Goals as goal

pub returns : goal.returns
returns c = let a = c.args in
    all_over (within_z a.low a.high) a.part.now _ _ _ c.all.ensures.ran (cc) (λ x b q k. search (rules, tests))
