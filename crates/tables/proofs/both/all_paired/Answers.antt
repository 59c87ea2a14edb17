use Rattle.std.proofs.Common.{rules}
use borrow.Author.Tests.{tests}
use Rattle.tables.specs.Both.{paired_at}
use Rattle.tables.proofs.Chains.{all_below}
use Rattle.tables.proofs.both.all_paired.Goals as goal

pub returns : goal.returns
returns c = let a = c.args in
    all_below (paired_at a.low a.high a.starting.now a.table.now) a.own _ _ _ c.all.ensures.ran (cc) (λ x b q k. search (rules, tests))
