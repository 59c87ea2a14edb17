use Rattle.std.proofs.Common.{rules}
use borrow.Author.Tests.{tests}
use lib.IntN.{pos}
use lib.ListN.{get_or}
use Rattle.joining.specs.Steps.{same_bar}
use Rattle.tables.proofs.Chains.{all_below}
use Rattle.joining.proofs.waiting.same_bars.Goals as goal

pub returns : goal.returns
returns c = let a = c.args in
    all_below (λ k. same_bar (get_or a.starting.now k (pos 0)) (get_or a.table.now k (pos 0))) a.own _ _ _ c.all.ensures.ran (cc) (λ x b q k. search (rules, tests))
