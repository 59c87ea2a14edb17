use Rattle.std.proofs.Common.{rules}
use borrow.Author.Tests.{tests}
use mathlib.Core.Bool.{not}
use lib.Dec.{ltb}
use lib.ListN.{get_or}
use Rattle.tables.proofs.Chains.{any_below}
use Rattle.joining.proofs.waiting.end_beyond.Goals as goal

pub returns : goal.returns
returns c = let a = c.args in
    any_below (λ k. not (ltb (get_or a.lower.now k 0) a.n)) a.count _ _ _ c.any.ensures.ran (cc) (λ x b q k. search (rules, tests))
