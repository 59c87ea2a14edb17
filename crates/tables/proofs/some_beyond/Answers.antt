use Rattle.std.proofs.Common.{rules}
use borrow.Author.Tests.{tests}
use mathlib.Core.Bool.{not}
use lib.Dec.{ltb}
use Rattle.tables.proofs.Chains.{any_over}
use Rattle.tables.proofs.some_beyond.Goals as goal

pub returns : goal.returns
returns c = let a = c.args in
    any_over (λ k. not (ltb k a.d)) a.values.now _ _ _ c.any.ensures.ran (cc) (λ x b q k. search (rules, tests))
