use Rattle.std.proofs.Common.{rules}
use borrow.Author.Tests.{tests}
use Rattle.integers.specs.Words.{any, below}
use Rattle.definitions.specs.Valid.{same_ends}
use Rattle.tables.proofs.Chains.{any_below}
use Rattle.tables.proofs.some_repeated.Goals as goal

pub returns : goal.returns
returns c = let a = c.args in
    any_below (λ e. any (same_ends a.case e) (below e)) a.case.m _ _ _ c.any.ensures.ran (cc) (λ x b q k. search (rules, tests))
