use Rattle.std.proofs.Common.{rules}
use borrow.Author.Tests.{tests}
use Rattle.definitions.specs.Valid.{end_outside}
use Rattle.tables.proofs.Chains.{any_below}
use Rattle.tables.proofs.some_end_outside.Goals as goal

pub returns : goal.returns
returns c = let a = c.args in
    any_below (end_outside a.case) a.case.m _ _ _ c.any.ensures.ran (cc) (λ x b q k. search (rules, tests))
