use Rattle.std.proofs.Common.{rules}
use borrow.Author.Tests.{tests}
use Prim.Native.Nat.{◌+◌}
use Rattle.definitions.specs.Rules.{rules_of}
use Rattle.bars.specs.Bars.{some_open}
use Rattle.tables.proofs.Chains.{any_below}
use Rattle.bars.proofs.rest_open.Goals as goal

pub returns : goal.returns
returns c = let a = c.args in
    any_below (some_open (rules_of a.case) a.case a.table.now a.best.now a.raised.now a.variable)
    (a.case.n + a.case.m) _ _ _ c.any.ensures.ran (cc) (λ x b q k. search (rules, tests))
