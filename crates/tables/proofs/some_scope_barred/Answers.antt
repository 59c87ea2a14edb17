use Rattle.std.proofs.Common.{rules}
use borrow.Author.Tests.{tests}
use Prim.Native.Nat.{◌+◌}
use Rattle.definitions.specs.Case.{wholly_barred}
use Rattle.tables.proofs.Chains.{any_below}
use Rattle.tables.proofs.some_scope_barred.Goals as goal

pub returns : goal.returns
returns c = let a = c.args in
    any_below (wholly_barred a.case a.table.now) (a.case.n + a.case.m) _ _ _ c.any.ensures.ran (cc) (λ x b q k. search (rules, tests))
