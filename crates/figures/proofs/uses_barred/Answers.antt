use Rattle.std.proofs.Common.{rules}
use borrow.Author.Tests.{tests}
use Prim.Native.Nat.{◌+◌}
use Rattle.definitions.specs.Case.{at_used, barred}
use Rattle.integers.specs.Linear.{read_back}
use Rattle.figures.proofs.Tuples.{used-barred}
use Rattle.tables.proofs.Chains.{any_below}
use Rattle.figures.proofs.uses_barred.Goals as goal

pub returns : goal.returns
returns c = let a = c.args in
    any_below (λ x. at_used a.case a.assignment.now x (barred a.case a.table.now x))
    (a.case.n + a.case.m) _ _ _ c.any.ensures.ran (cc) (λ x b q k. search (rules, tests, used-barred, read_back))
