use Rattle.std.proofs.Common.{rules}
use borrow.Author.Tests.{tests}
use mathlib.Core.Bool.{not}
use lib.Dec.{ltb}
use Rattle.definitions.specs.Case.{lower_end, upper_end}
use Rattle.tables.proofs.Chains.{any_below}
use Rattle.tables.proofs.some_not_ascending.Goals as goal

pub returns : goal.returns
returns c = let a = c.args in
    any_below (λ e. not (ltb (lower_end a.case e) (upper_end a.case e))) a.case.m _ _ _ c.any.ensures.ran (cc) (λ x b q k. search (rules, tests))
