use Rattle.std.proofs.Common.{rules}
use borrow.Author.Tests.{tests}
use lib.Dec.{eqb}
use Rattle.tables.proofs.Chains.{any_over}
use Rattle.moves.proofs.holds.Goals as goal

pub returns : goal.returns
returns c = let a = c.args in
    any_over (λ y. eqb y a.x) a.scopes.now _ _ _ c.any.ensures.ran (cc) (λ x b q k. search (rules, tests))
