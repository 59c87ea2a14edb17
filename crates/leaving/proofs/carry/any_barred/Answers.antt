use Rattle.std.proofs.Common.{rules}
use borrow.Author.Tests.{tests}
use Rattle.definitions.specs.Case.{is_barred}
use Rattle.tables.proofs.Chains.{any_over}
use Rattle.leaving.proofs.carry.any_barred.Goals as goal

pub returns : goal.returns
returns c = let a = c.args in
    any_over is_barred a.weights.now _ _ _ c.any.ensures.ran (cc) (λ x b q k. search (rules, tests))
