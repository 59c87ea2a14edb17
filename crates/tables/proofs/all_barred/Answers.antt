use Rattle.std.proofs.Common.{rules}
use borrow.Author.Tests.{tests}
use Rattle.definitions.specs.Case.{is_barred}
use Rattle.tables.proofs.Chains.{all_over}
use Rattle.tables.proofs.all_barred.Goals as goal

pub returns : goal.returns
returns c = let a = c.args in
    all_over is_barred a.weights.now _ _ _ c.all.ensures.ran (cc) (λ x b q k. search (rules, tests))
