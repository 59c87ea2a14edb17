use Rattle.std.proofs.Common.{rules}
use borrow.Author.Tests.{tests}
use Rattle.definitions.specs.Case.{wholly_barred}
use Rattle.logs.specs.Waiting.{small_case, waiting_weights}
use Rattle.tables.proofs.Chains.{any_below}
use Rattle.joining.proofs.waiting.some_barred.Goals as goal

pub returns : goal.returns
returns c = let a = c.args in
    any_below (wholly_barred (small_case a.case a.edges) (waiting_weights a.case a.starting.now)) a.count _ _ _ c.any.ensures.ran (cc) (λ x b q k. search (rules, tests))
