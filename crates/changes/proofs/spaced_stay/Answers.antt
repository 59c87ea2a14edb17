use Rattle.std.proofs.Common.{rules}
use borrow.Author.Tests.{tests}
use Prim.Native.Nat.{◌+◌, ◌*◌}
use Rattle.definitions.specs.Rules.{rules_in}
use Rattle.changes.specs.Spaced.{stays_with, weight_at}
use Rattle.tables.proofs.Chains.{all_below}
use Rattle.changes.proofs.spaced_stay.Goals as goal

pub returns : goal.returns
returns c = let a = c.args in
    all_below (λ j. stays_with (rules_in a.rulebook) (weight_at a.table.now (a.start + j * a.step)) a.by)
    a.count _ _ _ c.all.ensures.ran (cc) (λ x b q k. search (rules, tests))
