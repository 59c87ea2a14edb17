use mathlib.Core.Path.{◌∙◌}
use native.Mathlib.Numerals.{add-one}
use native.Mathlib.Omega.{arith}
use lib.ListN.{length-set, drop_of_length-le}
use lib.Seq.{drop-cons}
use Rattle.moves.specs.Marks.{marked}
use Rattle.moves.proofs.mark_scopes.Goals as goal

pub loop-scope-preserved : goal.loop-scope-preserved
unfolding marked
loop-scope-preserved c = let a = c.args in (
  length-set c.loop-scope.marks c.from.result 1 ∙ c.loop-scope.invariant.0,
  rw (c.from.ensures, add-one) (rw (drop-cons a.raised.now c.loop-scope.scope-index 0 (omega arith)) at c.loop-scope.invariant.1),
)

pub returns : goal.returns
unfolding marked
returns c = let a = c.args in
    rw (drop_of_length-le a.raised.now {i = c.loop-scope.scope-index} (omega arith)) at c.loop-scope.invariant.1
