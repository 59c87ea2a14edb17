use mathlib.Core.Path.{sym}
use Rattle.marks.specs.Marks.{mark}
use Rattle.marks.proofs.Laws.{mark-high}
use borrow.Author.Rules.{rules}
use Rattle.marks.proofs.has.Goals as goal

-- `marks::has` meets its contract: a value from 8 on is in no set. Assumes nothing.
pub returns-then-value-ge8 : goal.returns-then-value-ge8
returns-then-value-ge8 c = sym (mark-high c.args.set c.args.value c.ranges.set.fits c.if-value-ge8.true)

pub returns : goal.returns
unfolding mark
returns c = search rules
