use Rattle.marks.proofs.Laws.{add_is, add_none}
use Rattle.marks.proofs.add.Goals as goal

-- `marks::add` meets its contract. Assumes nothing.
pub returns-then-value-ge8 : goal.returns-then-value-ge8
returns-then-value-ge8 c = add_none c.args.set c.args.value c.ranges.set.fits c.if-value-ge8.true

pub returns : goal.returns
returns c = add_is c.args.set c.args.value c.ranges.set.fits c.if-value-ge8.false
