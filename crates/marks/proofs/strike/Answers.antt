use Rattle.marks.proofs.Laws.{strike-is, strike-none}
use Rattle.marks.proofs.strike.Goals as goal

-- `marks::strike` meets its contract. Assumes nothing.
pub returns-then-value-ge8 : goal.returns-then-value-ge8
returns-then-value-ge8 c = strike-none c.args.set c.args.value c.ranges.set.fits c.if-value-ge8.true

pub returns : goal.returns
returns c = strike-is c.args.set c.args.value c.ranges.set.fits c.if-value-ge8.false
