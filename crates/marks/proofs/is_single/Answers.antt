use Rattle.marks.proofs.Laws.{single-is}
use Rattle.marks.proofs.is_single.Goals as goal

-- `marks::is_single` meets its contract: the count of ones is that of the values. Assumes nothing.
pub returns : goal.returns
returns c = single-is c.args.set c.ranges.set.fits
