use Rattle.marks.proofs.Laws.{and_is}
use Rattle.marks.proofs.common.Goals as goal

-- `marks::common` meets its contract: the marks of `&`. Assumes nothing.
pub returns : goal.returns
returns c = and_is c.args.a c.args.b c.ranges.a.fits c.ranges.b.fits
