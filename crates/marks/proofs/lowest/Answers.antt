use Rattle.marks.proofs.Laws.{lowest-is}
use Rattle.marks.proofs.lowest.Goals as goal

pub returns : goal.returns
returns c = lowest-is c.args.set c.ranges.set.fits
