use Rattle.marks.proofs.Laws.{full_is, full-most}
use Rattle.marks.proofs.full.Goals as goal

-- `marks::full` meets its contract. Assumes nothing.
pub returns-then-d-ge8 : goal.returns-then-d-ge8
returns-then-d-ge8 c = full-most c.args.d c.if-d-ge8.true

pub returns : goal.returns
returns c = full_is c.args.d c.if-d-ge8.false
