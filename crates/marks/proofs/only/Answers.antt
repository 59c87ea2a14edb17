use Rattle.marks.proofs.Laws.{only-is, only_none}
use Rattle.marks.proofs.only.Goals as goal

-- `marks::only` meets its contract. Assumes nothing.
pub returns-then-value-ge8 : goal.returns-then-value-ge8
returns-then-value-ge8 c = only_none c.args.value c.if-value-ge8.true

pub returns : goal.returns
returns c = only-is c.args.value c.if-value-ge8.false
