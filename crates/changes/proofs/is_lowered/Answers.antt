use mathlib.Core.Path.{sym}
use Rattle.marks.proofs.Laws.{mark-high}
use Rattle.changes.proofs.is_lowered.Goals as goal

pub returns-then-value-ge8 : goal.returns-then-value-ge8
returns-then-value-ge8 c = sym (mark-high c.args.values c.args.value c.ranges.values.fits c.if-value-ge8.true)
