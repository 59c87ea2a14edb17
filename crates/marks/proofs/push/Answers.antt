use mathlib.Core.Path.{◌∙◌, sym, ap}
use Rattle.marks.specs.Marks.{pushed}
use Rattle.marks.proofs.Laws.{push-low, push-only}
use Rattle.marks.proofs.push.Goals as goal

-- `marks::push` meets its contract. Assumes nothing.
pub returns-then-low : goal.returns-then-low
returns-then-low c = push-low c.args.set c.ranges.set.fits ∙ ap (pushed c.args.set) (sym c.if-low.true)

pub returns : goal.returns
returns c = push-only c.args.set c.ranges.set.fits ∙ ap (pushed c.args.set) (sym c.if-low.false)
