use mathlib.Core.Path.{sym, ◌∙◌}
use native.Mathlib.Omega.{arith}
use lib.ListN.{length-set}
use Rattle.arcs.proofs.Search.{lowest-struck}
use Rattle.arcs.proofs.Crossing.{adding-small, adding-next, adding-end}
use Rattle.arcs.proofs.add_below.Goals as goal

pub bounds-bytes-at : goal.bounds-bytes-at
bounds-bytes-at c = omega (arith, adding-small _ _ _ _ _ c.loop-left.invariant.0 _ c.loop-left-test.true c.lowest-l.ensures)

pub bounds-bytes-at-in-loop-left : goal.bounds-bytes-at-in-loop-left
bounds-bytes-at-in-loop-left c = omega (
  arith,
  adding-small _ _ _ _ _ c.loop-left.invariant.0 _ c.loop-left-test.true
      c.lowest-l.ensures,
)

pub loop-left-smaller : goal.loop-left-smaller
loop-left-smaller c = (lowest-struck _ _ _ c.loop-left.invariant.0.small c.loop-left-test.true
    c.lowest-l.ensures c.strike-left.ensures).1

pub loop-left-preserved : goal.loop-left-preserved
loop-left-preserved c =
    let l = c.loop-left in
    let small = adding-small _ _ _ _ _ l.invariant.0 _ c.loop-left-test.true c.lowest-l.ensures in (
      adding-next _ _ _ _ _ l.invariant.0 _ c.loop-left-test.true c.lowest-l.ensures _ _
          c.add.ensures c.strike-left.ensures (omega (arith, small, l.invariant.1)),
      length-set l.bytes _ _ ∙ l.invariant.1,
    )

pub returns : goal.returns
returns c = adding-end _ _ _ _ _ c.loop-left.invariant.0 c.loop-left-test.false (c.loop-left.invariant.1 ∙ sym c.requires)
