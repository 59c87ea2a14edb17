use native.Mathlib.Omega.{arith}
use Rattle.arcs.proofs.Steps.{settled-emptied, settled-still}
use Rattle.arcs.proofs.settle.Goals as goal
use Rattle.arcs.proofs.settle.Goals.{After-sweep-change}

pub returns-in-Still : goal.returns-in-Still
returns-in-Still c =
    let a = c.args in
    settled-still a.lower.now a.upper.now a.rows.now a.raised.now a.sets.now _ c.sweep-change.new.sets c.loop.invariant.0
    c.loop.invariant.1 _ c.sweep-change.ensures (λ j. omega (arith, c.type_inv.sets j)) c.in-Still.is

pub returns-in-Emptied : goal.returns-in-Emptied
returns-in-Emptied c =
    let a = c.args in
    settled-emptied a.lower.now a.upper.now a.rows.now a.raised.now a.sets.now _ c.sweep-change.new.sets c.loop.invariant.0
    c.loop.invariant.1 _ c.sweep-change.ensures c.in-Emptied.is
