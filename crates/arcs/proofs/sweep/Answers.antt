use Rattle.arcs.proofs.Steps.{swept-more}
use Rattle.arcs.proofs.sweep.Goals as goal
use Rattle.arcs.proofs.sweep.Goals.{After-revise_edge-next}

pub loop-e-preserved : goal.loop-e-preserved
loop-e-preserved c =
    let a = c.args in
    let l = c.loop-e in
    swept-more a.lower.now a.upper.now a.rows.now a.raised.now a.sets.now l.sets _ _ _ c.both-change.result _ l.invariant
    c.revise_edge-next.ensures c.both-change.ensures
