use Rattle.families.proofs.Bytes.{edge-written}
use Rattle.families.proofs.write_edge.Goals as goal

pub returns : goal.returns
returns c =
    let a = c.args in
    edge-written a.case a.rows.now a.sets.now a.e _ _ _ c.write_end.ensures c.write_end-2.ensures
