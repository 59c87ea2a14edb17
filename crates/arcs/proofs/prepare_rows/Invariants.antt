use Prim.Native.Nat.{◌*◌}
use lib.ListN.{get_or}
use Rattle.arcs.specs.Active.{Written}
use Rattle.arcs.specs.Best.{partners_best}
use Rattle.arcs.proofs.Marked.{rows_of}
use Rattle.arcs.proofs.prepare_rows.Given as goal

abbrev pub invariant-loop-e : goal.invariant-loop-e
invariant-loop-e l = Written (λ q. get_or (rows_of (partners_best l.case l.table l.best l.raised) l.case.m) q 0) 0 (16 * l.e)
    l.initial.rows l.rows
