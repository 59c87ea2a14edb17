use Prim.Native.Nat.{◌*◌}
use lib.ListN.{get_or}
use Rattle.arcs.specs.Active.{row_where, has_best, Written}
use Rattle.arcs.proofs.Marked.{rows_of}
use Rattle.arcs.proofs.write_rows.Given as goal

abbrev pub invariant-loop-e : goal.invariant-loop-e
invariant-loop-e l = Written (λ q. get_or (rows_of (row_where l.case (has_best l.case l.table l.best)) l.case.m) q 0) 0 (16 * l.e) l.initial.rows
    l.rows
