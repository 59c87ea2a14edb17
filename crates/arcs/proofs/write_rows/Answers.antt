use mathlib.Core.Path.{◌≡◌, ap, subst}
use Prim.Native.Nat.{ℕ, ◌+◌, ◌*◌}
use native.Mathlib.Omega.{arith}
use lib.IntN.{ℤ, pos}
use lib.ListN.{get_or}
use mir.Syntax.{w64}
use Rattle.integers.specs.Linear.{read_back}
use Rattle.arcs.specs.Active.{row_where, has_weight, has_best, Written}
use Rattle.arcs.proofs.Marked.{written_as, rows_of, edge-written, rows_written}
use borrow.Author.Rules.{rules}
use Rattle.arcs.proofs.write_rows.Goals as goal

pub loop-e-preserved : goal.loop-e-preserved
loop-e-preserved c =
    let a = c.args in
    let l = c.loop-e in
    edge-written (row_where a.case (has_best a.case a.table.now a.best.now)) _ _ (omega arith) _ _ _ l.invariant
    (written_as _ _ _ _ _ _
    (λ p h.
    ap (λ (b : ℤ). row_where a.case (has_weight a.case a.table.now b) l.e p)
    (read_back w64 (get_or a.best.now (a.case.n + l.e) (pos 0)) (search rules)))
    c.write_edge.ensures)

pub returns : goal.returns
returns c =
    let a = c.args in
    let l = c.loop-e in
    let all : l.e ≡ a.case.m = omega arith in
    rows_written _ _ _ _ _ c.requires.case_in_bounds.1
    (subst (λ (m : ℕ). Written (λ q. get_or (rows_of (row_where a.case (has_best a.case a.table.now a.best.now)) a.case.m) q 0) 0 (16 * m)
    a.rows.now l.rows) all l.invariant)
