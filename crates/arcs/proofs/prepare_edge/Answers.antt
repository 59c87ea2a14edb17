use mathlib.Core.Path.{ap, ◌∙◌}
use Prim.Native.Nat.{◌+◌}
use lib.IntN.{ℤ, pos}
use lib.ListN.{get_or}
use mir.Syntax.{w64}
use Rattle.integers.specs.Linear.{read_back}
use Rattle.arcs.specs.Active.{row_where, has_weight}
use Rattle.arcs.proofs.Marked.{written_as}
use Rattle.arcs.proofs.Best.{row-raised}
use borrow.Author.Rules.{rules}
use Rattle.arcs.proofs.prepare_edge.Goals as goal

pub returns-then-raised-x-ne0 : goal.returns-then-raised-x-ne0
returns-then-raised-x-ne0 c =
    let a = c.args in
    written_as _ _ _ _ _ _
    (λ p h. ap (λ (b : ℤ). row_where a.case (has_weight a.case a.table.now b) a.e p)
    (read_back w64 (get_or a.best.now (a.case.n + a.e) (pos 0)) (search rules))
    ∙ row-raised a.case a.table.now a.best.now a.raised.now a.e p c.if-raised-x-ne0.true)
    c.write_edge.ensures
