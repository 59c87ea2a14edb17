use mathlib.Core.Path.{ap, ◌∙◌}
use lib.IntN.{ℤ}
use mir.Syntax.{w64}
use Rattle.integers.specs.Linear.{read_back}
use Rattle.arcs.specs.Active.{row_where, has_weight}
use Rattle.arcs.proofs.Marked.{written_as}
use Rattle.arcs.proofs.Scopes.{crossed-row}
use Rattle.arcs.proofs.write_edge.Goals as goal

pub returns : goal.returns
returns c =
    let a = c.args in
    written_as _ _ _ _ _ _
    (λ p h. crossed-row _ _ c.requires.sized _ c.requires.e_lt_m.0 _ _ c.edge_bytes-bytes.ensures p h
    ∙ ap (λ (b : ℤ). row_where a.case (has_weight a.case a.table.now b) a.e p) (read_back w64 a.best c.ranges.best.sfits))
    c.put_bytes.ensures
