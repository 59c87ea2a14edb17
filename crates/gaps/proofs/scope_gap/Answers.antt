use mathlib.Core.Path.{ap, ap₂, ◌∙◌}
use mathlib.Core.List.{List}
use lib.IntN.{ℤ}
use mir.Syntax.{w64}
use mir.Facts.{to_z-of_z}
use Rattle.integers.specs.Linear.{read_back}
use Rattle.gaps.specs.Gaps.{less_gaps}
use Rattle.gaps.proofs.Ranges.{part-known}
use Rattle.gaps.proofs.scope_gap.Goals as goal

pub returns : goal.returns
returns c =
    let a = c.args in
    let p = c.scope_weights in
    read_back w64 c.gap_in.result c.gap_in.type_inv ∙ c.gap_in.ensures
    ∙ ap₂ (λ (b l : ℤ). less_gaps b p.result.now l) (to_z-of_z c.ranges.best) (to_z-of_z c.ranges.least)
    ∙ ap (λ (l : List ℤ). less_gaps a.best l a.least)
    (p.ensures ∙ part-known a.case a.table.now a.x c.requires.limited.0 c.requires.limited.1 c.requires.limited.2)
