use mathlib.Core.Path.{sym, ap₂, ◌∙◌}
use mathlib.Core.Bool.{◌&&◌, ◌||◌}
use lib.Dec.{eqb}
use lib.ListN.{get_or}
use Rattle.tables.proofs.Search.{any_next}
use Rattle.casefile.proofs.edges.joined_before.Goals as goal

pub loop-f-preserved : goal.loop-f-preserved
loop-f-preserved c =
    let a = c.args in
    ap₂ (λ a b. a || b) c.loop-f.invariant c.has_ends-found.ensures
    ∙ sym (any_next (λ f. eqb (get_or a.lower.now f 0) a.i && eqb (get_or a.upper.now f 0) a.j) c.loop-f.f)
