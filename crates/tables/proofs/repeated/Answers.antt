use mathlib.Core.Path.{sym, ap₂, ◌∙◌}
use mathlib.Core.Bool.{◌||◌}
use Rattle.definitions.specs.Valid.{same_ends}
use Rattle.tables.specs.Edges.{with_edges}
use Rattle.tables.proofs.Search.{any_next}
use Rattle.tables.proofs.repeated.Goals as goal

pub loop-f-preserved : goal.loop-f-preserved
loop-f-preserved c =
    let a = c.args in
    ap₂ (λ a b. a || b) c.loop-f.invariant c.same_ends-found.ensures
    ∙ sym (any_next (same_ends (with_edges 0 a.lower.now a.upper.now) a.e) c.loop-f.f)
