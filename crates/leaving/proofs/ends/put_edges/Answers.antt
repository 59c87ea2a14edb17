use mathlib.Core.Path.{ap, ap₂, ◌∙◌}
use mathlib.Core.List.{List}
use Prim.Native.Nat.{ℕ, ◌+◌, ◌<◌}
use native.Mathlib.Omega.{arith}
use lib.ListN.{length, set}
use Rattle.std.specs.Prelude.{if◌then◌else◌}
use Rattle.definitions.specs.Rules.{edge_places}
use Rattle.logs.specs.Leave.{has_end, moved_down}
use Rattle.definitions.specs.Case.{lower_end, upper_end}
use Rattle.leaving.specs.Scopes.{staying_to}
use Rattle.leaving.proofs.Edges.{few-stay, count_next, ends_next}
use Rattle.leaving.proofs.ends.put_edges.Goals as goal

pub put_edge-q-requires : goal.put_edge-q-requires
put_edge-q-requires c = let a = c.args in
    let l = c.requires.limited.edges_placed in
    (omega arith, omega (arith, few-stay a.case a.variable c.loop-e.e))

pub loop-e-preserved : goal.loop-e-preserved
loop-e-preserved c = let a = c.args in
    let l = c.loop-e in
    let p = c.requires.limited.edges_placed in
    let few : length (staying_to a.case a.variable l.e) < edge_places = omega (arith, few-stay a.case a.variable l.e) in (
      c.put_edge-q.ensures.0 ∙ ap (λ (q : ℕ). if has_end a.case a.variable l.e then q else q + 1) l.invariant.0
          ∙ count_next a.case a.variable l.e,
      c.put_edge-q.ensures.1 ∙ ap₂ (λ (t : List ℕ) (q : ℕ).
          if has_end a.case a.variable l.e then t else set t q (moved_down a.variable (lower_end a.case l.e))) l.invariant.1 l.invariant.0
          ∙ ends_next a.case a.variable l.e (lower_end a.case) few,
      c.put_edge-q.ensures.2 ∙ ap₂ (λ (t : List ℕ) (q : ℕ).
          if has_end a.case a.variable l.e then t else set t q (moved_down a.variable (upper_end a.case l.e))) l.invariant.2 l.invariant.0
          ∙ ends_next a.case a.variable l.e (upper_end a.case) few,
    )
