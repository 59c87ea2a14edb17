use mathlib.Core.Path.{◌≡◌, sym, ap, ◌∙◌}
use Prim.Native.Nat.{ℕ, ◌<◌}
use Rattle.marks.specs.Marks.{mark, byte_of}
use Rattle.marks.proofs.Laws.{mark-byte_of}
use Rattle.arcs.specs.Partners.{lowest_in_both}
use Rattle.arcs.proofs.Search.{lowest-struck, lowest_step, lowest-at, lowest-none}
use Rattle.arcs.proofs.Places.{value-small}
use Rattle.families.specs.Closing.{is_family, leaves}
use Rattle.families.proofs.lowest_supported.Goals as goal
use Rattle.families.proofs.lowest_supported.Goals.{After-is_family, After-lowest-k, After-strike-untried}

small : (c : After-lowest-k) → c.lowest-k.result < 8
small c = value-small _ _ c.loop-untried.invariant.0 c.loop-untried-test.true c.lowest-k.ensures

-- whether it leaves a family
answer : (c : After-is_family) → let a = c.args in
    c.is_family.result ≡ mark (byte_of (leaves a.case a.rows.now a.sets a.variable)) c.lowest-k.result
answer c =
    let a = c.args in
    c.is_family.ensures ∙ ap is_family c.try_value-closing.ensures.0
    ∙ sym (mark-byte_of (leaves a.case a.rows.now a.sets a.variable) c.lowest-k.result (small (goal.at.After-is_family c).After-lowest-k))

pub returns-then-is_family : goal.returns-then-is_family
returns-then-is_family c = (
  sym (lowest-at _ _ _ _ c.loop-untried.invariant.0 c.loop-untried-test.true c.lowest-k.ensures
      (answer (goal.at.returns-then-is_family c).After-is_family) c.if-is_family.true ∙ c.loop-untried.invariant.1),
  c.try_value-closing.ensures.1,
)

struck : (c : After-strike-untried) → (c.strike-untried.result < 256) × (c.strike-untried.result < c.loop-untried.untried)
struck c =
    lowest-struck _ _ _ c.loop-untried.invariant.0 c.loop-untried-test.true c.lowest-k.ensures c.strike-untried.ensures

pub loop-untried-smaller : goal.loop-untried-smaller
loop-untried-smaller c = (struck c).1

pub loop-untried-preserved : goal.loop-untried-preserved
loop-untried-preserved c =
    ((struck c).0, lowest_step _ _ _ _ _ _ c.loop-untried.invariant.1 c.strike-untried.ensures (answer (goal.at.loop-untried-preserved c).After-is_family) c.if-is_family.false)

pub returns : goal.returns
returns c =
    let a = c.args in
    let other = byte_of (leaves a.case a.rows.now a.sets a.variable) in
    sym (sym (lowest-none other) ∙ ap (λ (s : ℕ). lowest_in_both s other) (sym c.loop-untried-test.false) ∙ c.loop-untried.invariant.1)
