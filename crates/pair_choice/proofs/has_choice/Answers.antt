use mathlib.Core.Path.{sym, ap, ◌∙◌}
use Prim.Native.Nat.{ℕ, ◌+◌, ◌<◌}
use native.Mathlib.Omega.{arith}
use lib.ListN.{get_or}
use Rattle.marks.specs.Marks.{in_both}
use Rattle.marks.proofs.Laws.{lowest-small}
use Rattle.arcs.proofs.Search.{lowest-struck}
use Rattle.pair_choice.specs.PairChoice.{has_choice}
use Rattle.pair_choice.proofs.Choices.{no-partner, a-partner, no-choice, choice-less, a-choice}
use Rattle.pair_choice.proofs.has_choice.Goals as goal
use Rattle.pair_choice.proofs.has_choice.Goals.{After-strike-left, After-from}

-- the value that is looked at
value-small : (c : After-from) → c.from.result < 8
value-small c =
    let filled : 0 < c.loop-left.left = omega (arith, c.loop-left-test.true) in
    omega (arith, c.from.ensures, c.lowest-k.ensures, lowest-small c.loop-left.left c.loop-left.invariant.0 filled)

pub bounds-rows-at : goal.bounds-rows-at
bounds-rows-at c = omega (arith, value-small (goal.at.bounds-rows-at c).After-from)

pub returns-then-common-ne0 : goal.returns-then-common-ne0
returns-then-common-ne0 c =
    let a = c.args in
    a-choice a.rows.now a.at a.other c.loop-left.left c.from.result c.loop-left.invariant.0 c.loop-left-test.true
    (c.from.ensures ∙ c.lowest-k.ensures)
    (a-partner a.rows.now a.at a.other c.from.result c.common.result c.common.ensures c.if-common-ne0.true)
    ∙ c.loop-left.invariant.1

-- the value is struck
less : (c : After-strike-left) → let l = c.loop-left in
    (c.strike-left.result < 256) × (c.strike-left.result < l.left)
less c =
    lowest-struck c.loop-left.left c.lowest-k.result c.strike-left.result c.loop-left.invariant.0 c.loop-left-test.true
    c.lowest-k.ensures c.strike-left.ensures

pub loop-left-smaller : goal.loop-left-smaller
loop-left-smaller c = (less c).1

pub loop-left-preserved : goal.loop-left-preserved
loop-left-preserved c =
    let a = c.args in (
      (less c).0,
      ap (λ (s : ℕ). has_choice a.rows.now a.at s a.other) c.strike-left.ensures
          ∙ choice-less a.rows.now a.at a.other c.loop-left.left c.lowest-k.result
          (no-partner a.rows.now a.at a.other c.lowest-k.result c.common.result
          (c.common.ensures ∙ ap (λ (i : ℕ). in_both (get_or a.rows.now (a.at + i) 0) a.other) c.from.ensures) c.if-common-ne0.false)
          ∙ c.loop-left.invariant.1,
    )

pub returns : goal.returns
returns c =
    let a = c.args in
    no-choice a.rows.now a.at a.other
    ∙ ap (λ (s : ℕ). has_choice a.rows.now a.at s a.other) (sym c.loop-left-test.false) ∙ c.loop-left.invariant.1
