use mathlib.Core.Path.{◌≡◌, sym, ap, ◌∙◌}
use native.Mathlib.Omega.{arith}
use lib.IntN.{ℤ, pos, ◌-ℤ◌}
use lib.ListN.{get_or}
use mir.Syntax.{w64}
use mir.Val.{to_z, of_z}
use mir.Facts.{to_z-of_z}
use borrow.Author.Rules.{rules}
use Rattle.integers.specs.Linear.{read_back}
use Rattle.definitions.specs.Case.{barred_weight}
use Rattle.gaps.specs.Gaps.{less_gaps, higher_floor}
use Rattle.gaps.proofs.Lesser.{floor_gap, floor-next, gap-next, gap-fits, gaps-bounded, gaps-next, gaps-end}
use Rattle.gaps.proofs.gap_in.Goals as goal
use Rattle.gaps.proofs.gap_in.Goals.{After-loop-weight, Else-floor-barred}

pub loop-weight-preserved : goal.loop-weight-preserved
loop-weight-preserved c =
    let a = c.args in
    let p = a.part.now in
    let b = to_z w64 (of_z w64 a.best) in
    let l = to_z w64 (of_z w64 a.limit) in
    let f = to_z w64 c.loop-weight.floor-bits in
    let z = get_or p c.loop-weight.weight-index (pos 0) in
    let r = c.higher_floor-floor in
    let e : to_z w64 (of_z w64 r.result) ≡ higher_floor b z f = read_back w64 r.result r.type_inv ∙ r.ensures ∙ ap (λ (z : ℤ). higher_floor b z f) (read_back w64 z (search rules)) in (
      rw e (floor-next b l c.loop-weight.invariant.0 z),
      gaps-next b (floor_gap b l f) (floor_gap b l (to_z w64 (of_z w64 r.result))) p c.loop-weight.weight-index (omega arith)
          (ap (floor_gap b l) e ∙ gap-next b l c.loop-weight.invariant.0 z)
          ∙ c.loop-weight.invariant.1,
    )

-- the floor's gap at the end
least : (c : After-loop-weight) → floor_gap (to_z w64 (of_z w64 c.args.best)) (to_z w64 (of_z w64 c.args.limit)) (to_z w64 c.loop-weight.floor-bits)
    ≡ less_gaps c.args.best c.args.part.now c.args.limit
least c =
    let l = c.loop-weight in
    let b = to_z w64 (of_z w64 c.args.best) in
    sym (gaps-end b (floor_gap b (to_z w64 (of_z w64 c.args.limit)) (to_z w64 l.floor-bits)) c.args.part.now l.weight-index (omega arith)) ∙ l.invariant.1
    ∙ rw (to_z-of_z c.ranges.best, to_z-of_z c.ranges.limit)

barred-is : (c : After-loop-weight) → let r = c.barred-barred in to_z w64 (of_z w64 r.result) ≡ barred_weight
barred-is c = let r = c.barred-barred in read_back w64 r.result r.type_inv ∙ r.ensures

pub returns-then-floor-barred : goal.returns-then-floor-barred
returns-then-floor-barred c = rw (rw (barred-is (goal.at.returns-then-floor-barred c).After-loop-weight) at c.if-floor-barred.true) at (least (goal.at.returns-then-floor-barred c).After-loop-weight)

gap-left : (c : Else-floor-barred) → to_z w64 (of_z w64 c.args.best) -ℤ to_z w64 c.loop-weight.floor-bits ≡ less_gaps c.args.best c.args.part.now c.args.limit
gap-left c = rw (rw (barred-is (goal.at.Else-floor-barred c).After-loop-weight) at c.if-floor-barred.false) at (least (goal.at.Else-floor-barred c).After-loop-weight)

pub overflow_sub-result : goal.overflow_sub-result
overflow_sub-result c =
    rw (gap-left c) (gap-fits (gaps-bounded c.args.best c.args.part.now c.args.limit c.requires.1))

pub returns : goal.returns
returns c = to_z-of_z (overflow_sub-result c) ∙ gap-left c
