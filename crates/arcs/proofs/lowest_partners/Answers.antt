use mathlib.Core.Path.{◌≡◌, sym, ap, ◌∙◌}
use Prim.Native.Nat.{ℕ}
use lib.ListN.{get_or, length-set}
use Rattle.arcs.specs.Partners.{lowest_in_both, byte_of_partner}
use Rattle.arcs.proofs.Search.{lowest-struck, lowest_step, lowest-at, lowest-none}
use Rattle.arcs.proofs.Places.{none_left, no_row, no_place, value_written}
use Rattle.arcs.proofs.lowest_partners.Goals as goal
use Rattle.arcs.proofs.lowest_partners.Goals.{then-rest-eq0, else-rest-eq0+then-has}

pub partners-smaller : goal.partners-smaller
partners-smaller c =
    (lowest-struck _ _ _ c.partners.invariant.0 c.if-rest-eq0.false c.lowest-l.ensures c.strike-rest.ensures).1

pub partners-preserved : goal.partners-preserved
partners-preserved c = (
  (lowest-struck _ _ _ c.partners.invariant.0 c.if-rest-eq0.false c.lowest-l.ensures c.strike-rest.ensures).0,
  lowest_step _ _ _ _ _ _ c.partners.invariant.1 c.strike-rest.ensures c.has.ensures c.if-has.false,
)

pub values-smaller : goal.values-smaller
values-smaller c = (lowest-struck _ _ _ c.values.invariant.0 c.values-test.true c.lowest-k.ensures c.strike-left.ensures).1

pub values-preserved : goal.values-preserved
values-preserved c =
    let v = c.values in
    let inv = c.partners.invariant in
    let answer : c.if-rest-eq0.found ≡ lowest_in_both (get_or c.args.rows.now c.lowest-k.result 0) c.args.other =
    elim c.if-rest-eq0.branch [
      | then-rest-eq0 w ↦ w.found-is ∙ sym (sym inv.1 ∙ ap (λ (x : ℕ). lowest_in_both x c.args.other) w.if-rest-eq0.true ∙ lowest-none _)
      | else-rest-eq0+then-has w ↦ w.found-is ∙ lowest-at _ _ _ _ inv.0 w.if-rest-eq0.false w.lowest-l.ensures w.has.ensures w.if-has.true ∙ inv.1
    ] in (
      (lowest-struck _ _ _ v.invariant.0 c.values-test.true c.lowest-k.ensures c.strike-left.ensures).0,
      length-set v.partners _ _ ∙ v.invariant.1,
      value_written _ _ _ _ _ v.invariant.0 c.values-test.true c.lowest-k.ensures _ _ c.strike-left.ensures c.if-rows-at.false
          c.if-partners-at.false (c.partner_byte.ensures ∙ ap byte_of_partner answer)
          ∙ v.invariant.2,
    )

pub returns-after-values : goal.returns-after-values
returns-after-values c = none_left _ _ _ _ c.values-test.false ∙ c.values.invariant.2

pub returns-then-rows-at : goal.returns-then-rows-at
returns-then-rows-at c =
    let v = c.values in
    no_row _ _ _ _ _ v.invariant.0 c.values-test.true c.lowest-k.ensures c.if-rows-at.true ∙ v.invariant.2

pub returns-then-partners-at : goal.returns-then-partners-at
returns-then-partners-at c =
    let v = c.values in
    no_place _ _ _ _ _ v.invariant.0 c.values-test.true c.lowest-k.ensures c.if-partners-at.true ∙ v.invariant.2
