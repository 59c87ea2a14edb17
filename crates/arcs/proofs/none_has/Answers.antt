use mathlib.Core.Path.{◌≡◌, sym, ◌∙◌}
use mathlib.Core.Bool.{true, false}
use native.Mathlib.Omega.{arith}
use lib.ListN.{length}
use Rattle.arcs.proofs.Steps.{well-same}
use Rattle.arcs.proofs.Trying.{copy-length}
use Rattle.arcs.proofs.Narrowed.{near-empty, near_none, near-filled, near_same, near-settled}
use Rattle.arcs.proofs.none_has.Goals as goal

pub returns-then-left-eq0 : goal.returns-then-left-eq0
returns-then-left-eq0 c =
    let a = c.args in
    near_none a.lower.now a.upper.now a.rows.now a.raised.now a.sets.now a.variable c.requires.filled.1 a.values
    (near-empty a.lower.now a.upper.now a.rows.now a.raised.now a.sets.now a.variable c.requires.filled.1 a.values
    (sym c.common-left.ensures ∙ c.if-left-eq0.true))

pub none_alone-requires-then-settle : goal.none_alone-requires-then-settle
none_alone-requires-then-settle c =
    let a = c.args in
    let left = c.settle.new.sets in
    let in_range = c.requires.filled.1 in
    let left_length : length left ≡ length a.sets.now =
    c.settle.auto.sets ∙ copy-length a.sets.now a.variable in_range _ _ c.copy_from_slice.ensures.after in
    record {
      well_formed = well-same _ _ _ _ a.sets.now left left_length c.requires.well_formed;
      filled = (
        near-filled a.lower.now a.upper.now a.rows.now a.raised.now a.sets.now a.variable in_range a.values left left_length
            (near-settled a.lower.now a.upper.now a.rows.now a.raised.now a.sets.now a.variable in_range a.values _ _
            c.common-left.ensures c.copy_from_slice.ensures.after left _ true c.if-settle.true c.settle.ensures),
        omega (arith, left_length, in_range),
        c.requires.filled.3 ∙ sym left_length,
      );
    }

pub returns-then-settle : goal.returns-then-settle
returns-then-settle c =
    let a = c.args in
    let left = c.settle.new.sets in
    let in_range = c.requires.filled.1 in
    let left_length : length left ≡ length a.sets.now =
    c.settle.auto.sets ∙ copy-length a.sets.now a.variable in_range _ _ c.copy_from_slice.ensures.after in
    c.none_alone-then-settle.ensures
    ∙ near_same a.lower.now a.upper.now a.rows.now a.raised.now a.sets.now a.variable in_range a.values left left_length
    (near-settled a.lower.now a.upper.now a.rows.now a.raised.now a.sets.now a.variable in_range a.values _ _
    c.common-left.ensures c.copy_from_slice.ensures.after left _ true c.if-settle.true c.settle.ensures) c.requires.well_formed.ends

pub returns : goal.returns
returns c =
    let a = c.args in
    let left = c.settle.new.sets in
    let in_range = c.requires.filled.1 in
    near_none a.lower.now a.upper.now a.rows.now a.raised.now a.sets.now a.variable in_range a.values
    (near-settled a.lower.now a.upper.now a.rows.now a.raised.now a.sets.now a.variable in_range a.values _ _
    c.common-left.ensures c.copy_from_slice.ensures.after left _ false c.if-settle.false c.settle.ensures)
