use mathlib.Core.Path.{◌≡◌, sym, ◌∙◌}
use mathlib.Core.Bool.{Bool, true, false, not, ◌||◌}
use Prim.Native.Nat.{◌≤◌}
use native.Mathlib.Omega.{arith}
use lib.Dec.{ltb, eqb}
use lib.ListN.{length}
use mir.Facts.{to_z-of_z}
use borrow.Author.Tests.{lt-ltb, le-ltb}
use Rattle.definitions.specs.Rules.{rules_of}
use Rattle.definitions.specs.Case.{scope_count, lent_length}
use Rattle.definitions.specs.Valid.{within_limits}
use Rattle.tables.proofs.Order.{limited}
use Rattle.marks.specs.Marks.{mark}
use Rattle.changes.specs.Kept.{Change, lowering_change, lowering_out, lower_and_raise_call}
use Rattle.changes.proofs.LoweringLaws.{lowering-in}
use Rattle.changes.proofs.KeptLaws.{kept-limits-refused, wrong-length, out_of_range, kept-lengths-right, or-left-three, or-three, call_next}
use Rattle.changes.proofs.lower_and_raise.Goals as goal
use Rattle.changes.proofs.lower_and_raise.Goals.{Else-lengths_wrong, Else-lowering_out, Else-not-within_limits, Else-raised-case, Start}

-- what is asked of the arguments
abbrev change : (z : Start) → Change
change z = let a = z.args in lowering_change a.case a.table.now a.best.now a.raised.now a.variable (mark a.values) a.amount

abbrev other : (z : Start) → Bool
other z = not (eqb (length z.args.table.now) (lent_length (rules_of z.args.case) z.args.case))

abbrev few : (z : Start) → Bool
few z = ltb (length z.args.best.now) (scope_count z.args.case)

abbrev few-marks : (z : Start) → Bool
few-marks z = ltb (length z.args.raised.now) (scope_count z.args.case)

abbrev out : (z : Start) → Bool
out z = lowering_out (rules_of z.args.case) z.args.case z.args.variable z.args.amount

pub returns-then-not-within_limits : goal.returns-then-not-within_limits
unfolding lower_and_raise_call
returns-then-not-within_limits c =
    let a = c.args in
    kept-limits-refused a.case a.table.now a.best.now (change (goal.at.returns-then-not-within_limits c).Start) (few (goal.at.returns-then-not-within_limits c).Start || few-marks (goal.at.returns-then-not-within_limits c).Start) (out (goal.at.returns-then-not-within_limits c).Start)
    (sym c.within_limits.ensures ∙ c.if-not-within_limits.true)

right : (c : Else-not-within_limits) → let a = c.args in within_limits (rules_of a.case) a.case.n a.case.d a.case.m ≡ true
right c = sym c.within_limits.ensures ∙ c.if-not-within_limits.false

pub lengths_wrong-requires : goal.lengths_wrong-requires
lengths_wrong-requires c = limited c.args.case (right c)

pub returns-then-lengths_wrong : goal.returns-then-lengths_wrong
unfolding lower_and_raise_call
returns-then-lengths_wrong c =
    let a = c.args in
    wrong-length a.case a.table.now a.best.now (change (goal.at.returns-then-lengths_wrong c).Start) (few (goal.at.returns-then-lengths_wrong c).Start || few-marks (goal.at.returns-then-lengths_wrong c).Start) (out (goal.at.returns-then-lengths_wrong c).Start) (right (goal.at.returns-then-lengths_wrong c).Else-not-within_limits)
    (or-left-three (other (goal.at.returns-then-lengths_wrong c).Start) (few (goal.at.returns-then-lengths_wrong c).Start) (few-marks (goal.at.returns-then-lengths_wrong c).Start) (sym c.lengths_wrong.ensures ∙ c.if-lengths_wrong.true))

lens : (c : Else-lengths_wrong) → (other (goal.at.Else-lengths_wrong c).Start || few (goal.at.Else-lengths_wrong c).Start) ≡ false
lens c = sym c.lengths_wrong.ensures ∙ c.if-lengths_wrong.false

pub returns-then-raised-case : goal.returns-then-raised-case
unfolding lower_and_raise_call
returns-then-raised-case c =
    let a = c.args in
    wrong-length a.case a.table.now a.best.now (change (goal.at.returns-then-raised-case c).Start) (few (goal.at.returns-then-raised-case c).Start || few-marks (goal.at.returns-then-raised-case c).Start) (out (goal.at.returns-then-raised-case c).Start) (right (goal.at.returns-then-raised-case c).Else-not-within_limits)
    (or-three (other (goal.at.returns-then-raised-case c).Start) (few (goal.at.returns-then-raised-case c).Start) (few-marks (goal.at.returns-then-raised-case c).Start) true (lens (goal.at.returns-then-raised-case c).Else-lengths_wrong) (lt-ltb (length a.raised.now) (scope_count a.case) (omega (arith, c.if-raised-case.true))))

room : (c : Else-raised-case) → scope_count c.args.case ≤ length c.args.raised.now
room c = omega (arith, c.if-raised-case.false)

lengths : (c : Else-raised-case) → (other (goal.at.Else-raised-case c).Start || (few (goal.at.Else-raised-case c).Start || few-marks (goal.at.Else-raised-case c).Start)) ≡ false
lengths c =
    let a = c.args in
    or-three (other (goal.at.Else-raised-case c).Start) (few (goal.at.Else-raised-case c).Start) (few-marks (goal.at.Else-raised-case c).Start) false (lens (goal.at.Else-raised-case c).Else-lengths_wrong) (le-ltb (length a.raised.now) (scope_count a.case) (room c))

pub returns-then-lowering_out : goal.returns-then-lowering_out
unfolding lower_and_raise_call
returns-then-lowering_out c =
    let a = c.args in
    out_of_range a.case a.table.now a.best.now (change (goal.at.returns-then-lowering_out c).Start) (few (goal.at.returns-then-lowering_out c).Start || few-marks (goal.at.returns-then-lowering_out c).Start) (out (goal.at.returns-then-lowering_out c).Start)
    (right (goal.at.returns-then-lowering_out c).Else-not-within_limits) (lengths (goal.at.returns-then-lowering_out c).Else-raised-case)
    (rw (to_z-of_z c.ranges.amount) at (sym c.lowering_out.ensures ∙ c.if-lowering_out.true))

inside : (c : Else-lowering_out) → out (goal.at.Else-lowering_out c).Start ≡ false
inside c = rw (to_z-of_z c.ranges.amount) at (sym c.lowering_out.ensures ∙ c.if-lowering_out.false)

pub lowering_kept-requires : goal.lowering_kept-requires
lowering_kept-requires c =
    let a = c.args in
    let l = kept-lengths-right a.case a.table.now a.best.now (lens (goal.at.lowering_kept-requires c).Else-lengths_wrong) in
    let i = lowering-in a.case a.variable a.amount (inside (goal.at.lowering_kept-requires c).Else-lowering_out) in
    record { limited = (limited a.case (right (goal.at.lowering_kept-requires c).Else-not-within_limits), l.0); case_in_bounds = (l.1, room (goal.at.lowering_kept-requires c).Else-raised-case); variable_lt_n = (i.0, rw (to_z-of_z c.ranges.amount) i.1) }

pub returns : goal.returns
unfolding lower_and_raise_call
returns c =
    let a = c.args in
    call_next a.case a.table.now a.best.now (change (goal.at.returns c).Start) (few (goal.at.returns c).Start || few-marks (goal.at.returns c).Start) (out (goal.at.returns c).Start)
    (right (goal.at.returns c).Else-not-within_limits) (lengths (goal.at.returns c).Else-raised-case) (inside (goal.at.returns c).Else-lowering_out)
    (rw (to_z-of_z c.ranges.amount) at c.lowering_kept.ensures)
