use mathlib.Core.Path.{◌≡◌, sym, ◌∙◌}
use mathlib.Core.Bool.{Bool, true, false, not, ◌||◌}
use Prim.Native.Nat.{◌<◌}
use native.Mathlib.Omega.{arith}
use lib.Dec.{ltb, eqb}
use lib.ListN.{length}
use mir.Facts.{to_z-of_z}
use borrow.Author.Tests.{lt-ltb, le-ltb}
use Rattle.integers.specs.Tests.{false-is}
use Rattle.definitions.specs.Rules.{rules_of}
use Rattle.definitions.specs.Case.{scope_count, lent_length}
use Rattle.definitions.specs.Valid.{within_limits}
use Rattle.definitions.specs.Moves.{end_variable}
use Rattle.calls.specs.Calls.{shift_out}
use Rattle.tables.proofs.Order.{limited}
use Rattle.changes.specs.Kept.{Change, transfer_change, transfer_call}
use Rattle.changes.proofs.TransferLaws.{transfer-in}
use Rattle.changes.proofs.KeptLaws.{kept-limits-refused, wrong-length, out_of_range, kept-lengths-right, call_next}
use Rattle.changes.proofs.transfer.Goals as goal
use Rattle.changes.proofs.transfer.Goals.{Else-case-end_variable, Else-lengths_wrong, Else-not-within_limits, Else-transfer_out, Start}

-- what is asked of the arguments
abbrev change : (z : Start) → Change
change z = let a = z.args in transfer_change a.case a.edge a.end a.value a.amount

abbrev wrong : (z : Start) → Bool
wrong z = not (eqb (length z.args.table.now) (lent_length (rules_of z.args.case) z.args.case))

abbrev few : (z : Start) → Bool
few z = ltb (length z.args.best.now) (scope_count z.args.case)

abbrev shift-out : (z : Start) → Bool
shift-out z = let a = z.args in shift_out (rules_of a.case) a.case a.edge a.end a.value a.amount

abbrev out : (z : Start) → Bool
out z = let a = z.args in (shift-out z) || not (ltb (end_variable a.case a.edge a.end) a.case.n)

pub returns-then-not-within_limits : goal.returns-then-not-within_limits
unfolding transfer_call
returns-then-not-within_limits c =
    let a = c.args in
    kept-limits-refused a.case a.table.now a.best.now (change (goal.at.returns-then-not-within_limits c).Start) (few (goal.at.returns-then-not-within_limits c).Start) (out (goal.at.returns-then-not-within_limits c).Start)
    (sym c.within_limits.ensures ∙ c.if-not-within_limits.true)

right : (c : Else-not-within_limits) → let a = c.args in within_limits (rules_of a.case) a.case.n a.case.d a.case.m ≡ true
right c = sym c.within_limits.ensures ∙ c.if-not-within_limits.false

pub lengths_wrong-requires : goal.lengths_wrong-requires
lengths_wrong-requires c = limited c.args.case (right c)

pub returns-then-lengths_wrong : goal.returns-then-lengths_wrong
unfolding transfer_call
returns-then-lengths_wrong c =
    let a = c.args in
    wrong-length a.case a.table.now a.best.now (change (goal.at.returns-then-lengths_wrong c).Start) (few (goal.at.returns-then-lengths_wrong c).Start) (out (goal.at.returns-then-lengths_wrong c).Start) (right (goal.at.returns-then-lengths_wrong c).Else-not-within_limits) (sym c.lengths_wrong.ensures ∙ c.if-lengths_wrong.true)

lengths : (c : Else-lengths_wrong) → (wrong (goal.at.Else-lengths_wrong c).Start || few (goal.at.Else-lengths_wrong c).Start) ≡ false
lengths c = sym c.lengths_wrong.ensures ∙ c.if-lengths_wrong.false

pub returns-then-transfer_out : goal.returns-then-transfer_out
unfolding transfer_call
returns-then-transfer_out c =
    let a = c.args in
    let o = rw (to_z-of_z c.ranges.amount) at (sym c.transfer_out.ensures ∙ c.if-transfer_out.true) in
    out_of_range a.case a.table.now a.best.now (change (goal.at.returns-then-transfer_out c).Start) (few (goal.at.returns-then-transfer_out c).Start) (out (goal.at.returns-then-transfer_out c).Start) (right (goal.at.returns-then-transfer_out c).Else-not-within_limits) (lengths (goal.at.returns-then-transfer_out c).Else-lengths_wrong) (rw o)

in-range : (c : Else-transfer_out) → shift-out (goal.at.Else-transfer_out c).Start ≡ false
in-range c = rw (to_z-of_z c.ranges.amount) at (sym c.transfer_out.ensures ∙ c.if-transfer_out.false)

pub returns-then-case-end_variable : goal.returns-then-case-end_variable
unfolding transfer_call
returns-then-case-end_variable c =
    let a = c.args in
    let h = le-ltb (end_variable a.case a.edge a.end) a.case.n (omega (arith, c.end_variable.ensures, c.if-case-end_variable.true)) in
    out_of_range a.case a.table.now a.best.now (change (goal.at.returns-then-case-end_variable c).Start) (few (goal.at.returns-then-case-end_variable c).Start) (out (goal.at.returns-then-case-end_variable c).Start) (right (goal.at.returns-then-case-end_variable c).Else-not-within_limits) (lengths (goal.at.returns-then-case-end_variable c).Else-lengths_wrong) (rw (in-range (goal.at.returns-then-case-end_variable c).Else-transfer_out, h))

end-in : (c : Else-case-end_variable) → let a = c.args in end_variable a.case a.edge a.end < a.case.n
end-in c = omega (arith, c.end_variable.ensures, c.if-case-end_variable.false)

pub transfer_kept-requires : goal.transfer_kept-requires
transfer_kept-requires c =
    let a = c.args in
    let l = kept-lengths-right a.case a.table.now a.best.now (lengths (goal.at.transfer_kept-requires c).Else-lengths_wrong) in
    let i = transfer-in a.case a.edge a.end a.value a.amount (false-is _ (in-range (goal.at.transfer_kept-requires c).Else-transfer_out)) in
    record { limited = (limited a.case (right (goal.at.transfer_kept-requires c).Else-not-within_limits), l.0, l.1); edge_lt_m = (i.0.0, i.0.1, i.0.2, end-in (goal.at.transfer_kept-requires c).Else-case-end_variable); t = rw (to_z-of_z c.ranges.amount) i.1 }

pub returns : goal.returns
unfolding transfer_call
returns c =
    let a = c.args in
    let h = lt-ltb (end_variable a.case a.edge a.end) a.case.n (end-in (goal.at.returns c).Else-case-end_variable) in
    call_next a.case a.table.now a.best.now (change (goal.at.returns c).Start) (few (goal.at.returns c).Start) (out (goal.at.returns c).Start) (right (goal.at.returns c).Else-not-within_limits) (lengths (goal.at.returns c).Else-lengths_wrong) (rw (in-range (goal.at.returns c).Else-transfer_out, h))
    (rw (to_z-of_z c.ranges.amount) at c.transfer_kept.ensures)
