use mathlib.Core.Path.{◌≡◌, sym, ap, ◌∙◌}
use mathlib.Core.Bool.{true}
use mathlib.Core.List.{List}
use native.Mathlib.Omega.{arith}
use Rattle.definitions.specs.declared.Line.{Line}
use Rattle.definitions.specs.Rules.{rules_of}
use Rattle.definitions.specs.Case.{scope_count}
use Rattle.definitions.specs.Valid.{within_limits}
use Rattle.calls.specs.Calls.{WriteCall}
use Rattle.tables.proofs.Order.{limited}
use Rattle.round_lines.specs.Press.{raised_below, entry_lines}
use Rattle.round_lines.proofs.Calls.{lines-outside, lines-short, lines-checked}
use Rattle.round_lines.proofs.write_entry.Goals as goal
use Rattle.round_lines.proofs.write_entry.Goals.{Else-not-within_limits, Start}

abbrev lines_here : Start → List Line
lines_here s = let a = s.args in entry_lines a.entry a.variable (raised_below a.raised.now (scope_count a.case))

pub returns-then-not-within_limits : goal.returns-then-not-within_limits
returns-then-not-within_limits c =
    let a = c.args in
    let h = lines-outside a.case a.out.now a.variable (lines_here (goal.at.returns-then-not-within_limits c).Start) a.raised.now
    (sym c.within_limits.ensures ∙ c.if-not-within_limits.true) in record { value = h.0; out_after = h.1 }

right : (c : Else-not-within_limits) → let a = c.args in within_limits (rules_of a.case) a.case.n a.case.d a.case.m ≡ true
right c = sym c.within_limits.ensures ∙ c.if-not-within_limits.false

pub returns-then-raised-case : goal.returns-then-raised-case
returns-then-raised-case c =
    let a = c.args in
    let h = lines-short a.case a.out.now a.variable (lines_here (goal.at.returns-then-raised-case c).Start) a.raised.now
    (right (goal.at.returns-then-raised-case c).Else-not-within_limits) (omega (arith, c.if-raised-case.true)) in record { value = h.0; out_after = h.1 }

pub write_checked-requires : goal.write_checked-requires
write_checked-requires c =
    (limited c.args.case (right (goal.at.write_checked-requires c).Else-not-within_limits), omega (arith, c.if-raised-case.false))

pub returns : goal.returns
returns c =
    let a = c.args in
    let call = lines-checked a.case a.out.now a.variable (lines_here (goal.at.returns c).Start) a.raised.now (right (goal.at.returns c).Else-not-within_limits) (omega (arith, c.if-raised-case.false)) in
    record { value = c.write_checked.ensures.value ∙ ap (λ (u : WriteCall). u.answer) call; out_after = c.write_checked.ensures.out_after ∙ ap (λ (u : WriteCall). u.out) call }
