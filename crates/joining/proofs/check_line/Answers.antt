use mathlib.Core.Path.{sym, ap, ◌∙◌}
use Rattle.definitions.specs.Answers.{outcome_of}
use Rattle.case_lines.specs.Dues.{due_awaited}
use Rattle.joining.proofs.ColumnTests.{off, on}
use Rattle.joining.proofs.Rooms.{has-known}
use Rattle.joining.proofs.Lines.{line_refused, line-placed, line-free}
use Rattle.joining.proofs.check_line.Goals as goal

pub returns-then-not-is_due : goal.returns-then-not-is_due
returns-then-not-is_due c = let a = c.args in
    ap outcome_of (line_refused a.case a.starting.now a.edges a.lower.now a.line (due_awaited a.due)
    (off (c.is_due.ensures a.case.rulebook) c.if-not-is_due.true-raw))

pub check_placed-requires : goal.check_placed-requires
check_placed-requires c = let a = c.args in
    let h = has-known a.case a.edges _ a.due (sym c.has_place.ensures ∙ c.if-has_place.true) in record { placed = h.0; in_case = h.1 }

pub returns-then-has_place : goal.returns-then-has_place
returns-then-has_place c = let a = c.args in
    c.check_placed.ensures ∙ ap outcome_of (line-placed a.case a.starting.now a.edges a.lower.now a.line (due_awaited a.due)
    (on (c.is_due.ensures a.case.rulebook) c.if-not-is_due.false-raw) (sym c.has_place.ensures ∙ c.if-has_place.true))

pub returns : goal.returns
returns c = let a = c.args in
    ap outcome_of (line-free a.case a.starting.now a.edges a.lower.now a.line (due_awaited a.due)
    (on (c.is_due.ensures a.case.rulebook) c.if-not-is_due.false-raw) (sym c.has_place.ensures ∙ c.if-has_place.false))
