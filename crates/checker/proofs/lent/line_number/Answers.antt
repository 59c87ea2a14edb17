use mathlib.Core.Path.{◌≡◌, refl, sym, ◌∙◌}
use mathlib.Core.Bool.{true, false}
use borrow.Author.Tests.{not-true, not-false}
use Rattle.definitions.specs.Rules.{rules_of}
use Rattle.definitions.specs.Valid.{within_limits}
use Rattle.definitions.specs.Lines.{not_due}
use Rattle.tables.proofs.Order.{limited}
use Rattle.checker.specs.Checker.{due_kinds}
use Rattle.checker.proofs.Front.{not-due, no-limits, lent-length, lent_out, lent-first}
use Rattle.checker.proofs.lent.line_number.Goals as goal
use Rattle.checker.proofs.lent.line_number.Goals.{Else-not-is_due, Else-not-within_limits}

-- ---- what is known after each test
due : (c : Else-not-is_due) → let a = c.args in not_due (rules_of a.case) (due_kinds a.replay.due) a.line ≡ false
due c = let a = c.args in
    not-true (not_due (rules_of a.case) (due_kinds a.replay.due) a.line)
    (sym (c.is_due.ensures a.case.rulebook) ∙ c.if-not-is_due.false)

within : (c : Else-not-within_limits) → let a = c.args in within_limits (rules_of a.case) a.case.n a.case.d a.case.m ≡ true
within c = sym c.within_limits.ensures ∙ c.if-not-within_limits.false

pub returns-then-not-is_due : goal.returns-then-not-is_due
returns-then-not-is_due c = λ w e. let a = c.args in
    not-due a.case w a.replay a.line
    (not-false (not_due (rules_of a.case) (due_kinds a.replay.due) a.line)
    (sym (c.is_due.ensures a.case.rulebook) ∙ c.if-not-is_due.true))

pub returns-then-not-within_limits : goal.returns-then-not-within_limits
returns-then-not-within_limits c = λ w e. let a = c.args in
    no-limits a.case w a.replay a.line (due (goal.at.returns-then-not-within_limits c).Else-not-is_due) (sym c.within_limits.ensures ∙ c.if-not-within_limits.true)

pub returns-then-is_wrong_length : goal.returns-then-is_wrong_length
returns-then-is_wrong_length c = λ w e. let a = c.args in
    lent-length a.case w a.replay a.line (due (goal.at.returns-then-is_wrong_length c).Else-not-is_due) e (c.is_wrong_length.ensures.0 (rw c.if-is_wrong_length.true tt))

pub line_out-requires : goal.line_out-requires
line_out-requires c = limited c.args.case (within (goal.at.line_out-requires c).Else-not-within_limits)

pub returns-then-line_out : goal.returns-then-line_out
returns-then-line_out c = λ w e. let a = c.args in
    lent_out a.case w a.replay a.line (due (goal.at.returns-then-line_out c).Else-not-is_due) e (within (goal.at.returns-then-line_out c).Else-not-within_limits)
    (λ q. rw c.if-is_wrong_length.false at (c.is_wrong_length.ensures.1 q)) (sym (c.line_out.ensures w a.replay refl) ∙ c.if-line_out.true)

pub returns : goal.returns
returns c = λ w e. let a = c.args in
    lent-first a.case w a.replay a.line (due (goal.at.returns c).Else-not-is_due) e (sym (c.line_out.ensures w a.replay refl) ∙ c.if-line_out.false)
