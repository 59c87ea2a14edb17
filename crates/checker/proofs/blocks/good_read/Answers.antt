use mathlib.Core.Path.{◌≡◌, refl, sym, ◌∙◌}
use mathlib.Core.Bool.{false}
use borrow.Author.Tests.{not-true, not-false}
use Rattle.definitions.specs.Rules.{rules_of}
use Rattle.definitions.specs.Lines.{not_due}
use Rattle.checker.specs.declared.Replay.{Replay}
use Rattle.checker.specs.Checker.{due_kinds, of_due}
use Rattle.checker.specs.Taken.{good_replay}
use Rattle.checker.proofs.Front.{good-not-due, good-out, good-next}
use Rattle.checker.proofs.Taking.{step-refused}
use Rattle.checker.proofs.blocks.good_read.Goals as goal
use Rattle.checker.proofs.blocks.good_read.Goals.{After-is_due, Else-line_out, Else-not-is_due}

abbrev record-before : After-is_due → Replay
record-before c = good_replay c.args.progress c.args.raised.now

due : (c : Else-not-is_due) → let a = c.args in not_due (rules_of a.case) (due_kinds a.progress.due) a.line ≡ false
due c = let a = c.args in
    not-true (not_due (rules_of a.case) (due_kinds a.progress.due) a.line)
    (sym (c.is_due.ensures a.case.rulebook) ∙ c.if-not-is_due.false)

in-range : (c : Else-line_out) → let a = c.args in
    (of_due (rules_of a.case) a.case a.table.now (record-before (goal.at.Else-line_out c).After-is_due) a.progress.due a.line).out ≡ false
in-range c = sym (c.line_out.ensures c.args.table.now (record-before (goal.at.Else-line_out c).After-is_due) refl) ∙ c.if-line_out.false

pub returns-then-not-is_due : goal.returns-then-not-is_due
returns-then-not-is_due c = let a = c.args in let w = a.table.now in record {
  table_after = step-refused c.refused.result w w a.raised.now c.refused.ensures refl
      ∙ sym (good-not-due a.case w (record-before (goal.at.returns-then-not-is_due c).After-is_due) a.line
      (not-false (not_due (rules_of a.case) (due_kinds a.progress.due) a.line)
      (sym (c.is_due.ensures a.case.rulebook) ∙ c.if-not-is_due.true)));
  best_of_2 = c.requires.best_of;
}

pub returns-then-line_out : goal.returns-then-line_out
returns-then-line_out c = let a = c.args in let w = a.table.now in record {
  table_after = step-refused c.refused-then-line_out.result w w a.raised.now c.refused-then-line_out.ensures refl
      ∙ sym (good-out a.case w (record-before (goal.at.returns-then-line_out c).After-is_due) a.line c.requires.handed c.requires.t (due (goal.at.returns-then-line_out c).Else-not-is_due)
      (sym (c.line_out.ensures w (record-before (goal.at.returns-then-line_out c).After-is_due) refl) ∙ c.if-line_out.true));
  best_of_2 = c.requires.best_of;
}

pub returns : goal.returns
returns c = let a = c.args in let w = a.table.now in record {
  table_after = c.take_line.ensures.table_after
      ∙ sym (good-next a.case w (record-before (goal.at.returns c).After-is_due) a.line c.requires.handed c.requires.t (due (goal.at.returns c).Else-not-is_due) (in-range (goal.at.returns c).Else-line_out));
  best_of_2 = c.take_line.ensures.best_of_2;
}
