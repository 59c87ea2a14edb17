use mathlib.Core.Path.{sym, ap, ◌∙◌}
use Rattle.definitions.specs.Rules.{rules_of}
use Rattle.checker.specs.Checker.{step_standing, step_replay, lent_standing}
use Rattle.checker.proofs.Front.{first-front}
use Rattle.checker.proofs.Taking.{step-missing, step-line}
use Rattle.checker.proofs.lent.first_number.Goals as goal

pub returns-in-Err : goal.returns-in-Err
unfolding step_replay
returns-in-Err c = λ w e. let a = c.args in
    ap (step_standing (rules_of a.case) a.case w a.replay a.bytes.now) c.in-Err.is

pub returns-in-Err-read : goal.returns-in-Err-read
returns-in-Err-read c = λ w e. let a = c.args in
    step-missing a.case a.bytes.now c.read_line-read.ensures w a.replay c.in_default.is c.in-Err-read.is

pub returns-in-Ok : goal.returns-in-Ok
returns-in-Ok c = λ w e. let a = c.args in
    step-line a.case a.bytes.now c.read_line-read.ensures w a.replay c.in_default.is c.in-Ok.is
    ∙ first-front a.case w a.replay c.in-Ok.line
    (c.line_number.ensures w (sym (ap (lent_standing (rules_of a.case) a.case w a.replay) c.in_default.is) ∙ e))
