use Rattle.std.proofs.lemmas.Result.{err_from_is_err_and}
use mathlib.Core.Path.{sym, ap, ◌∙◌}
use Rattle.definitions.specs.Rules.{rules_of}
use Rattle.checker.specs.Checker.{end_standing, end_replay}
use Rattle.checker.proofs.Replay.end.Goals as goal

pub returns-in_err-self : goal.returns-in_err-self
unfolding end_replay
returns-in_err-self c =
    let a = c.args in
    let p = err_from_is_err_and c.from_residual.result c.from_residual.ensures.1 in
    rw (p.1, p.2) (sym (ap (end_standing (rules_of a.case) a.case a.self) c.in_err-self.was))

pub returns : goal.returns
unfolding end_replay
returns c = let a = c.args in
    c.end_good.ensures ∙ sym (ap (end_standing (rules_of a.case) a.case a.self) c.in_ok-self.was)
