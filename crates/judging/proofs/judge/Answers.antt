use mathlib.Core.Path.{sym, ap, ◌∙◌}
use Rattle.std.proofs.lemmas.Result.{err_from_is_err_and}
use Rattle.judging.specs.Judging.{state_of, judgement_from, judgement_of}
use Rattle.judging.proofs.judge.Goals as goal

pub returns-in_err-passed : goal.returns-in_err-passed
unfolding judgement_of
returns-in_err-passed c =
    let a = c.args in
    let p = err_from_is_err_and c.from_residual.result c.from_residual.ensures.1 in
    rw (p.1, p.2) (ap (judgement_from (state_of a.judging a.table.now) a.part) (sym c.in_err-passed.was))

pub returns : goal.returns
unfolding judgement_of
returns c =
    let a = c.args in
    c.end_judgement.ensures ∙ ap (judgement_from (state_of a.judging a.table.now) a.part) (sym c.in_ok-passed.was)
