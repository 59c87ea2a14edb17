use Rattle.std.proofs.lemmas.Result.{err_from_is_err_and}
use mathlib.Core.Path.{sym, ◌∙◌}
use mathlib.Core.Bool.{false}
use Rattle.definitions.specs.Case.{upper_bound}
use Rattle.calls.specs.Calls.{upper_bound_answer}
use Rattle.tables.proofs.Answered.{answer-refused, answer-given, known, greatest-sum-known}
use Rattle.figures.proofs.upper_bound.Goals as goal

pub returns-in_err-check_working : goal.returns-in_err-check_working
unfolding upper_bound_answer
returns-in_err-check_working c =
    let p = err_from_is_err_and c.from_residual.result c.from_residual.ensures.1 in
    rw (p.1, p.2) (answer-refused c.args.case c.args.table.now false false (upper_bound c.args.case c.args.table.now)
    (sym c.in_err-check_working.was ∙ c.check_working.ensures))

pub returns : goal.returns
unfolding upper_bound_answer
returns c = let w = c.args.table.now in
    let d = sym c.in_ok-check_working.was ∙ c.check_working.ensures in
    c.sum_of_greatest.ensures ∙ greatest-sum-known (known c.args.case w false false d).0
    ∙ answer-given c.args.case w false false (upper_bound c.args.case w) d
