use Rattle.std.proofs.lemmas.Result.{err_from_is_err_and}
use mathlib.Core.Path.{sym, ◌∙◌}
use Rattle.casefile.proofs.Heads.{front, head-refused, size-read}
use Rattle.casefile.proofs.case_size_in.Goals as goal

pub returns-in_err-line : goal.returns-in_err-line
returns-in_err-line c =
    let a = c.args in
    let t = a.bytes.now in
    let p = err_from_is_err_and c.from_residual.result c.from_residual.ensures.1 in
    rw (p.1, p.2) (head-refused a.rulebook t (front a.rulebook t) (sym c.line_at.ensures ∙ c.in_err-line.was))

pub returns : goal.returns
returns c =
    let a = c.args in
    let t = a.bytes.now in
    c.head_answer.ensures ∙ size-read a.rulebook t (front a.rulebook t) (sym c.line_at.ensures ∙ c.in_ok-line.was)
