use Rattle.std.proofs.lemmas.Result.{err_from_is_err_and}
use mathlib.Core.Path.{sym, ap, ◌∙◌}
use mathlib.Core.Logic.{◌≢◌}
use native.Mathlib.Omega.{arith}
use lib.ListN.{length, drop, length-drop}
use Rattle.definitions.specs.Answers.{outcome_of}
use Rattle.casefile.proofs.Heads.{front}
use Rattle.casefile.proofs.Alone.{rest-refused, rest_read}
use Rattle.casefile.proofs.check_rest.Goals as goal

pub returns-in_err-line_at : goal.returns-in_err-line_at
returns-in_err-line_at c =
    let a = c.args in
    let t = drop a.from a.bytes.now in
    let n : length t ≢ 0 = λ z. c.if-from-bytes.false (omega (arith, length-drop a.from a.bytes.now, z, c.requires)) in
    let p = err_from_is_err_and c.from_residual.result c.from_residual.ensures.1 in
    rw (p.1, p.2) (sym (ap outcome_of (rest-refused a.rulebook t n (front a.rulebook t) (sym c.line_at.ensures ∙ c.in_err-line_at.was))))

pub returns : goal.returns
returns c =
    let a = c.args in
    let t = drop a.from a.bytes.now in
    let n : length t ≢ 0 = λ z. c.if-from-bytes.false (omega (arith, length-drop a.from a.bytes.now, z, c.requires)) in
    sym (ap outcome_of (rest_read a.rulebook t n (front a.rulebook t) (sym c.line_at.ensures ∙ c.in_ok-line_at.was)))
