use Rattle.std.proofs.lemmas.Result.{err_from_is_err_and}
use Rattle.case_lines.specs.Dues.{bytes_of_line}
use mathlib.Core.Path.{◌≡◌, sym, ap, ◌∙◌}
use Prim.Native.Nat.{◌+◌, ◌*◌}
use lib.ListN.{drop}
use Rattle.case_lines.specs.Dues.{due_awaited}
use Rattle.casefile.proofs.Heads.{front}
use Rattle.casefile.proofs.Taken.{at-refused, at_read}
use Rattle.casefile.proofs.body.take_at.Goals as goal
use Rattle.casefile.proofs.body.take_at.Goals.{After-line_length}

-- the byte of line q
line-at-byte : (c : After-line_length) → let a = c.args in
    c.line_length.result * (a.q + 1) ≡ bytes_of_line a.sizes.rulebook * (a.q + 1)
line-at-byte c = ap (λ n. n * (c.args.q + 1)) c.line_length.ensures

pub returns-in_err-line : goal.returns-in_err-line
returns-in_err-line c =
    let a = c.args in
    let t = drop (bytes_of_line a.sizes.rulebook * (a.q + 1)) a.bytes.now in
    let p = err_from_is_err_and c.from_residual.result c.from_residual.ensures.1 in
    rw (p.1, p.2) (at-refused a.sizes a.lower.now a.upper.now a.table.now t (due_awaited a.due) (front a.sizes.rulebook t)
    (sym (rw (line-at-byte (goal.at.returns-in_err-line c).After-line_length) at c.line_at.ensures) ∙ c.in_err-line.was))

pub returns : goal.returns
returns c =
    let a = c.args in
    let t = drop (bytes_of_line a.sizes.rulebook * (a.q + 1)) a.bytes.now in
    at_read a.sizes a.lower.now a.upper.now a.table.now t (due_awaited a.due) (front a.sizes.rulebook t)
    (sym (rw (line-at-byte (goal.at.returns c).After-line_length) at c.line_at.ensures) ∙ c.in_ok-line.was) c.take.ensures
