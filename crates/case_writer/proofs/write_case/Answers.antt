use Rattle.std.proofs.lemmas.Result.{err_from_is_err_and}
use mathlib.Core.Bool.{false}
use lib.Dec.{ltb}
use lib.ListN.{length}
use Rattle.definitions.specs.Rules.{rules_of}
use Rattle.definitions.specs.Refusals.{first_refusal}
use Rattle.definitions.specs.Answers.{outcome_of}
use Rattle.definitions.specs.Valid.{starting_weight, handed_over}
use mathlib.Core.Path.{◌≡◌, sym, ap, ◌∙◌}
use Rattle.case_writer.proofs.Writes.{write_asked, write-limits, write-refused, write-valid, write-done-is}
use Rattle.case_writer.proofs.write_case.Goals as goal
use Rattle.case_writer.proofs.write_case.Goals.{After-check_starting}

-- the check's answer is the definition's
told : (c : After-check_starting) → let a = c.args in c.check_starting.result ≡ outcome_of (write_asked a.case a.table.now a.out.now)
told c =
    let a = c.args in
    c.check_starting.ensures
    ∙ ap (λ n. outcome_of (first_refusal (handed_over (rules_of a.case) (starting_weight (rules_of a.case)) a.case a.table.now
    (ltb (length a.out.now) n) false))) c.file_bytes-bytes.ensures

pub returns-then-not-within_limits : goal.returns-then-not-within_limits
returns-then-not-within_limits c =
    let a = c.args in
    write-limits a.case a.table.now a.out.now (sym c.within_limits.ensures ∙ c.if-not-within_limits.true)

pub put_lines-requires : goal.put_lines-requires
put_lines-requires c =
    let a = c.args in
    let h = write-valid a.case a.table.now a.out.now (sym c.in_ok-check_starting.was ∙ told (goal.at.put_lines-requires c).After-check_starting) in
    record { valid = h.0; sizes_in_bounds = h.1 }

pub returns-in_err-check_starting : goal.returns-in_err-check_starting
returns-in_err-check_starting c =
    let a = c.args in
    let p = err_from_is_err_and c.from_residual.result c.from_residual.ensures.1 in
    rw (p.1, p.2) (write-refused a.case a.table.now a.out.now
    (sym c.in_err-check_starting.was ∙ told (goal.at.returns-in_err-check_starting c).After-check_starting))

pub returns : goal.returns
returns c =
    let a = c.args in
    write-done-is a.case a.table.now a.out.now (sym c.in_ok-check_starting.was ∙ told (goal.at.returns c).After-check_starting)
    c.file_bytes-bytes.ensures c.put_lines.ensures
