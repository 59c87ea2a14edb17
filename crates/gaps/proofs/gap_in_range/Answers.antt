use Rattle.std.proofs.lemmas.Result.{err_from_is_err_and}
use Rattle.std.specs.Prelude.{Ok}
use mathlib.Core.Path.{sym, ap, ◌∙◌}
use mir.Syntax.{w64}
use Rattle.integers.specs.Linear.{read_back}
use Rattle.gaps.proofs.Ranges.{all-working, range-right, range-wrong}
use Rattle.gaps.proofs.gap_in_range.Goals as goal

pub gap_of_scopes-requires : goal.gap_of_scopes-requires
gap_of_scopes-requires c =
    let a = c.args in
    let r = c.sum_of_best in
    record { limited = c.requires.limited; case_in_bounds = c.requires.case_in_bounds; all_working = all-working a.case a.best.now c.requires.limited.0 c.requires.case_in_bounds.0 (sym c.in_ok-sum_of_best.was ∙ r.ensures) }

pub returns-in_err-sum_of_best : goal.returns-in_err-sum_of_best
returns-in_err-sum_of_best c =
    let a = c.args in
    let p = err_from_is_err_and c.from_residual.result c.from_residual.ensures.1 in
    rw (p.1, p.2) (range-wrong a.case a.best.now c.requires.limited.0 c.requires.case_in_bounds.0 (sym c.in_err-sum_of_best.was ∙ c.sum_of_best.ensures)
    a.table.now a.raised.now a.variable)

pub returns : goal.returns
returns c =
    let a = c.args in
    let g = c.gap_of_scopes in
    ap Ok (read_back w64 g.result g.type_inv ∙ g.ensures)
    ∙ range-right a.case a.best.now c.requires.limited.0 c.requires.case_in_bounds.0 (sym c.in_ok-sum_of_best.was ∙ c.sum_of_best.ensures)
    a.table.now a.raised.now a.variable
