use Rattle.std.proofs.lemmas.Result.{err_from_is_err_and}
use mathlib.Core.Path.{sym, ◌∙◌}
use Rattle.pair_rounds.proofs.Rounds.{pair-asked, pair-refused}
use Rattle.pair_rounds.proofs.make_round.Goals as goal

pub pair_round-requires : goal.pair_round-requires
pair_round-requires c =
    let a = c.args in
    let h = pair-asked a.case a.table.now a.out.now a.edge (sym c.in_ok-check_round.was
    ∙ c.check_round.ensures) in record { handed = h.0; case_in_bounds = h.1 }

pub returns-in_err-check_round : goal.returns-in_err-check_round
returns-in_err-check_round c =
    let a = c.args in
    let p = err_from_is_err_and c.from_residual.result c.from_residual.ensures.1 in
    rw (p.1, p.2) (let m = pair-refused a.case a.table.now a.out.now a.edge
    (sym c.in_err-check_round.was ∙ c.check_round.ensures) in
    (m.answer, m.table, m.output))
