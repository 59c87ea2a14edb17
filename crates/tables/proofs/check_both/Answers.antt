use mathlib.Core.Path.{sym, ◌∙◌}
use Rattle.tables.proofs.Paired.{both-sized}
use Rattle.tables.proofs.check_both.Goals as goal

-- src/lib.rt:582:26
pub both_outcome-requires : goal.both_outcome-requires
both_outcome-requires c = let a = c.args in
    let h = both-sized a.case a.starting.now a.table.now a.out (sym c.in_ok-front_outcome.was ∙ c.front_outcome.ensures) in
    record { limited = h.0; starting_len = h.1 }
