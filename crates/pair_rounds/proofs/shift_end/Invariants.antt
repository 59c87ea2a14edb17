use mathlib.Core.Path.{◌≡◌}
use lib.ListN.{length}
use Rattle.pair_rounds.specs.Shifts.{Shifted}
use Rattle.pair_rounds.proofs.Moves.{shifts_below}
use Rattle.pair_rounds.proofs.shift_end.Given as goal

abbrev pub invariant-loop-value : goal.invariant-loop-value
invariant-loop-value l =
    (length l.table ≡ length l.initial.table) × (length l.best ≡ length l.initial.best) × (length l.out ≡ length l.initial.out)
    × Shifted l.case (shifts_below l.case l.initial.table l.edge l.end l.value) l.initial.table l.table l.best l.from l.at l.initial.out l.out
