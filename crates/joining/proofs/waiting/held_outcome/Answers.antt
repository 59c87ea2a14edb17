use native.Mathlib.Omega.{arith}
use Rattle.joining.proofs.Rooms.{read_fits}
use Rattle.joining.proofs.waiting.held_outcome.Goals as goal

pub first_held-requires : goal.first_held-requires
first_held-requires c = let a = c.args in
    record { limited = c.requires.placed.limited; starting_len = (c.requires.placed.sized, c.requires.table_len); waiting_in_bounds = omega (arith, c.weights_read-waiting.ensures, read_fits c.requires.placed a.due c.requires.in_case) }
