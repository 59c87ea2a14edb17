use mir.Facts.{to_z-of_z}
use Rattle.round_lines.specs.Press.{write_all_call}
use Rattle.round_lines.proofs.write_all.Goals as goal

pub returns : goal.returns
unfolding write_all_call
returns c =
    rw (to_z-of_z c.ranges.amount, to_z-of_z c.ranges.bound) at c.write_entry.ensures
