use mir.Facts.{to_z-of_z}
use Rattle.pair_rounds.proofs.Texts.{shift_fits, shifted_one}
use Rattle.pair_rounds.proofs.shift_by.Goals as goal

pub put_line-requires : goal.put_line-requires
put_line-requires c =
    (c.requires.case_in_bounds, rw (c.shift_line.ensures, to_z-of_z c.ranges.amount) (shift_fits c.requires.ready.0.handed c.requires.ready.1))

pub returns : goal.returns
returns c =
    shifted_one c.requires.ready.0.handed c.requires.ready.0.greatest-held c.requires.ready.1 (rw (to_z-of_z c.ranges.amount) at c.transfer.ensures)
    c.put_line.ensures.0 (rw (c.shift_line.ensures, to_z-of_z c.ranges.amount) at c.put_line.ensures.1)
