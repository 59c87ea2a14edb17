use Rattle.leaving.proofs.Moving.{moved-part}
use Rattle.leaving.proofs.parts.keep_part.Goals as goal

pub returns-then-stay : goal.returns-then-stay
returns-then-stay c = let a = c.args in
    rw (c.move_down.ensures, c.if-stay.true) (moved-part a.table.now a.from a.to c.requires.0 a.size c.requires.1)
