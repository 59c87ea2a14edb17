use mir.Facts.{to_z-of_z}
use Rattle.engine.proofs.Rounds.{pressed-by}
use Rattle.engine.proofs.press.Goals as goal

pub returns : goal.returns
returns c =
    let a = c.args in
    let e = rw (to_z-of_z c.ranges.amount) at c.lower_and_raise.ensures in
    pressed-by c.requires.handed c.requires.best_of a.raised.now a.variable a.amount c.requires.case_in_bounds.0 c.requires.case_in_bounds.1 c.requires.case_in_bounds.2
    c.best_values-values.result c.best_values-values.ensures e.0 e.1 e.2
