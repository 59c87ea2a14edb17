use Rattle.engine.proofs.Trims.{copied-enough}
use Rattle.engine.proofs.trim.renew.Goals as goal
use Rattle.engine.proofs.trim.renew.Goals.{After-keep_raised, Start}

abbrev entry : After-keep_raised → Start
entry c = (goal.at.After-keep_raised c).Start

pub returns : goal.returns
returns c =
    λ w p t.
    let a = (entry (goal.at.returns c).After-keep_raised).args in
    copied-enough a.case w a.variable a.raised.now c.copy_bytes.new.to c.copy_bytes.ensures t
