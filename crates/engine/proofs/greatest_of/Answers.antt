use Rattle.tables.proofs.Best.{greatest-known}
use Rattle.engine.proofs.greatest_of.Goals as goal

pub returns : goal.returns
returns c =
    rw c.greatest_weights.ensures.1 (greatest-known c.args.best.now c.requires.0 c.requires.1).1
