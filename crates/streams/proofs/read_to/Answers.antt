use Rattle.streams.proofs.Stretches.{read_stands}
use Rattle.streams.proofs.read_to.Goals as goal

pub returns-in-Ok-clause-reads : goal.returns-in-Ok-clause-reads
returns-in-Ok-clause-reads g c =
    read_stands _ _ c.args.at c.in-Ok.count _ c.args.buf.now c.read.new.buf c.requires c.in-Ok.ensures.bound.0 c.in-Ok.ensures.bytes.0
