use Rattle.engine.proofs.Pairs.{pair-made, pair-handed}
use Rattle.engine.proofs.pair_round.Goals as goal

pub greatest_of-requires : goal.greatest_of-requires
greatest_of-requires c =
    (pair-handed c.args.out.now c.requires.handed.0 c.requires.case_in_bounds c.requires.table_value c.make_round-made.ensures.1, c.requires.handed.1.enough)

pub returns : goal.returns
returns c =
    let k = c.make_round-made.ensures in
    (pair-made c.args.out.now c.requires.handed.0 c.requires.case_in_bounds c.requires.table_value k.0 k.1 k.2, c.greatest_of.ensures)
