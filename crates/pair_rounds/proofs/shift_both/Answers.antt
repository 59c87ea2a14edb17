use Rattle.pair_rounds.proofs.Ends.{lower-ready, upper-ready, both-done}
use Rattle.pair_rounds.proofs.shift_both.Goals as goal

pub shift_end-middle-requires : goal.shift_end-middle-requires
shift_end-middle-requires c = let h = lower-ready c.requires.ready c.args.out.now c.requires.allows c.requires.edge_in_bounds in record { ready = h.0; allows = h.1.0; end_in_bounds = h.1.1 }

pub shift_end-requires : goal.shift_end-requires
shift_end-requires c =
    let h = upper-ready c.requires.ready c.args.out.now c.requires.allows c.requires.edge_in_bounds c.shift_end-middle.ensures c.shift_end-middle.auto.out in record { ready = h.0; allows = h.1.0; end_in_bounds = h.1.1 }

pub returns : goal.returns
returns c =
    both-done c.requires.ready c.args.out.now c.requires.allows c.requires.edge_in_bounds c.shift_end-middle.ensures c.shift_end.ensures
