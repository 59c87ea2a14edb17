use Rattle.definitions.specs.Rules.{coherent}
use Rattle.theory.proofs.Rounds.{all-handed}
use Rattle.pair_rounds.proofs.Rounds.{round-ready, bound-ready, pair-round-made}
use Rattle.pair_rounds.proofs.shift_pair.Goals as goal

pub shift_both-at-requires : goal.shift_both-at-requires
shift_both-at-requires c =
    let h = round-ready c.args.out.now c.requires.ready.handed c.requires.ready.edge c.requires.t.1 c.requires.t.0 in
    record { ready = c.requires.ready; allows = h.0; edge_in_bounds = h.1 }

pub put_bound-requires : goal.put_bound-requires
put_bound-requires c =
    let h = bound-ready c.args.out.now c.requires.ready.handed c.requires.ready.edge c.requires.t.1 c.requires.t.0 c.shift_both-at.ensures
    c.shift_both-at.auto.out in record { case_in_bounds = h.0; held = h.1 }

pub returns : goal.returns
returns c =
    let m = c.shift_both-at.ensures in
    pair-round-made c.args.out.now c.requires.ready.handed c.requires.ready.edge c.requires.t.1 m
    (c.put_bound.ensures c.shift_both-at.new.table (all-handed (coherent c.args.case.rulebook) m.allowed c.requires.ready.handed)
    m.greatest-kept)
