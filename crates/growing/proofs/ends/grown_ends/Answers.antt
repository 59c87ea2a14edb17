use mathlib.Core.Path.{◌≡◌}
use native.Mathlib.Omega.{arith}
use lib.ListN.{length}
use Rattle.definitions.specs.Rules.{edge_places}
use Rattle.growing.proofs.GrownEnds.{ends-grown}
use borrow.Author.Rules.{rules}
use Rattle.growing.proofs.ends.grown_ends.Goals as goal

pub returns : goal.returns
returns c = let a = c.args in
    let long : length a.new.now ≡ edge_places = search rules in
    (ends-grown a.old.now a.new.now a.m a.edges c.requires (omega arith) _ _ c.put_ends.ensures c.put_ends-2.ensures, long)
