use mathlib.Core.Path.{◌≡◌}
use Prim.Native.Nat.{◌+◌}
use lib.ListN.{get_or}
use Rattle.arcs.specs.Partners.{has_partner}
use Rattle.arcs.proofs.Search.{kept_below}
use Rattle.arcs.proofs.supported.Given as goal

abbrev pub invariant-loop-k : goal.invariant-loop-k
invariant-loop-k l = l.kept ≡ kept_below (λ v. has_partner (get_or l.rows (l.at + v) 0) l.other) l.set l.k
