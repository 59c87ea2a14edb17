use Prim.Native.Nat.{◌*◌}
use lib.ListN.{get_or}
use Rattle.arcs.specs.Active.{Written}
use Rattle.families.specs.Closing.{all_bytes}
use Rattle.families.proofs.write_partners.Given as goal

abbrev pub invariant-loop-e : goal.invariant-loop-e
invariant-loop-e l = Written (λ q. get_or (all_bytes l.case l.rows l.sets) q 0) 0 (l.e * (2 * l.case.d)) l.initial.partners l.partners
