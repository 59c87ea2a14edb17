use mathlib.Core.Path.{◌≡◌}
use Prim.Native.Nat.{◌<◌}
use lib.ListN.{length, get_or}
use Rattle.arcs.specs.Partners.{lowest_in_both, lowest_partners}
use Rattle.arcs.proofs.lowest_partners.Given as goal

abbrev pub invariant-partners : goal.invariant-partners
invariant-partners l = (l.rest < 256) × (lowest_in_both l.rest l.other ≡ lowest_in_both (get_or l.rows l.at 0) l.other)

abbrev pub decreases-partners : goal.decreases-partners
decreases-partners l = l.rest

abbrev pub invariant-values : goal.invariant-values
invariant-values l =
    (l.left < 256) × (length l.partners ≡ length l.initial.partners) × (lowest_partners l.rows l.left l.other l.partners ≡ lowest_partners l.rows l.set l.other l.initial.partners)

abbrev pub decreases-values : goal.decreases-values
decreases-values l = l.left
