use mathlib.Core.Path.{◌≡◌}
use lib.ListN.{length}
use Rattle.definitions.specs.Case.{lower_end, upper_end}
use Rattle.leaving.specs.Scopes.{staying_to, ends_left}
use Rattle.leaving.proofs.ends.put_edges.Given as goal

abbrev pub invariant-loop-e : goal.invariant-loop-e
invariant-loop-e l = (l.q ≡ length (staying_to l.case l.variable l.e)) × (l.lower ≡ ends_left l.case (lower_end l.case) l.variable l.e) × (l.upper ≡ ends_left l.case (upper_end l.case) l.variable l.e)
