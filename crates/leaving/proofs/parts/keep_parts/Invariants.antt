use mathlib.Core.Path.{◌≡◌}
use Prim.Native.Nat.{◌≤◌}
use lib.ListN.{length, take, drop}
use Rattle.definitions.specs.Case.{place}
use Rattle.leaving.specs.Scopes.{kept_to}
use Rattle.leaving.proofs.parts.keep_parts.Given as goal

abbrev pub invariant-loop-x : goal.invariant-loop-x
invariant-loop-x l = (l.from ≡ place l.case l.x 0 0) × (l.to ≤ l.from) × (length l.table ≡ length l.initial.table) × (take l.to l.table ≡ kept_to l.case l.variable l.initial.table l.x) × (drop l.from l.table ≡ drop l.from l.initial.table)
