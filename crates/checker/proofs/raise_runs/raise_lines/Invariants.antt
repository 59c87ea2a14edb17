use mathlib.Core.Path.{◌≡◌}
use Prim.Native.Nat.{◌+◌, ◌≤◌}
use lib.ListN.{length}
use Rattle.definitions.specs.Rules.{scope_places}
use Rattle.checker.proofs.Raising.{Raised}
use Rattle.checker.proofs.raise_runs.raise_lines.Given as goal

abbrev pub invariant-loop-more : goal.invariant-loop-more
invariant-loop-more l =
    (l.more ≤ l.left) × (l.left + l.from ≤ l.more + l.at) × (l.at ≤ length l.bytes) × (length l.raised ≡ scope_places)
    × Raised l.line l.scopes l.variable l.left l.next l.initial.raised l.bytes l.from l.more l.above l.raised l.at

abbrev pub decreases-loop-more : goal.decreases-loop-more
decreases-loop-more l = l.more
