use mathlib.Core.Path.{◌≡◌}
use Prim.Native.Nat.{◌+◌, ◌*◌, ◌-◌, ◌≤◌}
use lib.ListN.{length}
use Rattle.definitions.specs.Rules.{edge_places}
use Rattle.engine.proofs.guess.note_strikes.Given as goal

abbrev pub invariant-loop-quiet : goal.invariant-loop-quiet
invariant-loop-quiet l =
    (l.count ≤ length l.initial.noted)
    × (l.quiet ≤ length l.edges)
    × (l.e ≤ length l.edges - 1)
    × (length l.sets ≡ length l.initial.sets)
    × (length l.noted ≡ length l.initial.noted)

abbrev pub decreases-loop-quiet : goal.decreases-loop-quiet
decreases-loop-quiet l =
    (length l.initial.noted - l.count) * (edge_places + 1) + (edge_places - l.quiet)
