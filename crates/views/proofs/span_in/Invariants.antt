use mathlib.Core.Path.{◌≡◌}
use Prim.Native.Nat.{◌/◌, ◌≤◌}
use lib.ListN.{length}
use Rattle.definitions.specs.Lines.{line_length}
use Rattle.definitions.specs.Views.{span_in}
use Rattle.views.proofs.Spans.{span_at}
use Rattle.views.proofs.span_in.Given as goal

abbrev pub invariant-loop-at : goal.invariant-loop-at
invariant-loop-at l =
    (l.whole ≡ length l.log / line_length l.width) × (l.from ≤ l.at) × (span_at l.width l.log l.whole l.at l.from l.left ≡ span_in l.width l.log l.round)
