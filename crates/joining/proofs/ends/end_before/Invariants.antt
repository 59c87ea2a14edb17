use mathlib.Core.Path.{◌≡◌}
use Rattle.joining.specs.Steps.{end_before}
use Rattle.joining.proofs.ends.end_before.Given as goal

abbrev pub invariant-loop-end : goal.invariant-loop-end
invariant-loop-end l = l.found ≡ end_before l.lower l.end-index l.i
