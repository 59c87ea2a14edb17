use mathlib.Core.Path.{◌≡◌}
use Rattle.casefile.specs.Steps.{joined_before}
use Rattle.casefile.proofs.edges.joined_before.Given as goal

abbrev pub invariant-loop-f : goal.invariant-loop-f
invariant-loop-f l = l.found ≡ joined_before l.lower l.upper l.f l.i l.j
