use mathlib.Core.Path.{◌≡◌}
use Rattle.integers.specs.Words.{any, below}
use Rattle.definitions.specs.Valid.{same_ends}
use Rattle.tables.specs.Edges.{with_edges}
use Rattle.tables.proofs.repeated.Given as goal

abbrev pub invariant-loop-f : goal.invariant-loop-f
invariant-loop-f l = l.found ≡ any (same_ends (with_edges 0 l.lower l.upper) l.e) (below l.f)
