use mathlib.Core.Path.{◌≡◌}
use Prim.Native.Nat.{◌+◌}
use lib.IntN.{pos}
use lib.ListN.{get_or}
use Rattle.integers.specs.Words.{eq_z}
use Rattle.arcs.proofs.Marked.{values_from}
use Rattle.arcs.proofs.best_values.Given as goal

abbrev pub invariant-loop-j : goal.invariant-loop-j
invariant-loop-j l = l.set ≡ values_from (λ v. eq_z (get_or l.table (l.from + v) (pos 0)) (l.best)) l.d l.j
