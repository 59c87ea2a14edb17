use mathlib.Core.Path.{◌≡◌}
use mathlib.Core.Bool.{◌&&◌}
use Prim.Native.Nat.{ℕ, ◌+◌, ◌<◌}
use lib.Dec.{ltb}
use lib.IntN.{pos}
use lib.ListN.{get_or}
use Rattle.integers.specs.Words.{eq_z}
use Rattle.marks.specs.Marks.{mark}
use Rattle.changes.proofs.values_with.Given as goal

abbrev pub invariant-loop-j : goal.invariant-loop-j
invariant-loop-j l = (l.set < 256)
    × ((v : ℕ) → v < 8 → mark l.set v ≡ (ltb (l.j + v) l.count && eq_z (get_or l.table (l.from + (l.j + v)) (pos 0)) (l.weight)))
