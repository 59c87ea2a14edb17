use mathlib.Core.Path.{◌≡◌}
use Prim.Native.Nat.{◌<◌, ◌^◌}
use lib.ListN.{drop}
use Rattle.definitions.specs.Lines.{read_positive, read_digits}
use Rattle.lines.proofs.positive.Given as goal

abbrev pub invariant-loop-b : goal.invariant-loop-b
invariant-loop-b l = (read_positive l.t ≡ read_digits l.v (drop l.b-index l.t)) × (l.v < 10 ^ l.b-index)
