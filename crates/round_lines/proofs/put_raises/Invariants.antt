use mathlib.Core.Path.{◌≡◌}
use Prim.Native.Nat.{◌+◌, ◌*◌}
use lib.ListN.{length}
use Rattle.definitions.specs.Lines.{line_length}
use Rattle.round_lines.specs.Press.{raised_below}
use Rattle.round_lines.proofs.Texts.{PutRaises}
use Rattle.round_lines.proofs.put_raises.Given as goal

abbrev pub invariant-loop-x : goal.invariant-loop-x
invariant-loop-x l =
    (length l.out ≡ length l.initial.out)
    × ((l.at ≡ l.from + line_length l.width * length (raised_below l.raised l.x)) × PutRaises l.width l.from (raised_below l.raised l.x) l.at l.initial.out l.out)
