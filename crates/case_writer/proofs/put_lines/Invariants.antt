use mathlib.Core.Path.{◌≡◌}
use Prim.Native.Nat.{◌+◌, ◌*◌, ◌<◌}
use lib.ListN.{length}
use Rattle.definitions.specs.Lines.{overwritten}
use Rattle.case_lines.specs.Dues.{AtLine, bytes_of_line, lines_due}
use Rattle.case_writer.proofs.Writes.{case_written}
use Rattle.case_writer.proofs.put_lines.Given as goal

abbrev pub invariant-loop-q : goal.invariant-loop-q
invariant-loop-q l =
    (length (case_written l.sizes l.lower l.upper l.table l.q) ≡ bytes_of_line l.sizes.rulebook * (l.q + 1)) × (length l.out ≡ length l.initial.out)
    × (l.out ≡ overwritten (case_written l.sizes l.lower l.upper l.table l.q) l.initial.out) × (l.q < lines_due l.sizes → AtLine l.sizes l.q l.due)
