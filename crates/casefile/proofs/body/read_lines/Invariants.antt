use mathlib.Core.Path.{◌≡◌}
use Prim.Native.Nat.{◌+◌, ◌*◌, ◌≤◌, ◌<◌}
use lib.ListN.{length}
use Rattle.case_lines.specs.Dues.{AtLine, bytes_of_line, lines_due}
use Rattle.casefile.specs.Steps.{reading_of, left_from}
use Rattle.casefile.proofs.body.read_lines.Given as goal

abbrev pub invariant-loop-q : goal.invariant-loop-q
invariant-loop-q l =
    (bytes_of_line l.sizes.rulebook * (l.q + 1) ≤ length l.bytes) × (length l.table ≡ length l.initial.table)
    × (left_from l.sizes (reading_of l.sizes l.lower l.upper l.table) l.q l.bytes ≡ left_from l.sizes (reading_of l.sizes l.initial.lower l.initial.upper l.initial.table) 0 l.bytes)
    × (l.q < lines_due l.sizes → AtLine l.sizes l.q l.due)
