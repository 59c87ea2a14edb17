use mathlib.Core.Path.{◌∙◌}
use mathlib.Core.List.{◌++◌}
use native.Mathlib.Nat.{zero-add}
use native.Mathlib.Omega.{arith}
use lib.ListN.{length, length-append}
use Rattle.definitions.specs.Lines.{number_text}
use Rattle.definitions.specs.Programs.{bytes_of}
use Rattle.lines.proofs.Signs.{same}
use Rattle.texts.proofs.Placed.{placed_first, Printed, printed-next, room-left, number-length}
use Rattle.texts.proofs.print.Goals as goal
use Rattle.texts.proofs.print.Goals.{After-put, After-put-at, After-put-at-2, After-put_number-at, After-put_number-at-2}

-- Each part is placed after those before it. Assumes nothing.
after1 : (c : After-put-at) → Printed c.args.word.now c.args.out.now c.put-at.new.out c.put-at.result
after1 c = record { bytes = c.put-at.ensures.1 ∙ placed_first c.args.word.now c.args.out.now; count = c.put-at.ensures.0 ∙ zero-add (length c.args.word.now) }

after2 : (c : After-put_number-at) → Printed (c.args.word.now ++ number_text c.args.a) c.args.out.now c.put_number-at.new.out c.put_number-at.result
after2 c = let e = rw (same c.args.a c.ranges.a) at c.put_number-at.ensures in
    printed-next (after1 (goal.at.After-put_number-at c).After-put-at) (number_text c.args.a) e.0 e.1

after3 : (c : After-put-at-2) → Printed ((c.args.word.now ++ number_text c.args.a) ++ bytes_of " ") c.args.out.now c.put-at-2.new.out c.put-at-2.result
after3 c = printed-next (after2 (goal.at.After-put-at-2 c).After-put_number-at) (bytes_of " ") c.put-at-2.ensures.0 c.put-at-2.ensures.1

after4 : (c : After-put_number-at-2) → Printed (((c.args.word.now ++ number_text c.args.a) ++ bytes_of " ") ++ number_text c.args.b) c.args.out.now
    c.put_number-at-2.new.out c.put_number-at-2.result
after4 c = let e = rw (same c.args.b c.ranges.b) at c.put_number-at-2.ensures in
    printed-next (after3 (goal.at.After-put_number-at-2 c).After-put-at-2) (number_text c.args.b) e.0 e.1

after5 : (c : After-put) → Printed ((((c.args.word.now ++ number_text c.args.a) ++ bytes_of " ") ++ number_text c.args.b) ++ bytes_of "\n") c.args.out.now
    c.put.new.out c.put.result
after5 c = printed-next (after4 (goal.at.After-put c).After-put_number-at-2) (bytes_of "\n") c.put.ensures.0 c.put.ensures.1

pub put_number-at-requires : goal.put_number-at-requires
put_number-at-requires c =
    let n = number-length c.args.a c.ranges.a in
    rw (same c.args.a c.ranges.a)
    (room-left (after1 (goal.at.put_number-at-requires c).After-put-at) (length (number_text c.args.a)) (omega (arith, c.requires.0, c.requires.1)))

pub put-at-requires-2 : goal.put-at-requires-2
put-at-requires-2 c =
    room-left (after2 (goal.at.put-at-requires-2 c).After-put_number-at) 1
    (simp length-append (omega (arith, c.requires.0, c.requires.1, number-length c.args.a c.ranges.a)))

pub put_number-at-requires-2 : goal.put_number-at-requires-2
put_number-at-requires-2 c =
    rw (same c.args.b c.ranges.b)
    (room-left (after3 (goal.at.put_number-at-requires-2 c).After-put-at-2) (length (number_text c.args.b))
    (simp length-append (omega (arith, c.requires.0, c.requires.1, number-length c.args.a c.ranges.a, number-length c.args.b c.ranges.b))))

pub put-requires : goal.put-requires
put-requires c =
    room-left (after4 (goal.at.put-requires c).After-put_number-at-2) 1
    (simp length-append (omega (arith, c.requires.0, c.requires.1, number-length c.args.a c.ranges.a, number-length c.args.b c.ranges.b)))

pub returns : goal.returns
returns c =
    let p = after5 (goal.at.returns c).After-put in
    (p.count, p.bytes)
