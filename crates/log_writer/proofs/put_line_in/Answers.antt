use mathlib.Core.Path.{sym, ap, ◌∙◌}
use Prim.Native.Nat.{◌+◌, ◌≤◌}
use native.Mathlib.Omega.{arith}
use lib.ListN.{length}
use Rattle.definitions.specs.Lines.{line_length}
use Rattle.log_writer.specs.Writers.{put_of}
use Rattle.log_writer.proofs.Puts.{put-past, put_refused, done-room, put-done}
use Rattle.log_writer.proofs.put_line_in.Goals as goal
use Rattle.log_writer.proofs.put_line_in.Goals.{In-Ok}

pub returns-then-out-at : goal.returns-then-out-at
returns-then-out-at c =
    let a = c.args in
    let p = sym (put-past a.width a.out.now a.at a.line c.if-out-at.true) in
    (ap put_of p, ap (λ r. r.out) p)

-- the line had room
room : (c : In-Ok) → let a =
    c.args in a.at + line_length a.width ≤ length a.out.now
room c =
    let a = c.args in
    done-room a.width a.out.now a.at a.line c.if-out-at.false (sym c.in-Ok.is ∙ c.write_line_in.ensures.0)

pub overflow_add-result : goal.overflow_add-result
overflow_add-result c = record { fits = omega (arith, room c) }

pub overflow_add-result-in-Ok : goal.overflow_add-result-in-Ok
overflow_add-result-in-Ok c = record { fits = omega (arith, room c) }

pub returns-in-Err : goal.returns-in-Err
returns-in-Err c =
    let a = c.args in
    put_refused a.width a.out.now a.at a.line c.if-out-at.false c.write_line_in.new.out
    (sym c.in-Err.is ∙ c.write_line_in.ensures.0) c.write_line_in.ensures.1

pub returns-in-Ok : goal.returns-in-Ok
returns-in-Ok c =
    let a = c.args in
    put-done a.width a.out.now a.at a.line c.if-out-at.false c.write_line_in.new.out
    (sym c.in-Ok.is ∙ c.write_line_in.ensures.0) c.write_line_in.ensures.1
