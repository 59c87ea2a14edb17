-- A line put at any width, what is answered, and what a log writer is after a line. Assumes nothing.
use Rattle.std.specs.Prelude.{List, ℕ, ◌-◌, length}
use denote.Ref.{at_last}
use Rattle.definitions.specs.declared.Line.{Line}
use Rattle.definitions.specs.declared.Rulebook.TheVariants.{Desk}
use Rattle.definitions.specs.Rules.{rules_in}
use Rattle.calls.specs.Calls.{WriterCall, line_put, put_line_call}
use Rattle.lines.specs.AtWidth.{write_refusal_at}
use Rattle.log_writer.specs.declared.LogWriter.{LogWriter}
use Rattle.log_writer.specs.declared.Put.{Put}

-- a line put at a position, with an amount column of any width
unfoldable pub put_line_in : ℕ → List ℕ → ℕ → Line → WriterCall
put_line_in width out at l = line_put width out at l (write_refusal_at width (length out - at) l)

-- the answer, and the position after it
abbrev pub put_of : WriterCall → Put
put_of c = record { answer = c.answer; at = c.at }

-- the same borrow, with the bytes after the line, and the position after it. `at_last x l` is the reference x, with its pointer and its ghost
-- name, at the list l
abbrev pub written_to : LogWriter → Line → LogWriter
written_to w l = record {
  out = at_last w.out (put_line_call (rules_in Desk) w.out.now w.at l).out;
  at = (put_line_call (rules_in Desk) w.out.now w.at l).at;
}
