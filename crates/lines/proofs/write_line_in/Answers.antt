use mathlib.Core.Path.{◌≡◌, sym, ap, ◌∙◌}
use mathlib.Core.Bool.{false}
use Prim.Native.Nat.{◌+◌}
use lib.Dec.{ltb}
use lib.ListN.{length}
use Rattle.lines.specs.AtWidth.{line_out}
use Rattle.lines.proofs.Answers.{write-short, write-wide, write_done}
use Rattle.lines.proofs.write_line_in.Goals as goal
use Rattle.lines.proofs.write_line_in.Goals.{Else-is_short, Else-line_out}

pub returns-then-is_short : goal.returns-then-is_short
returns-then-is_short c =
    let a = c.args in
    let p = sym (write-short a.width a.out.now a.line (sym c.is_short.ensures ∙ c.if-is_short.true)) in
    (ap (λ r. r.answer) p, ap (λ r. r.out) p)

-- the output has room for a line
room : (c : Else-is_short) → let a = c.args in ltb (length a.out.now) (15 + a.width) ≡ false
room c = sym c.is_short.ensures ∙ c.if-is_short.false

pub returns-then-line_out : goal.returns-then-line_out
returns-then-line_out c =
    let a = c.args in
    let p = sym (write-wide a.width a.out.now a.line (room (goal.at.returns-then-line_out c).Else-is_short) (sym c.line_out.ensures ∙ c.if-line_out.true)) in
    (ap (λ r. r.answer) p, ap (λ r. r.out) p)

-- the line is not out
line-in : (c : Else-line_out) → let a = c.args in line_out a.width a.line ≡ false
line-in c = sym c.line_out.ensures ∙ c.if-line_out.false

pub returns : goal.returns
returns c =
    let a = c.args in
    let p = sym (write_done a.width a.out.now a.line (room (goal.at.returns c).Else-is_short) (line-in (goal.at.returns c).Else-line_out)) in
    (ap (λ r. r.answer) p, c.put_line.ensures ∙ ap (λ r. r.out) p)
