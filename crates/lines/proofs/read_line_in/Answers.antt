use mathlib.Core.Path.{◌≡◌, sym, ◌∙◌}
use mathlib.Core.Bool.{false}
use Prim.Native.Nat.{◌+◌, ◌-◌}
use native.Mathlib.Omega.{arith}
use Rattle.lines.specs.AtWidth.{width_out}
use Rattle.lines.proofs.Answers.{read-width, read_length, read-feed, read-columns}
use Rattle.lines.proofs.read_line_in.Goals as goal
use Rattle.lines.proofs.read_line_in.Goals.{Else-width_out}

pub returns-then-width_out : goal.returns-then-width_out
returns-then-width_out c =
    let a = c.args in
    read-width a.width a.bytes.now (sym c.width_out.ensures ∙ c.if-width_out.true)

-- the width is not out
width-in : (c : Else-width_out) → width_out c.args.width ≡ false
width-in c = sym c.width_out.ensures ∙ c.if-width_out.false

pub returns-then-bytes-end : goal.returns-then-bytes-end
returns-then-bytes-end c =
    let a = c.args in
    read_length a.width a.bytes.now (width-in (goal.at.returns-then-bytes-end c).Else-width_out) c.if-bytes-end.true

pub returns-then-bytes-end-ne10 : goal.returns-then-bytes-end-ne10
returns-then-bytes-end-ne10 c =
    let a = c.args in
    read-feed a.width a.bytes.now (width-in (goal.at.returns-then-bytes-end-ne10 c).Else-width_out) c.if-bytes-end.false c.if-bytes-end-ne10.true

pub returns : goal.returns
returns c =
    let a = c.args in
    let n : 14 + a.width - 14 ≡ a.width = omega arith in
    read-columns a.width a.bytes.now (width-in (goal.at.returns c).Else-width_out) c.if-bytes-end.false c.if-bytes-end-ne10.false
    c.read_pair-kind.ensures c.read_narrow-a.ensures c.read_narrow-b.ensures c.read_narrow-c.ensures (rw n at c.read_wide-amount.ensures)
    c.line_of.ensures
