use mathlib.Core.Path.{◌≡◌, sym, ◌∙◌}
use mathlib.Core.Bool.{false}
use native.Mathlib.Omega.{arith}
use Rattle.lines.specs.AtWidth.{width_out}
use Rattle.lines.proofs.Answers.{read-width, read_length}
use Rattle.lines.proofs.RaiseTexts.{raised-none, raised-some, raised-read}
use Rattle.lines.proofs.raised_scope.Goals as goal
use Rattle.lines.proofs.raised_scope.Goals.{Else-width_out}

pub returns-then-width_out : goal.returns-then-width_out
returns-then-width_out c = let a = c.args in
    raised-none a.width a.bytes.now (read-width a.width a.bytes.now (sym c.width_out.ensures ∙ c.if-width_out.true))

-- the width is not out
width-in : (c : Else-width_out) → width_out c.args.width ≡ false
width-in c = sym c.width_out.ensures ∙ c.if-width_out.false

pub returns-then-bytes-width : goal.returns-then-bytes-width
returns-then-bytes-width c = let a = c.args in
    raised-none a.width a.bytes.now (read_length a.width a.bytes.now (width-in (goal.at.returns-then-bytes-width c).Else-width_out) (λ e. c.if-bytes-width.true (omega arith)))

pub returns-then-x-lt-NONE : goal.returns-then-x-lt-NONE
returns-then-x-lt-NONE c = let a = c.args in
    raised-some a.width a.bytes.now (width-in (goal.at.returns-then-x-lt-NONE c).Else-width_out) (c.quick_scope-x.ensures a.width c.if-bytes-width.false c.if-x-lt-NONE.true)

pub returns : goal.returns
returns c = let a = c.args in
    raised-read a.width a.bytes.now c.scope_of.ensures c.read_line_in.ensures
