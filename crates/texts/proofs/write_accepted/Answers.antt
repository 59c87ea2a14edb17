use mathlib.Core.Path.{sym, ap, ap₂, ◌∙◌}
use native.Mathlib.Omega.{arith}
use lib.IntN.{ℤ}
use lib.ListN.{length}
use mir.Syntax.{w64}
use mir.ValLaws.{to_z_pos}
use Rattle.definitions.specs.Programs.{bytes_of, accepted_text}
use Rattle.definitions.specs.Lines.{overwritten}
use Rattle.lines.proofs.Signs.{same}
use Rattle.texts.specs.Texts.{printed, write_accepted_call}
use Rattle.texts.proofs.Answers.{text-short, text-great, text-printed}
use Rattle.texts.proofs.write_accepted.Goals as goal

-- The room, the count, and the text. Assumes nothing.
pub returns-then-out-lt-ROOM : goal.returns-then-out-lt-ROOM
unfolding write_accepted_call
returns-then-out-lt-ROOM c =
    let e = sym (text-short c.args.out.now c.args.rounds (accepted_text c.args.rounds c.args.bound) c.if-out-lt-ROOM.true) in
    (ap (λ r. r.answer) e, ap (λ r. r.out) e)

pub returns-then-rounds-gt-GREATEST : goal.returns-then-rounds-gt-GREATEST
unfolding write_accepted_call
returns-then-rounds-gt-GREATEST c =
    let e = sym (text-great c.args.out.now c.args.rounds (accepted_text c.args.rounds c.args.bound) c.if-out-lt-ROOM.false c.if-rounds-gt-GREATEST.true) in
    (ap (λ r. r.answer) e, ap (λ r. r.out) e)

pub returns : goal.returns
unfolding write_accepted_call
returns c =
    let a = to_z_pos w64 c.args.rounds (omega arith) in
    let b = same c.args.bound c.ranges.bound in
    text-printed c.args.out.now c.args.rounds (accepted_text c.args.rounds c.args.bound) (omega arith) (omega arith)
    (c.print.ensures.0 ∙ ap₂ (λ (a b : ℤ). length (printed (bytes_of "accepted ") a b)) a b)
    (c.print.ensures.1 ∙ ap₂ (λ (a b : ℤ). overwritten (printed (bytes_of "accepted ") a b) c.args.out.now) a b)
