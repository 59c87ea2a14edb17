use mathlib.Core.Path.{sym, ap, ap₂, ◌∙◌}
use native.Mathlib.Omega.{arith}
use lib.IntN.{ℤ, pos}
use lib.ListN.{length}
use mir.Syntax.{w64}
use mir.ValLaws.{to_z_pos}
use Rattle.definitions.specs.Programs.{bytes_of, refused_text}
use Rattle.definitions.specs.Lines.{overwritten}
use Rattle.integers.specs.Linear.{read_back}
use Rattle.texts.specs.Texts.{printed, write_refused_call}
use Rattle.texts.proofs.Answers.{text-short, text-great, text-printed}
use Rattle.texts.proofs.write_refused.Goals as goal

-- The room, the count, and the text. Assumes nothing.
pub returns-then-out-lt-ROOM : goal.returns-then-out-lt-ROOM
unfolding write_refused_call
returns-then-out-lt-ROOM c =
    let e = sym (text-short c.args.out.now c.args.line (refused_text c.args.refusal c.args.line) c.if-out-lt-ROOM.true) in
    (ap (λ r. r.answer) e, ap (λ r. r.out) e)

pub returns-then-count-gt-GREATEST : goal.returns-then-count-gt-GREATEST
unfolding write_refused_call
returns-then-count-gt-GREATEST c =
    let e = sym (text-great c.args.out.now c.args.line (refused_text c.args.refusal c.args.line) c.if-out-lt-ROOM.false c.if-count-gt-GREATEST.true) in
    (ap (λ r. r.answer) e, ap (λ r. r.out) e)

pub returns : goal.returns
unfolding write_refused_call
returns c =
    let n = c.number_of in
    let v = c.from in
    let a = read_back w64 v.result v.type_inv ∙ v.ensures ∙ ap pos n.ensures in
    let b = to_z_pos w64 c.args.line (omega arith) in
    text-printed c.args.out.now c.args.line (refused_text c.args.refusal c.args.line) (omega arith) (omega arith)
    (c.print.ensures.0 ∙ ap₂ (λ (a b : ℤ). length (printed (bytes_of "refused ") a b)) a b)
    (c.print.ensures.1 ∙ ap₂ (λ (a b : ℤ). overwritten (printed (bytes_of "refused ") a b) c.args.out.now) a b)
