use Rattle.std.specs.Prelude.{Ok}
use mathlib.Core.Path.{sym, ap, ◌∙◌}
use native.Mathlib.Omega.{arith}
use Rattle.definitions.specs.declared.Judgement.{Judgement}
use Rattle.definitions.specs.Programs.{judgement_text}
use Rattle.texts.specs.Texts.{write_void_call}
use Rattle.texts.proofs.Placed.{placed_first}
use Rattle.texts.proofs.Answers.{text-short, text-printed}
use Rattle.texts.proofs.write_void.Goals as goal

-- The room and the text. Assumes nothing.
pub returns-then-out-lt-ROOM : goal.returns-then-out-lt-ROOM
unfolding write_void_call
returns-then-out-lt-ROOM c =
    let e = sym (text-short c.args.out.now 0 (judgement_text (Ok Judgement.Void)) c.if-out-lt-ROOM.true) in
    (ap (λ r. r.answer) e, ap (λ r. r.out) e)

pub returns : goal.returns
unfolding write_void_call
returns c =
    let out = c.args.out.now in
    text-printed out 0 (judgement_text (Ok Judgement.Void)) (omega arith) (omega arith) c.put.ensures.0
    (c.put.ensures.1 ∙ placed_first (judgement_text (Ok Judgement.Void)) out)
