use mathlib.Core.Path.{ap}
use Rattle.texts.specs.Texts.{write_judgement_call}
use Rattle.texts.proofs.Answers.{same-written}
use Rattle.judging.specs.Judging.{finish_judging}
use Rattle.judging.proofs.finish.Goals as goal

pub returns : goal.returns
unfolding finish_judging
returns c =
    same-written (ap (write_judgement_call c.args.out.now) c.judge.ensures) c.write_judgement.ensures
