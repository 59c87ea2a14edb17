-- The case is read, and then its bytes are kept. Assumes nothing.
use mathlib.Core.Path.{ap, ◌∙◌}
use Rattle.definitions.specs.declared.CaseRead.{CaseRead}
use Rattle.definitions.specs.Answers.{file_says}
use Rattle.checker_library.specs.Answers.{lines_of}
use Rattle.checker_library.specs.Calls.{case_after, read_call}
use Rattle.checker_library.proofs.ceiling_read_case.Goals as goal

pub returns : goal.returns
unfolding read_call
returns c =
    let (p, q) = c.read_case_alone-read.ensures in (
      c.lines_of.ensures ∙ ap (λ (x : CaseRead). lines_of (file_says x.answer)) p,
      c.keep_case.ensures ∙ ap (λ (x : CaseRead). case_after x.answer x c.args.case.now) p,
      q,
    )
