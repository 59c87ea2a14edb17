-- A fresh record, and then its bytes. Assumes nothing.
use Rattle.definitions.specs.Answers.{outcome_says}
use mathlib.Core.Path.{ap, ◌∙◌}
use Rattle.definitions.specs.Rules.{rules_of}
use Rattle.definitions.specs.declared.Case.{Case}
use Rattle.checker.specs.declared.Replay.{Replay}
use Rattle.checker.specs.Checker.{fresh_replay}
use Rattle.encoding.specs.RecordBytes.{record_bytes}
use Rattle.checker_library.specs.Calls.{start_record}
use Rattle.checker_library.proofs.ceiling_replay_start.Goals as goal

pub returns : goal.returns
unfolding start_record
returns c =
    let e = c.fresh-replay.ensures ∙ ap (λ (x : Case). fresh_replay (rules_of x) x c.args.table.now) c.case_of.ensures in
    (c.outcome_number.ensures ∙ ap (λ (p : Replay). (outcome_says p.standing).number) e, c.write_record.ensures ∙ ap record_bytes e)
