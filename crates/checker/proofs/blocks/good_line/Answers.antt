use mathlib.Core.Path.{refl, sym, ◌∙◌}
use Rattle.checker.specs.Taken.{good_replay}
use Rattle.checker.proofs.Taking.{step-refused, step-missing, step-line}
use Rattle.checker.proofs.blocks.good_line.Goals as goal

pub returns-in-Err : goal.returns-in-Err
returns-in-Err c = let a = c.args in let w = a.table.now in let r = a.raised.now in record {
  table_after = step-refused c.refused.result w w r c.refused.ensures refl
      ∙ sym (step-missing a.case a.bytes.now c.read_line-read.ensures w (good_replay a.progress r) refl c.in-Err.is);
  best_of_2 = c.requires.best_of;
}

pub returns-in-Ok : goal.returns-in-Ok
returns-in-Ok c = let a = c.args in let w = a.table.now in let r = a.raised.now in record {
  table_after = c.good_read.ensures.table_after
      ∙ sym (step-line a.case a.bytes.now c.read_line-read.ensures w (good_replay a.progress r) refl c.in-Ok.is);
  best_of_2 = c.good_read.ensures.best_of_2;
}
