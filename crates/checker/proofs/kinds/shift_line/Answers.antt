use mathlib.Core.Path.{refl}
use Rattle.definitions.specs.Rules.{rules_of}
use Rattle.definitions.specs.Refusals.{first_refusal}
use Rattle.checker.specs.Checker.{of_shift}
use Rattle.checker.specs.Taken.{good_replay}
use Rattle.checker.proofs.Taking.{change-refused, change-done, taken_refused, taken-done}
use Rattle.checker.proofs.kinds.shift_line.Goals as goal

pub returns-in-Err : goal.returns-in-Err
returns-in-Err c = record {
  by_index = λ raised. let a = c.args in let w = a.table.now in
      let p = good_replay a.progress raised in
      let k = of_shift (rules_of a.case) a.case w p a.line in
      let (d, e) = c.shift_made-made.ensures.value p in
      let (f, u) = change-refused (first_refusal k.later) k.table w d e c.in-Err.is in
      taken_refused c.refused.result _ w raised k c.refused.ensures u f;
  best_of_2 = c.shift_made-made.ensures.best_of_2;
}

pub returns-in-Ok : goal.returns-in-Ok
returns-in-Ok c = record {
  by_index = λ raised. let a = c.args in let w = a.table.now in
      let p = good_replay a.progress raised in
      let k = of_shift (rules_of a.case) a.case w p a.line in
      let (d, e) = c.shift_made-made.ensures.value p in
      let (f, u) = change-done (first_refusal k.later) k.table w d e c.in-Ok.is in
      taken-done c.after_move.result _ w raised p k c.after_move.ensures u refl f;
  best_of_2 = c.shift_made-made.ensures.best_of_2;
}
