use mathlib.Core.Path.{sym, ap, ap₂, ◌∙◌}
use mathlib.Core.List.{List}
use Prim.Native.Nat.{ℕ}
use lib.IntN.{ℤ}
use Rattle.definitions.specs.Refusals.{first_refusal}
use Rattle.checker.specs.Checker.{step_by}
use Rattle.checker.specs.Taken.{step_of, last_asked, good_replay}
use Rattle.checker.proofs.Taking.{change-refused, change-done, taken_refused, put_back, cleared}
use Rattle.checker.proofs.presses.last_raise.Goals as goal

pub returns-in-Err : goal.returns-in-Err
returns-in-Err c = let a = c.args in let w = a.table.now in let r = a.raised.now in
    let p = good_replay a.progress r in
    let k = last_asked a.case w p a.variable a.target a.x in
    let (f, u) = change-refused (first_refusal k.later) k.table w c.target_whole-made.ensures.value.0 c.target_whole-made.ensures.value.1
    c.in-Err.is in
    let v = c.target_whole-made.new.table in record {
      table_after = ap (λ (l : List ℕ). step_of c.refused.result l v) (put_back r a.x 1)
          ∙ taken_refused c.refused.result v w r k c.refused.ensures u f;
      best_of_2 = c.target_whole-made.ensures.best_of_2;
    }

pub returns-in-Ok : goal.returns-in-Ok
returns-in-Ok c = let a = c.args in
    let w = a.table.now in let r = a.raised.now in
    let p = good_replay a.progress r in
    let k = last_asked a.case w p a.variable a.target a.x in
    let (f, u) = change-done (first_refusal k.later) k.table w c.target_whole-made.ensures.value.0 c.target_whole-made.ensures.value.1
    c.in-Ok.is in
    let n = cleared r a.x c.fill.new.self c.requires.raised_len.0 (c.fill.ensures.after (λ y e. e)) in record {
      table_after = ap₂ (λ (l : List ℕ) (v : List ℤ). step_of c.after_target.result l v) n u ∙ c.after_target.ensures r k.table
          ∙ ap (step_by w p k) (sym f);
      best_of_2 = c.target_whole-made.ensures.best_of_2;
    }
