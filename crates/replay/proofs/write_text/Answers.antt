use mathlib.Core.Path.{sym, subst, ◌∙◌}
use mathlib.Core.Logic.{◌⊎◌}
use mathlib.Core.List.{List}
use Prim.Native.Nat.{◌-◌, ◌≤◌}
use native.Mathlib.Omega.{arith}
use lib.IntN.{ℤ}
use lib.Dec.{T}
use lib.ListN.{length, take}
use Rattle.definitions.specs.declared.Rulebook.TheVariants.{Desk}
use Rattle.definitions.specs.Rules.{rules_in}
use Rattle.definitions.specs.CaseFiles.{case_size}
use Rattle.definitions.specs.Programs.{table_for}
use Rattle.streams.specs.Streams.{is_over}
use Rattle.definitions.specs.Places.{longest_case}
use Rattle.replay.specs.Turns.{desk_line, Judges}
use Rattle.replay.proofs.Printing.{enough-read, failed-prints, judges-prints}
use Rattle.replay.proofs.write_text.Goals as goal
use Rattle.replay.proofs.write_text.Given.{Over}
use Rattle.replay.proofs.write_text.Goals.{After-judge_input-state}

-- What the loop judges is a cut of the whole input. Assumes nothing.
-- the front was read, and what the judging of the input gave
enough : (g : Over) (j : After-judge_input-state g) → let a = j.args in
    (longest_case (rules_in Desk) ≤ length (take a.filled.to a.buf.now)) ⊎ T (is_over a.filled)
enough g j =
    enough-read j.args.buf.now j.args.filled j.requires.to_in_bounds.0 j.requires.buf_len.0 j.requires.to_in_bounds.1

judged : (g : Over) (j : After-judge_input-state g) → let a = j.args in let front = take a.filled.to a.buf.now in
    Judges (length a.buf.now - desk_line) front (table_for (case_size Desk front)) a.filled j.judge_input-state.result j.judge_input-state.new.table
judged g j =
    let a = j.args in
    subst (λ (w : List ℤ). Judges (length a.buf.now - desk_line) (take a.filled.to a.buf.now) w a.filled j.judge_input-state.result
    j.judge_input-state.new.table)
    j.requires.table_value j.judge_input-state.ensures

pub returns-then-is_failed : goal.returns-then-is_failed
returns-then-is_failed g c =
    failed-prints (enough g (goal.at.returns-then-is_failed g c).After-judge_input-state) (judged g (goal.at.returns-then-is_failed g c).After-judge_input-state) (subst T (sym c.if-is_failed.true ∙ c.is_failed.ensures) tt)
    c.args.text.now

pub returns : goal.returns
returns g c =
    let long = c.requires.buf_len.0 in
    let fits = c.requires.buf_len.1 in
    judges-prints (enough g (goal.at.returns g c).After-judge_input-state) (judged g (goal.at.returns g c).After-judge_input-state) (omega arith) (sym c.is_failed.ensures ∙ c.if-is_failed.false) c.args.text.now fits c.finish.ensures
