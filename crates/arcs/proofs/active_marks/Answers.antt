use Rattle.std.proofs.lemmas.Result.{err_from_is_err_and}
use Rattle.std.specs.Prelude.{Ok}
use mathlib.Core.Path.{◌≡◌, sym, ap, ◌∙◌}
use mathlib.Core.Bool.{Bool}
use borrow.Author.Rules.{rules}
use Prim.Native.Nat.{◌*◌, ◌≤◌}
use lib.ListN.{length}
use Rattle.definitions.specs.Rules.{rules_of}
use Rattle.definitions.specs.Answers.{outcome_of}
use Rattle.definitions.specs.Case.{scope_count}
use Rattle.arcs.specs.Active.{Sized, too_short, length_refusal, marks_refusal}
use Rattle.arcs.proofs.Prepared.{marks-refused, marks-done, marks-asked}
use Rattle.arcs.proofs.active_marks.Goals as goal
use Rattle.arcs.proofs.active_marks.Goals.{After-check_lengths, In_ok-check_lengths, then-too_few, else-too_few}

-- what was asked
asked : (c : After-check_lengths) → let a = c.args in
    c.check_lengths.result ≡ outcome_of (marks_refusal (rules_of a.case) a.case a.table.now a.best.now a.sets.now a.rows.now)
asked c =
    let a = c.args in
    let wrong : c.if-too_few.wrong ≡ too_short a.case a.best.now a.sets.now a.rows.now =
    elim c.if-too_few.branch [ then-too_few w ↦ search rules | else-too_few w ↦ search rules ] in
    c.check_lengths.ensures
    ∙ ap (λ (b : Bool). outcome_of (length_refusal (rules_of a.case) a.case a.table.now b))
    wrong

done : (c : In_ok-check_lengths) → let a = c.args in
    Ok tt ≡ outcome_of (marks_refusal (rules_of a.case) a.case a.table.now a.best.now a.sets.now a.rows.now)
done c = sym c.in_ok-check_lengths.was ∙ asked (goal.at.In_ok-check_lengths c).After-check_lengths

known : (c : In_ok-check_lengths) → let a = c.args in
    Sized a.case a.table.now × (scope_count a.case ≤ length a.best.now) × (a.case.n ≤ length a.sets.now)
    × (16 * a.case.m ≤ length a.rows.now)
known c = let a = c.args in marks-asked a.case a.table.now a.best.now a.sets.now a.rows.now (done c)

pub write_sets-requires : goal.write_sets-requires
write_sets-requires c = let k = known (goal.at.write_sets-requires c).In_ok-check_lengths in record { sized = k.0; case_in_bounds = (k.1, k.2) }

pub write_rows-requires : goal.write_rows-requires
write_rows-requires c = let k = known (goal.at.write_rows-requires c).In_ok-check_lengths in record { sized = k.0; case_in_bounds = (k.1, k.3) }

pub returns-in_err-check_lengths : goal.returns-in_err-check_lengths
returns-in_err-check_lengths c =
    let a = c.args in
    let p = err_from_is_err_and c.from_residual.result c.from_residual.ensures.1 in
    rw (p.1, p.2) (marks-refused a.case a.table.now a.best.now a.sets.now a.rows.now
    (sym c.in_err-check_lengths.was ∙ asked (goal.at.returns-in_err-check_lengths c).After-check_lengths))

pub returns : goal.returns
returns c =
    let a = c.args in
    marks-done a.case a.table.now a.best.now a.sets.now a.rows.now (done (goal.at.returns c).In_ok-check_lengths) _ _ c.write_sets.ensures c.write_rows.ensures
