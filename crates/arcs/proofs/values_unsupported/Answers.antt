use Rattle.std.proofs.lemmas.Result.{err_from_is_err_and}
use mathlib.Core.Path.{◌≡◌, sym, ap, ◌∙◌}
use Prim.Native.Nat.{◌≤◌, ◌<◌}
use lib.ListN.{length}
use Rattle.std.specs.Prelude.{Ok}
use Rattle.definitions.specs.Rules.{rules_of}
use Rattle.definitions.specs.Answers.{outcome_of}
use Rattle.definitions.specs.Case.{scope_count}
use Rattle.arcs.specs.Active.{Sized}
use Rattle.arcs.specs.Best.{best_refusal}
use Rattle.arcs.proofs.Best.{answer-refused, answer-given, best-arguments-known}
use Rattle.arcs.proofs.values_unsupported.Goals as goal
use Rattle.arcs.proofs.values_unsupported.Goals.{In_ok-check_arguments}

-- what is known where none of the numbers applies
right : (c : In_ok-check_arguments) → let a = c.args in (Ok tt) ≡ outcome_of
    (best_refusal (rules_of a.case) a.case a.table.now a.best.now a.raised.now a.variable)
right c = sym c.in_ok-check_arguments.was ∙ c.check_arguments.ensures

known : (c : In_ok-check_arguments) → let a = c.args in
    Sized a.case a.table.now × ((scope_count a.case ≤ length a.best.now) × (scope_count a.case ≤ length a.raised.now))
    × (a.variable < a.case.n)
known c = let a = c.args in best-arguments-known a.case a.table.now a.best.now a.raised.now a.variable
    (right c)

pub are_unsupported-requires : goal.are_unsupported-requires
are_unsupported-requires c = record { sized = (known c).0; case_in_bounds = (known c).1 }

pub returns-in_err-check_arguments : goal.returns-in_err-check_arguments
returns-in_err-check_arguments c =
    let a = c.args in
    let p = err_from_is_err_and c.from_residual.result c.from_residual.ensures.1 in
    rw (p.1, p.2) (answer-refused a.case a.table.now a.best.now a.raised.now a.variable
    (sym c.in_err-check_arguments.was ∙ c.check_arguments.ensures) a.values)

pub returns : goal.returns
returns c =
    let a = c.args in
    ap Ok c.are_unsupported.ensures
    ∙ answer-given a.case a.table.now a.best.now a.raised.now a.variable (right (goal.at.returns c).In_ok-check_arguments) a.values
