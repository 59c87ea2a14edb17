use Rattle.std.proofs.lemmas.Result.{err_from_is_err_and}
use mathlib.Core.Path.{◌≡◌, sym, ap, ◌∙◌}
use Prim.Native.Nat.{◌≤◌, ◌<◌}
use lib.IntN.{ℤ, pos}
use lib.ListN.{length, get_or}
use mir.Syntax.{w64}
use Rattle.std.specs.Prelude.{Ok}
use Rattle.integers.specs.Linear.{read_back}
use Rattle.definitions.specs.Rules.{rules_of}
use Rattle.definitions.specs.Answers.{outcome_of}
use Rattle.definitions.specs.Case.{scope_count}
use Rattle.arcs.specs.Active.{Sized, set_where, has_weight, has_best}
use Rattle.arcs.specs.Best.{are_unsupported, best_refusal}
use Rattle.arcs.proofs.Best.{answer-refused, answer-given, best-arguments-known}
use borrow.Author.Rules.{rules}
use Rattle.arcs.proofs.best_unsupported.Goals as goal
use Rattle.arcs.proofs.best_unsupported.Goals.{In_ok-check_arguments}

-- what is known where none of the numbers applies
right : (c : In_ok-check_arguments) → let a = c.args in (Ok tt) ≡ outcome_of
    (best_refusal (rules_of a.case) a.case a.table.now a.best.now a.raised.now a.variable)
right c = sym c.in_ok-check_arguments.was ∙ c.check_arguments.ensures

known : (c : In_ok-check_arguments) → let a = c.args in
    Sized a.case a.table.now × ((scope_count a.case ≤ length a.best.now) × (scope_count a.case ≤ length a.raised.now))
    × (a.variable < a.case.n)
known c = let a = c.args in best-arguments-known a.case a.table.now a.best.now a.raised.now a.variable
    (right c)

pub set_with-values-requires : goal.set_with-values-requires
set_with-values-requires c =
    let h = known (goal.at.set_with-values-requires c).In_ok-check_arguments in
    record { sized = h.0; j_lt_n = h.2 }

pub are_unsupported-requires : goal.are_unsupported-requires
are_unsupported-requires c = record { sized = (known (goal.at.are_unsupported-requires c).In_ok-check_arguments).0; case_in_bounds = (known (goal.at.are_unsupported-requires c).In_ok-check_arguments).1 }

pub returns-in_err-check_arguments : goal.returns-in_err-check_arguments
returns-in_err-check_arguments c =
    let a = c.args in
    let p = err_from_is_err_and c.from_residual.result c.from_residual.ensures.1 in
    rw (p.1, p.2) (answer-refused a.case a.table.now a.best.now a.raised.now a.variable
    (sym c.in_err-check_arguments.was ∙ c.check_arguments.ensures)
    (set_where a.case (has_best a.case a.table.now a.best.now) a.variable))

pub returns : goal.returns
returns c =
    let a = c.args in
    ap Ok
    (c.are_unsupported.ensures
    ∙ ap (are_unsupported a.case a.table.now a.best.now a.raised.now a.variable)
    (c.set_with-values.ensures
    ∙ ap (λ (b : ℤ). set_where a.case (has_weight a.case a.table.now b) a.variable)
    (read_back w64 (get_or a.best.now a.variable (pos 0)) (search rules))))
    ∙ answer-given a.case a.table.now a.best.now a.raised.now a.variable (right (goal.at.returns c).In_ok-check_arguments)
    (set_where a.case (has_best a.case a.table.now a.best.now) a.variable)
