use Rattle.std.proofs.lemmas.Result.{err_from_is_err_and}
use Rattle.std.specs.Prelude.{Ok}
use mathlib.Core.Path.{◌≡◌, sym, ap, ◌∙◌}
use mathlib.Core.Bool.{Bool, not, ◌||◌}
use mathlib.Core.List.{List}
use Prim.Native.Nat.{ℕ}
use lib.IntN.{ℤ}
use mir.Syntax.{w64}
use Rattle.integers.specs.Linear.{read_back}
use Rattle.integers.specs.Tests.{and_intro, not-or-iff}
use Rattle.definitions.specs.declared.Case.{Case}
use Rattle.definitions.specs.Rules.{rules_of}
use Rattle.definitions.specs.Case.{objective, is_assignment, uses_barred}
use Rattle.definitions.specs.Refusals.{first_refusal}
use Rattle.definitions.specs.Answers.{outcome_of}
use Rattle.definitions.specs.Valid.{working_weight, wrong_assignment, value_out, handed_over}
use Rattle.calls.specs.Calls.{objective_answer}
use Rattle.theory.proofs.Validity.{lent-assignment}
use Rattle.tables.proofs.Order.{limited}
use Rattle.tables.proofs.Answered.{answer-refused, answer-given, known}
use Rattle.figures.proofs.objective.Goals as goal
use Rattle.figures.proofs.objective.Goals.{After-check_working}

-- The limits are asked first, as the tuples used are looked at before the ranges. Assumes nothing.
abbrev out : Case → List ℤ → List ℕ → Bool
out c w p = value_out c p || uses_barred c w p

pub returns-then-not-within_limits : goal.returns-then-not-within_limits
unfolding objective_answer
returns-then-not-within_limits c = rw (sym c.within_limits.ensures ∙ c.if-not-within_limits.true)

pub uses_barred-requires : goal.uses_barred-requires
uses_barred-requires c = limited c.args.case (sym c.within_limits.ensures ∙ c.if-not-within_limits.false)

-- what was checked, with the definitions for the arguments
asked : (c : After-check_working) → let a = c.args in
    c.check_working.result ≡ outcome_of (first_refusal (handed_over (rules_of a.case) (working_weight (rules_of a.case)) a.case a.table.now
    (wrong_assignment a.case a.assignment.now) (out a.case a.table.now a.assignment.now)))
asked c = rw (c.some_beyond.ensures, c.uses_barred.ensures) at c.check_working.ensures

pub sum_of_used-requires : goal.sum_of_used-requires
sum_of_used-requires c = let a = c.args in
    let w = a.table.now in
    let p = a.assignment.now in
    let (h, right, inside) = known a.case w (wrong_assignment a.case p) (out a.case w p) (sym c.in_ok-check_working.was ∙ asked (goal.at.sum_of_used-requires c).After-check_working) in
    let (values, free) = (not-or-iff (value_out a.case p) (uses_barred a.case w p)).0 inside in
    record { handed = h; t = and_intro (is_assignment a.case p) (not (uses_barred a.case w p)) ((lent-assignment a.case p).0 (right, values)) free }

pub returns-in_err-check_working : goal.returns-in_err-check_working
unfolding objective_answer
returns-in_err-check_working c =
    let a = c.args in
    let w = a.table.now in
    let p = a.assignment.now in
    let q = err_from_is_err_and c.from_residual.result c.from_residual.ensures.1 in
    rw (q.1, q.2) (answer-refused a.case w (wrong_assignment a.case p) (out a.case w p) (objective a.case w p) (sym c.in_err-check_working.was ∙ asked (goal.at.returns-in_err-check_working c).After-check_working))

pub returns : goal.returns
unfolding objective_answer
returns c = let a = c.args in
    let w = a.table.now in
    let p = a.assignment.now in
    ap Ok (read_back w64 c.sum_of_used.result c.sum_of_used.type_inv ∙ c.sum_of_used.ensures)
    ∙ answer-given a.case w (wrong_assignment a.case p) (out a.case w p) (objective a.case w p) (sym c.in_ok-check_working.was ∙ asked (goal.at.returns c).After-check_working)
