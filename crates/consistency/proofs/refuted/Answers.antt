use Rattle.std.proofs.lemmas.Result.{err_from_is_err_and}
use mathlib.Core.Path.{◌≡◌, sym, ap, subst, ◌∙◌}
use mathlib.Core.Bool.{not}
use Prim.Native.Nat.{ℕ, ◌≤◌, ◌<◌}
use native.Mathlib.Omega.{arith}
use lib.Dec.{eqb}
use lib.ListN.{length, get_or}
use Rattle.definitions.specs.Rules.{rules_of, edge_places, scope_places}
use Rattle.definitions.specs.Refusals.{first_refusal}
use Rattle.definitions.specs.Answers.{outcome_of}
use Rattle.definitions.specs.Case.{scope_count}
use Rattle.definitions.specs.Valid.{working_weight, handed_over}
use Rattle.definitions.specs.Consistency.{refuted as refuted_value}
use Rattle.calls.specs.Calls.{is_marked, refuted_answer}
use Rattle.theory.proofs.Validity.{Handed}
use Rattle.tables.specs.Scopes.{BestOf}
use Rattle.tables.proofs.Answered.{limits-known, answer-refused, answer-given}
use Rattle.tables.proofs.Best.{greatest-known}
use Rattle.consistency.specs.Arguments.{arguments_out}
use Rattle.consistency.proofs.Arguments.{arguments-known}
use Rattle.arcs.specs.Best.{values_unsupported_answer}
use Rattle.arcs.proofs.Best.{value-unsupported-is-refuted, bytes-raised}
use borrow.Author.Rules.{rules}
use Rattle.consistency.proofs.refuted.Goals as goal
use Rattle.consistency.proofs.refuted.Goals.{After-check_working, After-greatest_weights, In_ok-check_working, Start}

-- what was checked, with the definitions for the arguments
asked : (c : After-check_working) → let a = c.args in
    c.check_working.result ≡ outcome_of (first_refusal (handed_over (rules_of a.case) (working_weight (rules_of a.case)) a.case a.table.now
    (not (eqb (length a.raised.now) (scope_count a.case))) (arguments_out a.case a.raised.now a.variable a.value)))
asked c = rw (c.other_length-wrong.ensures, c.arguments_out-out.ensures) at c.check_working.ensures

known : (c : In_ok-check_working) → let a = c.args in
    Handed (rules_of a.case) (working_weight (rules_of a.case)) a.case a.table.now
    × ((length a.raised.now ≡ scope_count a.case) × ((x : ℕ) → x < scope_count a.case → get_or a.raised.now x 0 ≤ 1) × (a.variable < a.case.n)
    × (a.value < a.case.d))
known c =
    let a = c.args in
    arguments-known a.case a.table.now a.raised.now a.variable a.value (sym c.in_ok-check_working.was ∙ asked (goal.at.In_ok-check_working c).After-check_working)

best-known : (c : After-greatest_weights) → let a = c.args in
    BestOf a.case a.table.now c.greatest_weights.new.best
best-known c =
    let a = c.args in
    let h = (known (goal.at.After-greatest_weights c).In_ok-check_working).0 in
    let room : scope_count a.case ≤ scope_places = omega (arith, (limits-known h).scopes-placed) in
    subst (BestOf a.case a.table.now) (sym c.greatest_weights.ensures.1) (greatest-known _ h room).1

ends : (c : Start) → (length c.args.case.lower ≡ edge_places) × (length c.args.case.upper ≡ edge_places)
ends c = (search rules, search rules)

pub returns-in_err-check_working : goal.returns-in_err-check_working
unfolding refuted_answer
returns-in_err-check_working c =
    let a = c.args in
    let p = err_from_is_err_and c.from_residual.result c.from_residual.ensures.1 in
    rw (p.1, p.2) (answer-refused a.case a.table.now (not (eqb (length a.raised.now) (scope_count a.case)))
    (arguments_out a.case a.raised.now a.variable a.value)
    (refuted_value a.case a.table.now (is_marked a.raised.now) a.variable a.value)
    (sym c.in_err-check_working.was ∙ asked (goal.at.returns-in_err-check_working c).After-check_working))

pub returns : goal.returns
unfolding refuted_answer
returns c =
    let a = c.args in
    let k = known (goal.at.returns c).In_ok-check_working in
    let few = (limits-known k.0).edges_placed in
    let e = ends (goal.at.returns c).Start in
    let best = c.greatest_weights.new.best in
    c.values_unsupported.ensures
    ∙ ap (values_unsupported_answer (rules_of a.case) a.case a.table.now best a.raised.now a.variable) c.only.ensures
    ∙ value-unsupported-is-refuted a.case a.table.now k.0 best (best-known (goal.at.returns c).After-greatest_weights) a.raised.now
    (omega (arith, k.1.0)) (omega arith) (omega arith)
    (is_marked a.raised.now) (λ x u. bytes-raised a.raised.now x (k.1.1 x u)) a.variable a.value k.1.2 k.1.3
    ∙ answer-given a.case a.table.now (not (eqb (length a.raised.now) (scope_count a.case)))
    (arguments_out a.case a.raised.now a.variable a.value)
    (refuted_value a.case a.table.now (is_marked a.raised.now) a.variable a.value)
    (sym c.in_ok-check_working.was
    ∙ asked (goal.at.returns c).After-check_working)
