use Rattle.std.proofs.lemmas.Result.{err_from_is_err_and}
use Rattle.std.specs.Prelude.{Ok}
use mathlib.Core.Path.{◌≡◌, sym, ◌∙◌}
use mathlib.Core.Bool.{false}
use mathlib.Core.List.{◌∷◌}
use lib.Seq.{length-take-le}
use Rattle.definitions.specs.Rules.{rules_of}
use Rattle.definitions.specs.Refusals.{first_refusal}
use Rattle.definitions.specs.Answers.{outcome_of}
use Rattle.definitions.specs.Valid.{limit_test, edge_tests}
use Rattle.theory.proofs.Shape.{Shape}
use Rattle.tables.specs.Scopes.{Limited}
use Rattle.graphs.proofs.Checked.{checked, acyclic-refused, acyclic-given}
use Rattle.graphs.proofs.is_acyclic.Goals as goal
use Rattle.graphs.proofs.is_acyclic.Goals.{In_ok-check_edges}

-- no number applies
done : (c : In_ok-check_edges) → let a = c.args in
    Ok tt ≡ outcome_of (first_refusal (limit_test (rules_of a.case) a.case ∷ edge_tests (rules_of a.case) a.case false))
done c = sym c.in_ok-check_edges.was ∙ c.check_edges.ensures

known : (c : In_ok-check_edges) → let a = c.args in Shape a.case × Limited a.case
known c = checked c.args.case (done c)

pub join_edges-requires : goal.join_edges-requires
join_edges-requires c =
    let (shape, limits) = known (goal.at.join_edges-requires c).In_ok-check_edges in
    record { shape = shape; limited = limits; labels_len = length-take-le _ _ limits.variables-placed }

pub returns-in_err-check_edges : goal.returns-in_err-check_edges
returns-in_err-check_edges c =
    let p = err_from_is_err_and c.from_residual.result c.from_residual.ensures.1 in
    rw (p.1, p.2) (acyclic-refused c.args.case (sym c.in_err-check_edges.was ∙ c.check_edges.ensures))

pub returns : goal.returns
returns c = acyclic-given c.args.case (done (goal.at.returns c).In_ok-check_edges) c.join_edges.ensures
