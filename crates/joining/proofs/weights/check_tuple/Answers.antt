use mathlib.Core.Path.{refl, ap, ap₂, ◌∙◌}
use mathlib.Core.Bool.{Bool, not, ◌&&◌}
use Prim.Native.Nat.{ℕ, ◌+◌, ◌*◌}
use native.Mathlib.Omega.{arith}
use lib.Dec.{eqb}
use Rattle.definitions.specs.Refusals.{first_refusal}
use Rattle.definitions.specs.Answers.{outcome_of}
use Rattle.joining.specs.Steps.{placed_tests}
use Rattle.case_lines.specs.declared.Awaited.TheVariants.{EdgeWeight}
use Rattle.joining.proofs.Rooms.{place-fits, read-tuple}
use Rattle.joining.proofs.Lines.{edge-rest}
use Rattle.joining.proofs.weights.check_tuple.Goals as goal

pub check_placed-requires : goal.check_placed-requires
check_placed-requires c = let a = c.args in
    let due = EdgeWeight a.e a.k a.l in (
      omega arith,
      omega (
        arith,
        c.own_length.ensures,
        place-fits c.requires.placed due c.requires.e_lt_edges,
        read-tuple a.case a.edges due a.e a.k a.l refl,
      ),
    )

pub returns : goal.returns
returns c = λ lower.
    let a = c.args in
    let d = a.case.d in
    c.check_placed.ensures
    ∙ ap₂ (λ (b : Bool) (own : ℕ). outcome_of (first_refusal (placed_tests a.case.rulebook a.starting.now (not b)
    (eqb (a.k + 1) d && eqb (a.l + 1) d) (a.k * d + a.l) (own + (d + (a.e * (d * d) + (a.k * d + a.l)))) a.line)))
    c.names_tuple-named.ensures c.own_length.ensures
    ∙ ap outcome_of (edge-rest a.starting.now c.requires.placed lower a.line a.e a.k a.l c.requires.e_lt_edges.0 c.requires.e_lt_edges.1 c.requires.e_lt_edges.2)
