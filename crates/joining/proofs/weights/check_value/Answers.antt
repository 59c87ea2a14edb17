use mathlib.Core.Path.{refl, ap, ap₂, ◌∙◌}
use mathlib.Core.Bool.{Bool, not}
use Prim.Native.Nat.{ℕ, ◌+◌, ◌*◌}
use native.Mathlib.Omega.{arith}
use lib.Dec.{eqb}
use Rattle.definitions.specs.Refusals.{first_refusal}
use Rattle.definitions.specs.Answers.{outcome_of}
use Rattle.joining.specs.Steps.{placed_tests}
use Rattle.case_lines.specs.declared.Awaited.TheVariants.{VariableWeight}
use Rattle.joining.proofs.Rooms.{place-fits, read-value}
use Rattle.joining.proofs.Lines.{variable-rest}
use Rattle.joining.proofs.weights.check_value.Goals as goal

pub check_placed-requires : goal.check_placed-requires
check_placed-requires c = let a = c.args in
    let h = c.requires.i_bound in (
      omega arith,
      omega (
        arith,
        c.own_length.ensures,
        place-fits c.requires.placed (VariableWeight a.i a.k) h,
        read-value a.case a.edges (VariableWeight a.i a.k) a.i a.k refl h.0,
      ),
    )

pub returns : goal.returns
returns c = λ lower.
    let a = c.args in
    c.check_placed.ensures
    ∙ ap₂ (λ (b : Bool) (own : ℕ). outcome_of (first_refusal (placed_tests a.case.rulebook a.starting.now (not b) (eqb (a.k + 1) a.case.d) a.k
    (own + (a.i * a.case.d + a.k)) a.line))) c.names_value-named.ensures c.own_length.ensures
    ∙ ap outcome_of (variable-rest a.starting.now c.requires.placed lower a.line a.i a.k c.requires.i_bound.0 c.requires.i_bound.1)
