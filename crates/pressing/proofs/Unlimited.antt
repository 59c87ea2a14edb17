-- `press` never ends by its limit: the rounds that a run can make are fewer, by every rulebook. Assumes nothing.
use Rattle.std.specs.Prelude.{Ok}
use mathlib.Core.Path.{◌≡◌}
use mathlib.Core.List.{List}
use Prim.Native.Nat.{◌≤◌}
use native.Mathlib.Nat.{mul-le-mul}
use native.Mathlib.Omega.{arith}
use lib.IntN.{ℤ}
use Rattle.definitions.specs.declared.Rulebook.{Rulebook}
use Rattle.definitions.specs.declared.Rulebook.TheVariants.{Desk}
use Rattle.definitions.specs.declared.Case.{Case}
use Rattle.definitions.specs.declared.RunAnswer.{RunAnswer}
use Rattle.definitions.specs.Rules.{coherent, rules_in, rules_of}
use Rattle.definitions.specs.Valid.{working_weight}
use Rattle.definitions.specs.Engine.{engine_next, run}
use Rattle.definitions.specs.Programs.{press_limit}
use Rattle.theory.proofs.Validity.{Handed}
use Rattle.reach_theory.specs.Most.{most_rounds}
use Rattle.reach_theory.proofs.Counts.{left-most}
use Rattle.engine_theory.proofs.Engine.{engine-lawful, engine-lessens, run-unlimited}

pub most-few : (b : Rulebook) (c : Case) → c.n ≤ (rules_in b).variables → c.d ≤ (rules_in b).values → c.m ≤ (rules_in b).edges → most_rounds c ≤ press_limit
most-few Desk c n d m = omega (arith, mul-le-mul n d, mul-le-mul m (mul-le-mul d d))

pub press-unlimited : {c : Case} {w : List ℤ} → Handed (rules_of c) (working_weight (rules_of c)) c w
    → (run (rules_of c) engine_next c press_limit w).answer ≡ Ok RunAnswer.Limit → ⊥
press-unlimited {c} {w} h =
    run-unlimited (coherent c.rulebook) (engine-lawful (coherent c.rulebook) c) (engine-lessens (coherent c.rulebook) c) press_limit w h
    (omega (arith, left-most c w, most-few c.rulebook c h.variables-most h.values-most h.edges_most))
