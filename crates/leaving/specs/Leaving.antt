-- A link leaves, on all input: what is answered, and what is left of the case and of both tables. Assumes nothing.
use Rattle.std.specs.Prelude.{not, List, ◌∷◌, ℕ, ℤ, ltb, Result, Option, ⊤}
use Rattle.definitions.specs.declared.Case.{Case}
use Rattle.definitions.specs.declared.Refusal.{Refusal}
use Rattle.definitions.specs.declared.Refusal.TheVariants.{OutsideLimits}
use Rattle.definitions.specs.Rules.{rules_of}
use Rattle.definitions.specs.Refusals.{◌when◌, first_refusal}
use Rattle.definitions.specs.Answers.{outcome_of, unless_refused}
use Rattle.definitions.specs.Valid.{both_handed_over}
use Rattle.logs.specs.Leave.{WeightedCase, left_by}

-- 3 where no other variable is left; then 3 to 8 and 15 of what is lent, with 5 where there is no such variable
abbrev pub leave_refusal : Case → List ℤ → List ℤ → ℕ → Option Refusal
leave_refusal c w₀ w i = first_refusal (OutsideLimits when (not (ltb 1 c.n)) ∷ both_handed_over (rules_of c) c w₀ w (not (ltb i c.n)))

pub record LeaveCall : Type 0 where
  pub answer : Result ⊤ Refusal
  pub after : WeightedCase

unfoldable pub leave_call : Case → List ℤ → List ℤ → ℕ → LeaveCall
leave_call c w₀ w i = record {
  answer = outcome_of (leave_refusal c w₀ w i);
  after = unless_refused (leave_refusal c w₀ w i) (left_by (rules_of c) c i w₀ w) (record { case = c; starting = w₀; weights = w });
}
