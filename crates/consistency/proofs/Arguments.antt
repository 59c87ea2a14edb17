-- What `refuted` may take as known of its arguments, by what the check answers. Assumes nothing.
use Rattle.std.specs.Prelude.{Ok}
use mathlib.Core.Path.{◌≡◌}
use mathlib.Core.Bool.{not}
use mathlib.Core.List.{List}
use Prim.Native.Nat.{ℕ, ◌≤◌, ◌<◌}
use native.Mathlib.Omega.{arith}
use lib.IntN.{ℤ}
use lib.Dec.{T, T_not, not_T, ltb, eqb, nltb→le}
use lib.ListN.{length, get_or}
use Rattle.integers.specs.Words.{any}
use Rattle.integers.specs.Tests.{tests}
use Rattle.integers.specs.Tables.{any-get_d}
use Rattle.definitions.specs.declared.Case.{Case}
use Rattle.definitions.specs.Rules.{rules_of}
use Rattle.definitions.specs.Refusals.{first_refusal}
use Rattle.definitions.specs.Case.{scope_count}
use Rattle.definitions.specs.Answers.{outcome_of}
use Rattle.definitions.specs.Valid.{working_weight, handed_over}
use Rattle.theory.proofs.Validity.{Handed}
use Rattle.tables.proofs.Answered.{known}
use Rattle.consistency.specs.Arguments.{arguments_out}

module _ (c : Case) (w : List ℤ) (raised : List ℕ) (i k : ℕ) where
  pub arguments-known : Ok tt ≡ outcome_of (first_refusal (handed_over (rules_of c) (working_weight (rules_of c)) c w (not (eqb (length raised) (scope_count c)))
      (arguments_out c raised i k)))
      → Handed (rules_of c) (working_weight (rules_of c)) c w
      × ((length raised ≡ scope_count c) × ((x : ℕ) → x < scope_count c → get_or raised x 0 ≤ 1) × (i < c.n) × (k < c.d))
  arguments-known e =
      let (handed, right, in-range) = known c w (not (eqb (length raised) (scope_count c))) (arguments_out c raised i k) e in
      let long : length raised ≡ scope_count c = simp tests at right in
      let p = simp tests at in-range in (
        handed,
        (
          long,
          λ x h. marked x (omega arith) p.0.0,
          p.0.1,
          p.1,
        ),
      )
    where
      marked : (x : ℕ) → x < length raised → T (not (any (λ b. ltb 1 b) raised)) → get_or raised x 0 ≤ 1
      marked x h t = nltb→le 1 (get_or raised x 0) (not_T (ltb 1 (get_or raised x 0))
          (λ s. T_not (any (λ b. ltb 1 b) raised) t ((any-get_d (λ b. ltb 1 b) raised 0).1 (x, h, s))))
