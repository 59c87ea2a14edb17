-- The call, by what was asked. Assumes nothing.
use Rattle.std.specs.Prelude.{Result, Ok, Err, Option, Some, None, ⊤}
use mathlib.Core.Path.{◌≡◌}
use mathlib.Core.Bool.{not}
use mathlib.Core.List.{List}
use Prim.Native.Nat.{ℕ, suc, ◌≤◌, ◌<◌}
use native.Mathlib.Omega.{arith}
use lib.IntN.{ℤ}
use lib.Dec.{leb, ltb, ltb→lt}
use borrow.Author.Tests.{le-ltb, lt-ltb}
use Rattle.integers.specs.Tests.{same_test, leb-iff, not-leb-iff, not-not-iff}
use Rattle.definitions.specs.declared.Case.{Case}
use Rattle.definitions.specs.declared.Refusal.{Refusal}
use Rattle.definitions.specs.declared.Refusal.TheVariants.{OutsideLimits}
use Rattle.definitions.specs.Rules.{rules_of}
use Rattle.definitions.specs.Refusals.{first_refusal}
use Rattle.definitions.specs.Answers.{outcome_of}
use Rattle.definitions.specs.Valid.{both_handed_over}
use Rattle.logs.specs.Leave.{left_by}
use Rattle.theory.proofs.Validity.{BothHanded, both-handed}
use Rattle.tables.proofs.Order.{outcome-done, outcome-refused}
use Rattle.leaving.specs.Leaving.{leave_call}

pub at_least : (m n : ℕ) → leb n m ≡ not (ltb m n)
at_least m n = same_test (leb n m) (not (ltb m n)) (λ t. (not-leb-iff (suc m) n).1 (omega (arith, (leb-iff n m).0 t)))
    (λ t. (leb-iff n m).1 (omega (arith, (not-leb-iff (suc m) n).0 t)))

module _ (c : Case) (w₀ w : List ℤ) (i : ℕ) where
  abbrev asked : Option Refusal
  asked = first_refusal (both_handed_over (rules_of c) c w₀ w (not (ltb i c.n)))

  abbrev Gives : Result ⊤ Refusal → Case → List ℤ → List ℤ → Type 0
  Gives o u k l =
      (o ≡ (leave_call c w₀ w i).answer) × (u ≡ (leave_call c w₀ w i).after.case) × (k ≡ (leave_call c w₀ w i).after.starting) × (l ≡ (leave_call c w₀ w i).after.weights)

  pub leave-alone : c.n ≤ 1 → Gives (Err OutsideLimits) c w₀ w
  unfolding leave_call
  leave-alone h = let e = le-ltb 1 c.n h in (rw e, rw e, rw e, rw e)

  module _ (several : 1 < c.n) where
    pub leave-refused : {x : Refusal} → Err x ≡ outcome_of asked → Gives (Err x) c w₀ w
    unfolding leave_call
    leave-refused {x} d =
        let e = lt-ltb 1 c.n several in
        let o : asked ≡ Some x = outcome-refused d in
        (rw (e, o), rw (e, o), rw (e, o), rw (e, o))

    pub leave-done : Ok tt ≡ outcome_of asked → (u : Case) (k l : List ℤ) → u ≡ (left_by (rules_of c) c i w₀ w).case
        → k ≡ (left_by (rules_of c) c i w₀ w).starting → l ≡ (left_by (rules_of c) c i w₀ w).weights → Gives (Ok tt) u k l
    unfolding leave_call
    leave-done d u k l f g h =
        let e = lt-ltb 1 c.n several in
        let o : asked ≡ None = outcome-done d in
        (rw (e, o), rw (e, o) f, rw (e, o) g, rw (e, o) h)

    pub leave-known : Ok tt ≡ outcome_of asked → BothHanded (rules_of c) c w₀ w × (i < c.n)
    leave-known d =
        let o : asked ≡ None = outcome-done d in
        let (h, t) = (both-handed (rules_of c) c w₀ w (not (ltb i c.n))).0 (rw o tt) in
        (h, ltb→lt i c.n ((not-not-iff (ltb i c.n)).0 t))
