-- Sums over scopes of numbers in the range, which fit, and sums that are refused. Assumes nothing.
use Rattle.definitions.specs.Answers.{answer_of}
use Rattle.std.specs.Prelude.{Ok, Err}
use mathlib.Core.Path.{◌≡◌, ap, ap₂}
use mathlib.Core.Bool.{Bool, false, not}
use mathlib.Core.List.{[], ◌∷◌}
use Prim.Native.Nat.{ℕ, ◌+◌, ◌*◌, ◌≤◌, ◌<◌}
use native.Mathlib.Numerals.{add-one}
use native.Mathlib.Nat.{mul-le-mul_right, zero-add}
use native.Mathlib.Omega.{arith}
use lib.IntN.{ℤ, pos, ◌+ℤ◌}
use lib.Dec.{T}
use lib.Signed.{◌≤ℤ◌}
use mir.Syntax.{w64}
use mir.Val.{SFits}
use Rattle.integers.specs.Words.{within_z, minus}
use Rattle.integers.specs.Tests.{is_true}
use Rattle.integers.specs.Linear.{zs, flat, ◌▸◌}
use Rattle.integers.specs.Lists.{any_same}
use Rattle.integers.specs.Sums.{Σ, Σ-cong, Σ-last, Σ-most, Σ-least}
use Rattle.definitions.specs.declared.Case.{Case}
use Rattle.definitions.specs.declared.Refusal.TheVariants.{WeightOutOfRange}
use Rattle.definitions.specs.Rules.{Rules, Coherent, rules_of, scopes_at_most}
use Rattle.definitions.proofs.RulesLaws.{rules-fit}
use Rattle.definitions.specs.Refusals.{◌when◌, first_refusal}
use Rattle.definitions.specs.Case.{scope_count}
use Rattle.definitions.specs.Valid.{in_working, carry_out}
use Rattle.tables.specs.Scopes.{carry_test, sum_in_range}
use Rattle.tables.proofs.Search.{found, not_found}

module _ (f : ℕ → ℤ) where
  pub sum_more : {s t : ℤ} (carry : ℤ) (x : ℕ) → s ≡ Σ f 0 x +ℤ carry → t ≡ f x → s +ℤ t ≡ Σ f 0 (x + 1) +ℤ carry
  sum_more carry x d e =
      let g : Σ f 0 (x + 1) ≡ Σ f 0 x +ℤ f x = rw (add-one, Σ-last f 0 x, zero-add) in
      d ▸ e ▸ g ▸ simp flat (omega zs)

  pub sum_fits : {r : Rules} → Coherent r → (x : ℕ) → x ≤ scopes_at_most r → ((y : ℕ) → y < x → T (in_working r (f y)))
      → (carry : ℤ) → T (within_z (minus r.carried) (pos r.carried) carry) → SFits w64 (Σ f 0 x +ℤ carry)
  sum_fits {r} coherent x h g carry k =
      let m : Σ f 0 x ≤ℤ pos (x * r.working) = Σ-most f r.working 0 x (λ y l u. g y (omega arith) ▸ simp flat (omega zs)) in
      let n : minus (x * r.working) ≤ℤ Σ f 0 x = Σ-least f r.working 0 x (λ y l u. g y (omega arith) ▸ simp flat (omega zs)) in
      let s : x * r.working ≤ scopes_at_most r * r.working = mul-le-mul_right {m = x} {n = scopes_at_most r} r.working h in
      m ▸ n ▸ s ▸ k ▸ (rules-fit coherent).sums ▸ simp flat (omega zs)

-- a sum over scopes, by whether all numbers are in the range
module _ (c : Case) (f : ℕ → ℤ) where
  pub sum-given : carry_out (rules_of c) c ≡ false → ((x : ℕ) → x < scope_count c → T (in_working (rules_of c) (f x)))
      → Ok (Σ f 0 (scope_count c) +ℤ c.carry) ≡ sum_in_range (rules_of c) c f
  sum-given k h =
      rw (k, ← not_found (λ x. not (in_working (rules_of c) (f x))) (scope_count c) (λ x l. ap not (is_true (in_working (rules_of c) (f x)) (h x l))))

  pub sum-refused : carry_out (rules_of c) c ≡ false → (x : ℕ) → x < scope_count c → in_working (rules_of c) (f x) ≡ false
      → Err WeightOutOfRange ≡ sum_in_range (rules_of c) c f
  sum-refused k x l e = rw (k, ← found (λ x. not (in_working (rules_of c) (f x))) (scope_count c) x l (ap not e))

  pub sum_same : (g : ℕ → ℤ) → ((x : ℕ) → x < scope_count c → f x ≡ g x) → sum_in_range (rules_of c) c f ≡ sum_in_range (rules_of c) c g
  sum_same g h =
      ap₂ (λ (b : Bool) (z : ℤ). answer_of (first_refusal (carry_test (rules_of c) c ∷ WeightOutOfRange when b ∷ [])) (z +ℤ c.carry))
      (any_same (scope_count c) (λ x l. ap (λ (z : ℤ). not (in_working (rules_of c) z)) (h x l)))
      (Σ-cong f g 0 (scope_count c) (λ x l u. h x (omega arith)))
