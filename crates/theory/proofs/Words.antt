-- Sums over the numbers below n, of one term that counts and of terms that are not negative; tests that no number below n passes.
-- Assumes nothing.
use mathlib.Core.Path.{◌≡◌, refl, sym, ap}
use mathlib.Core.Bool.{Bool, not}
use mathlib.Core.Logic.{◌≢◌, ◌↔◌}
use Prim.Native.Nat.{ℕ, ◌<◌}
use native.Mathlib.Omega.{arith}
use lib.IntN.{ℤ, pos}
use lib.Dec.{T, T_not, not_T, eqb, eqb→eq}
use lib.Signed.{◌≤ℤ◌}
use Rattle.integers.specs.Words.{below, any}
use Rattle.integers.specs.Tests.{if-cases}
use Rattle.integers.specs.Linear.{flat, zs, ◌▸◌, ≤ℤ-of-eq}
use Rattle.integers.specs.Lists.{any_at, any_of}
use Rattle.integers.specs.Sums.{Σ, Σ-mono, Σ-zero, Σ-change, Σ-only, only}

module _ (f : ℕ → ℤ) (n : ℕ) {i : ℕ} (h : i < n) where
  -- all others are 0
  pub sum_one : ((x : ℕ) → x < n → x ≢ i → f x ≡ pos 0) → Σ f 0 n ≡ f i
  sum_one off =
      Σ-change (λ x. pos 0) f 0 n {i = i} (omega arith) (omega arith) (λ x l u s. off x (omega arith) s)
      ▸ Σ-zero (λ x. pos 0) 0 n (λ x l u. refl) ▸ simp flat (omega zs)

  -- none is below 0
  pub sum-above : ((x : ℕ) → x < n → pos 0 ≤ℤ f x) → f i ≤ℤ Σ f 0 n
  sum-above least =
      Σ-only i (f i) 0 n (omega arith) (omega arith)
      ▸ Σ-mono (only i (f i)) f 0 n (λ x l u.
      if-cases (λ z. z ≤ℤ f x) (eqb x i) (f i) (pos 0) (λ t. ≤ℤ-of-eq (ap f (sym (eqb→eq x i t)))) (λ t. least x (omega arith)))
      ▸ simp flat (omega zs)

pub none_below : (f : ℕ → Bool) (n : ℕ) → T (not (any f (below n))) ↔ ((x : ℕ) → x < n → T (not (f x)))
none_below f n = (
  λ t x h. not_T (f x) (λ s. T_not (any f (below n)) t (any_of f n h s)),
  λ g. not_T (any f (below n)) (λ t. let (x, h, s) = any_at f n t in T_not (f x) (g x h) s),
)
