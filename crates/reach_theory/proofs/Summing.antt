-- Sums of natural numbers over the numbers below n. Assumes nothing.
use mathlib.Core.Path.{◌≡◌, sym, subst}
use mathlib.Core.Bool.{not}
use mathlib.Core.Logic.{◌≢◌, ◌⊎◌, inl, inr}
use Prim.Native.Nat.{ℕ, zero, suc, ◌+◌, ◌*◌, ◌≤◌, ◌<◌}
use native.Mathlib.Omega.{arith}
use lib.Dec.{T, eqb, eqb→eq}
use Rattle.integers.specs.Tests.{either, not-eqb-iff}

pub summed : (ℕ → ℕ) → ℕ → ℕ
summed f zero = 0
summed f (suc n) = f n + summed f n

-- each at most u
pub summed-most : (f : ℕ → ℕ) (u n : ℕ) → ((x : ℕ) → x < n → f x ≤ u) → summed f n ≤ n * u
unfolding summed
summed-most f u zero h = omega arith
summed-most f u (suc n) h = omega (arith, h n (omega arith), summed-most f u n (λ x l. h x (omega arith)))

module _ (f g : ℕ → ℕ) where
  pub summed-mono : (n : ℕ) → ((x : ℕ) → x < n → f x ≤ g x) → summed f n ≤ summed g n
  unfolding summed
  summed-mono zero h = omega arith
  summed-mono (suc n) h = omega (arith, h n (omega arith), summed-mono n (λ x l. h x (omega arith)))

  module _ (u : ℕ) {i : ℕ} where
    -- less by u at i, and nowhere more
    pub summed-less : (n : ℕ) → i < n → f i + u ≤ g i → ((x : ℕ) → x < n → f x ≤ g x) → summed f n + u ≤ summed g n
    unfolding summed
    summed-less zero l s h = absurd (omega arith)
    summed-less (suc n) l s h = go (either (eqb i n)) (summed-mono n (λ x l. h x (omega arith))) (λ l. summed-less n l s (λ x l. h x (omega arith)))
      where
        go : T (eqb i n) ⊎ T (not (eqb i n)) → summed f n ≤ summed g n → (i < n → summed f n + u ≤ summed g n) → f n + summed f n + u ≤ g n + summed g n
        go (inl t) m r = omega (arith, subst (λ (i : ℕ). f i + u ≤ g i) (eqb→eq i n t) s)
        go (inr t) m r = omega (arith, h n (omega arith), r (omega (arith, (not-eqb-iff i n).0 t)))

    -- more by u at i, and nowhere else
    pub summed-more : (n : ℕ) → f i ≤ g i + u → ((x : ℕ) → x < n → x ≢ i → f x ≤ g x) → summed f n ≤ summed g n + u
    unfolding summed
    summed-more zero s h = omega arith
    summed-more (suc n) s h = go (either (eqb n i)) (λ o. summed-mono n o) (summed-more n s (λ x l. h x (omega arith)))
      where
        go : T (eqb n i) ⊎ T (not (eqb n i)) → (((x : ℕ) → x < n → f x ≤ g x) → summed f n ≤ summed g n) → summed f n ≤ summed g n + u
            → f n + summed f n ≤ g n + summed g n + u
        go (inl t) m r =
            let e : n ≡ i = eqb→eq n i t in
            omega (arith, subst (λ (i : ℕ). f i ≤ g i + u) (sym e) s, m (λ x l. h x (omega arith) (λ o. absurd (omega arith))))
        go (inr t) m r = omega (arith, h n (omega arith) ((not-eqb-iff n i).0 t), r)
