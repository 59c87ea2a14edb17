-- Searches, and a number that is 0. Assumes nothing.
use mathlib.Core.Path.{◌≡◌, sym, ap, ◌∙◌}
use mathlib.Core.Bool.{Bool, true, false}
use Prim.Native.Nat.{ℕ, ◌<◌}
use lib.IntN.{ℤ, pos}
use lib.Dec.{not_T, eqb, eqb→eq}
use mir.Syntax.{w64}
use mir.Val.{SFits, to_z, of_z}
use mir.Facts.{to_z-of_z}
use Rattle.integers.specs.Words.{below, all, eq_z}
use Rattle.integers.specs.Tests.{is_true, true-is, is_false, same_test, eqb-iff}
use Rattle.integers.specs.Linear.{T-eq}
use Rattle.integers.specs.Lists.{all-at, all_of}

module _ (f : ℕ → Bool) (n : ℕ) where
  pub not-all : (k : ℕ) → k < n → f k ≡ false → false ≡ all f (below n)
  not-all k h e = sym (is_false (all f (below n)) (not_T (all f (below n)) (λ t. rw e at (all-at f n t k h))))

  pub all-passed : ((k : ℕ) → k < n → f k ≡ true) → true ≡ all f (below n)
  all-passed h = sym (is_true (all f (below n)) (all_of f n (λ k l. true-is (f k) (h k l))))

-- a number is 0 just where its bits are
pub zero_bits : (z : ℤ) → SFits w64 z → eqb (of_z w64 z) 0 ≡ eq_z z (pos 0)
zero_bits z f = same_test (eqb (of_z w64 z) 0) (eq_z z (pos 0))
    (λ t. (T-eq z (pos 0)).1 (sym (to_z-of_z f) ∙ ap (to_z w64) (eqb→eq (of_z w64 z) 0 t)))
    (λ t. (eqb-iff (of_z w64 z) 0).1 (ap (of_z w64) ((T-eq z (pos 0)).0 t)))
