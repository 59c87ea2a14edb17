-- The table of a case: every tuple has its own place, and a scope's greatest weight rests on its own weights alone. Assumes nothing.
use mathlib.Core.Path.{◌≡◌, ap, ap₂}
use mathlib.Core.Bool.{not}
use mathlib.Core.Logic.{⊎_elim}
use mathlib.Core.List.{List}
use Prim.Native.Nat.{ℕ, suc, ◌+◌, ◌*◌, ◌<◌}
use native.Mathlib.Nat.{mul-le-mul_right}
use native.Mathlib.Omega.{arith}
use lib.IntN.{ℤ, pos}
use lib.Dec.{T}
use lib.ListN.{get_or}
use Rattle.std.specs.Prelude.{if◌then◌else◌}
use Rattle.integers.specs.Words.{joined, greatest_of}
use Rattle.integers.specs.Tests.{tests, either, if-true, if-false}
use Rattle.integers.specs.Lists.{map_same}
use Rattle.definitions.specs.declared.Case.{Case}
use Rattle.definitions.specs.Case.{scope_count, is_variable, edge_of, each_tuple, place, own_length, weight, greatest, active}

-- a place in row x of n rows of d
in_rows : (x n k d : ℕ) → x < n → k < d → x * d + k < n * d
in_rows x n k d h g = omega (arith, mul-le-mul_right {m = suc x} {n = n} d h)

module _ (c : Case) where
  pub place-own : (x k l : ℕ) → x < scope_count c → k < c.d → l < c.d → place c x k l < own_length c
  place-own x k l h p q =
      ⊎_elim
      (λ (t : T (is_variable c x)). let n : x < c.n = simp tests at t in rw (if-true _ _ (is_variable c x) t) (omega (arith, in_rows x c.n k c.d n p)))
      (λ (t : T (not (is_variable c x))). let n : c.n < suc x = simp tests at t in
      rw (if-false _ _ (is_variable c x) t) (omega (
        arith,
        in_rows (edge_of c x) c.m (k * c.d + l) (c.d * c.d) (omega arith) (in_rows k c.d l c.d p q),
      )))
      (either (is_variable c x))

  pub each_tuple-same : {A : Type 0} (x : ℕ) {f g : ℕ → ℕ → A} → ((k l : ℕ) → k < c.d → l < c.d → f k l ≡ g k l) → each_tuple c x f ≡ each_tuple c x g
  each_tuple-same x same =
      ap₂ (λ p q. if is_variable c x then p else joined q)
      (map_same c.d (λ k h. same k 0 h (omega arith)))
      (map_same c.d (λ k h. map_same c.d (λ l g. same k l h g)))

  -- two tables that agree at the case's own places
  module _ (w u : List ℤ) (own : (p : ℕ) → p < own_length c → get_or w p (pos 0) ≡ get_or u p (pos 0)) (x : ℕ) (h : x < scope_count c) where
    pub weight-same : (k l : ℕ) → k < c.d → l < c.d → weight c w x k l ≡ weight c u x k l
    weight-same k l p q = own (place c x k l) (place-own x k l h p q)

    pub greatest-same : greatest c w x ≡ greatest c u x
    greatest-same = ap greatest_of (each_tuple-same x weight-same)

    pub active-same : (k l : ℕ) → k < c.d → l < c.d → active c w x k l ≡ active c u x k l
    active-same k l p q = cc (weight-same k l p q, greatest-same)
