-- What a search shows: tests joined by &&, a test of some number below n, and of all elements of a list. Assumes nothing.
use mathlib.Core.Path.{◌≡◌, refl, sym, ap, ◌∙◌}
use mathlib.Core.Bool.{Bool, true, false, not, ◌&&◌, ◌||◌, or-false}
use mathlib.Core.List.{List}
use Prim.Native.Nat.{ℕ, ◌+◌, ◌<◌}
use native.Mathlib.Nat.{zero-add}
use lib.Dec.{not_T}
use lib.ListN.{length, get_or}
use Rattle.integers.specs.Words.{from, below, any, all}
use Rattle.integers.specs.Tests.{is_true, true-is, is_false}
use Rattle.integers.specs.Lists.{any_append, any_at, any_of, all-at, all_of, from-split}
use Rattle.integers.specs.Tables.{all_get_d, any-get_d}

module _ (a b : Bool) where
  pub and-next : a ≡ true → b ≡ (a && b)
  and-next e = rw e

  pub and-stops : a ≡ false → a ≡ (a && b)
  and-stops e = rw e

-- the second of two tests joined by || is told
pub or-second : (a b : Bool) → b ≡ true → true ≡ (a || b)
or-second true b e = refl
or-second false b e = sym e

pub or-first : (a b : Bool) → b ≡ false → a ≡ (a || b)
or-first true b e = refl
or-first false b e = sym e

pub second-fails : (a b c : Bool) → b ≡ false → true ≡ (not a || not b || not c)
second-fails true b c e = rw e
second-fails false b c e = refl

module _ (f : ℕ → Bool) (n : ℕ) where
  pub found : (k : ℕ) → k < n → f k ≡ true → true ≡ any f (below n)
  found k h e = sym (is_true (any f (below n)) (any_of f n h (true-is (f k) e)))

  pub any_next : any f (below (n + 1)) ≡ (any f (below n) || f n)
  any_next = ap (any f) (from-split 0 n 1) ∙ any_append f (below n) (from (0 + n) 1) ∙ rw (zero-add, or-false)

  pub not_found : ((k : ℕ) → k < n → f k ≡ false) → false ≡ any f (below n)
  not_found h = sym (is_false (any f (below n)) (not_T (any f (below n)) (λ t. let (k, l, s) = any_at f n t in rw (h k l) at s)))

  pub all_pass : ((k : ℕ) → k < n → f k ≡ true) → true ≡ all f (below n)
  all_pass h = sym (is_true (all f (below n)) (all_of f n (λ k l. true-is (f k) (h k l))))

  pub some-fails : (k : ℕ) → k < n → f k ≡ false → false ≡ all f (below n)
  some-fails k l e = sym (is_false (all f (below n)) (not_T (all f (below n)) (λ t. rw e at (all-at f n t k l))))

module _ {A : Type 0} (f : A → Bool) (xs : List A) (d : A) where
  pub found_at : (k : ℕ) → k < length xs → f (get_or xs k d) ≡ true → true ≡ any f xs
  found_at k l e = sym (is_true (any f xs) ((any-get_d f xs d).1 (k, l, true-is (f (get_or xs k d)) e)))

  pub found_nowhere : ((k : ℕ) → k < length xs → f (get_or xs k d) ≡ false) → false ≡ any f xs
  found_nowhere h = sym (is_false (any f xs) (not_T (any f xs) (λ t. let (k, l, s) = (any-get_d f xs d).0 t in rw (h k l) at s)))

  pub search-passes : ((k : ℕ) → k < length xs → f (get_or xs k d) ≡ true) → true ≡ all f xs
  search-passes h = sym (is_true (all f xs) ((all_get_d f xs d).1 (λ k l. true-is (f (get_or xs k d)) (h k l))))

  pub fails : (k : ℕ) → k < length xs → f (get_or xs k d) ≡ false → false ≡ all f xs
  fails k l e = sym (is_false (all f xs) (not_T (all f xs) (λ t. rw e at ((all_get_d f xs d).0 t k l))))

pub and-true : (b : Bool) → (b && true) ≡ b
and-true true = refl
and-true false = refl

pub and-false : (b : Bool) → (b && false) ≡ false
and-false true = refl
and-false false = refl
