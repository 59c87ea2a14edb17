-- Rising lists: each element is below the next. Assumes nothing.
use mathlib.Core.Path.{◌≡◌, subst}
use mathlib.Core.Bool.{◌&&◌}
use mathlib.Core.Logic.{◌↔◌, ⊎_elim}
use mathlib.Core.List.{List, [], ◌∷◌}
use Prim.Native.Nat.{ℕ, zero, suc, ◌+◌, ◌-◌, ◌<◌}
use native.Mathlib.Omega.{arith}
use lib.Dec.{T, ltb, eqb, ltb→lt, lt→ltb, eqb→eq}
use lib.ListN.{length, get_or}
use Rattle.integers.specs.Tests.{either, and_intro, and_left, and_right, not-eqb-iff}
use Rattle.calls.specs.Calls.{is_rising}

pub rising-iff : (xs : List ℕ) → T (is_rising xs) ↔ ((k : ℕ) → suc k < length xs → get_or xs k 0 < get_or xs (suc k) 0)
rising-iff [] = (λ t k h. absurd (omega arith), λ f. tt)
rising-iff (x ∷ []) = (λ t k h. absurd (omega arith), λ f. tt)
rising-iff (x ∷ y ∷ ys) = (
  λ t k h. to t k h (rising-iff (y ∷ ys)).0,
  λ f. and_intro (ltb x y) (is_rising (y ∷ ys)) (lt→ltb x y (f 0 (omega arith))) ((rising-iff (y ∷ ys)).1 (λ k h. f (suc k) (omega arith))),
)
  where
    to : T (ltb x y && is_rising (y ∷ ys)) → (k : ℕ) → suc k < length (x ∷ y ∷ ys)
        → (T (is_rising (y ∷ ys)) → (k : ℕ) → suc k < length (y ∷ ys) → get_or (y ∷ ys) k 0 < get_or (y ∷ ys) (suc k) 0)
        → get_or (x ∷ y ∷ ys) k 0 < get_or (x ∷ y ∷ ys) (suc k) 0
    to t zero h r = ltb→lt x y (and_left (ltb x y) (is_rising (y ∷ ys)) t)
    to t (suc k) h r = r (and_right (ltb x y) (is_rising (y ∷ ys)) t) k (omega arith)

-- one more turn of a search for a step that does not rise
pub next-rises : (xs : List ℕ) (j k : ℕ) → ((k : ℕ) → suc k < j → get_or xs k 0 < get_or xs (suc k) 0) → get_or xs (j - 1) 0 < get_or xs j 0 → suc k < j + 1
    → get_or xs k 0 < get_or xs (suc k) 0
next-rises xs j k f u h = ⊎_elim
    (λ t. let e : suc k ≡ j = eqb→eq (suc k) j t in let d : j - 1 ≡ k = omega arith in rw e (subst (λ (i : ℕ). get_or xs i 0 < get_or xs j 0) d u))
    (λ t. f k (omega (arith, (not-eqb-iff (suc k) j).0 t)))
    (either (eqb (suc k) j))
