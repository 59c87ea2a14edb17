-- A table with 0 from a place on: its length, what it holds before and past that place, and tables that hold 0 there already. Assumes nothing.
use mathlib.Core.Path.{◌≡◌, refl, sym, ap, ◌∙◌}
use mathlib.Core.Logic.{⊎_elim}
use mathlib.Core.List.{List, [], ◌∷◌, append-nil}
use Prim.Native.Nat.{ℕ, zero, suc, ◌+◌, ◌-◌, ◌≤◌, ◌<◌}
use native.Mathlib.Nat.{suc-sub-suc, sub-zero}
use native.Mathlib.Omega.{arith}
use lib.IntN.{ℤ, pos}
use lib.Dec.{T, ltb, ltb→lt, nltb→le}
use lib.ListN.{length, get_or, set, drop, replicate, length-replicate, length-drop, get_or-eq_default}
use lib.Seq.{take_all, get_or-drop, ext_get_or}
use Rattle.integers.specs.Words.{eq_z}
use Rattle.integers.specs.Tests.{either}
use Rattle.integers.specs.Linear.{T-eq}
use Rattle.integers.specs.Tables.{all_get_d}
use Rattle.definitions.specs.Valid.{zeros_from}
use Rattle.definitions.specs.CaseFiles.{zeroed_from}

-- the same element at every place
pub all_same : {A : Type 0} (k e : ℕ) (a : A) → get_or (replicate k a) e a ≡ a
all_same zero e a = refl
all_same (suc k) zero a = refl
all_same (suc k) (suc e) a = all_same k e a

zeroed-cons : (p : ℕ) (z : ℤ) (w : List ℤ) → zeroed_from (suc p) (z ∷ w) ≡ z ∷ zeroed_from p w
zeroed-cons p z w = rw suc-sub-suc

pub zeroed-length : (p : ℕ) (w : List ℤ) → length (zeroed_from p w) ≡ length w
zeroed-length zero w = length-replicate (length w - 0) (pos 0) ∙ omega arith
zeroed-length (suc p) [] = length-replicate (0 - suc p) (pos 0) ∙ omega arith
zeroed-length (suc p) (z ∷ w) = ap length (zeroed-cons p z w) ∙ ap suc (zeroed-length p w)

pub zeroed-before : (p : ℕ) (w : List ℤ) (i : ℕ) → i < p → get_or (zeroed_from p w) i (pos 0) ≡ get_or w i (pos 0)
zeroed-before zero w i h = absurd (omega arith)
zeroed-before (suc p) [] i h = all_same (0 - suc p) i (pos 0)
zeroed-before (suc p) (z ∷ w) zero h = ap (λ (l : List ℤ). get_or l 0 (pos 0)) (zeroed-cons p z w)
zeroed-before (suc p) (z ∷ w) (suc i) h = ap (λ (l : List ℤ). get_or l (suc i) (pos 0)) (zeroed-cons p z w) ∙ zeroed-before p w i (omega arith)

pub zeroed-past : (p : ℕ) (w : List ℤ) (i : ℕ) → p ≤ i → get_or (zeroed_from p w) i (pos 0) ≡ pos 0
zeroed-past zero w i h = all_same (length w - 0) i (pos 0)
zeroed-past (suc p) [] i h = all_same (0 - suc p) i (pos 0)
zeroed-past (suc p) (z ∷ w) zero h = absurd (omega arith)
zeroed-past (suc p) (z ∷ w) (suc i) h = ap (λ (l : List ℤ). get_or l (suc i) (pos 0)) (zeroed-cons p z w) ∙ zeroed-past p w i (omega arith)

-- 0 put at place i, one place at a time
pub zeroed-next : (i : ℕ) (w : List ℤ) → i < length w → zeroed_from (suc i) (set w i (pos 0)) ≡ zeroed_from i w
zeroed-next i [] h = absurd (omega arith)
zeroed-next zero (z ∷ w) h = zeroed-cons 0 (pos 0) w ∙ simp sub-zero
zeroed-next (suc i) (z ∷ w) h = zeroed-cons (suc i) z (set w i (pos 0)) ∙ ap (λ (l : List ℤ). z ∷ l) (zeroed-next i w (omega arith)) ∙ sym (zeroed-cons i z w)

pub zeroed-all : (i : ℕ) (w : List ℤ) → length w ≤ i → zeroed_from i w ≡ w
zeroed-all i w h = let e : length w - i ≡ 0 = omega arith in rw (e, take_all i w h, append-nil)

-- a table that holds 0 from p on
module _ (p : ℕ) (w : List ℤ) where
  pub zeros-at : T (zeros_from p w) → (i : ℕ) → p ≤ i → get_or w i (pos 0) ≡ pos 0
  zeros-at t i h = ⊎_elim
      (λ u.
      let e : p + (i - p) ≡ i = omega arith in
      sym (get_or-drop p w (i - p) (pos 0) ∙ ap (λ (i : ℕ). get_or w i (pos 0)) e)
      ∙ (T-eq (get_or (drop p w) (i - p) (pos 0)) (pos 0)).0
      ((all_get_d (λ z. eq_z z (pos 0)) (drop p w) (pos 0)).0 t (i - p) (omega (arith, length-drop p w, ltb→lt i (length w) u))))
      (λ u. get_or-eq_default w (pos 0) {n = i} (nltb→le i (length w) u)) (either (ltb i (length w)))

  pub zeros_by : ((i : ℕ) → p ≤ i → get_or w i (pos 0) ≡ pos 0) → T (zeros_from p w)
  zeros_by f = (all_get_d (λ z. eq_z z (pos 0)) (drop p w) (pos 0)).1 (λ i h.
      (T-eq (get_or (drop p w) i (pos 0)) (pos 0)).1 (get_or-drop p w i (pos 0) ∙ f (p + i) (omega arith)))

pub zeroed-self : (p : ℕ) (w : List ℤ) → T (zeros_from p w) → zeroed_from p w ≡ w
zeroed-self p w t = ext_get_or (pos 0) (zeroed_from p w) w (zeroed-length p w) (λ i h. ⊎_elim (λ u. zeroed-before p w i (ltb→lt i p u))
    (λ u. let o = nltb→le i p u in zeroed-past p w i o ∙ sym (zeros-at p w t i o)) (either (ltb i p)))

pub zeroed-zeros : (p : ℕ) (w : List ℤ) → T (zeros_from p (zeroed_from p w))
zeroed-zeros p w = zeros_by p (zeroed_from p w) (zeroed-past p w)
