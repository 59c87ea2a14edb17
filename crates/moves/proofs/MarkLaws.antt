-- Raised scopes as marks. Assumes nothing.
use mathlib.Core.Path.{◌≡◌, refl, sym, ap, ◌∙◌}
use mathlib.Core.Bool.{Bool, true, false, not, ◌||◌}
use mathlib.Core.Logic.{◌⊎◌, inl, inr}
use mathlib.Core.List.{List, [], ◌∷◌}
use Prim.Native.Nat.{ℕ, zero, suc, ◌≤◌}
use native.Mathlib.Omega.{arith}
use lib.IntN.{ℤ}
use lib.Dec.{T, eqb, ltb, eqb→eq, ltb→lt, lt→ltb}
use lib.ListN.{length, get_or, set, replicate, length-set}
use lib.Seq.{get_or-set_same, get_or-set_other}
use Rattle.std.specs.Prelude.{if◌then◌else◌}
use Rattle.integers.specs.Words.{◌⇒◌, all, is_in}
use Rattle.integers.specs.Tests.{either, is_true, is_false, and_left, and_right, not-eqb-iff}
use Rattle.integers.specs.Lists.{all_in, all_same}
use Rattle.definitions.specs.declared.Case.{Case}
use Rattle.definitions.specs.Consistency.{all_refuted}
use Rattle.definitions.specs.Moves.{active_values, active_refuted}
use Rattle.definitions.proofs.Refutation.{refuted-same}
use Rattle.calls.specs.Calls.{is_raised}
use Rattle.moves.specs.Marks.{marked}

pub marked-long : (xs l : List ℕ) → length (marked l xs) ≡ length l
unfolding marked
marked-long [] l = refl
marked-long (x ∷ xs) l = marked-long xs (set l x 1) ∙ length-set l x 1

pub marked-at : (xs l : List ℕ) → T (all (λ x. ltb x (length l)) xs) → (y : ℕ) → get_or (marked l xs) y 0 ≡ (if is_in xs y then 1 else get_or l y 0)
unfolding marked
marked-at [] l t y = refl
marked-at (x ∷ xs) l t y =
    marked-at xs (set l x 1) (rw (length-set l x 1) (and_right (ltb x (length l)) _ t)) y ∙ go (either (eqb x y)) (is_in xs y)
  where
    go : T (eqb x y) ⊎ T (not (eqb x y)) → (b : Bool) → (if b then 1 else get_or (set l x 1) y 0) ≡ (if (eqb x y || b) then 1 else get_or l y 0)
    go (inl s) true = rw (is_true (eqb x y) s)
    go (inl s) false =
        let e : x ≡ y = eqb→eq x y s in
        rw (is_true (eqb x y) s, ← e) (get_or-set_same l x 1 0 (ltb→lt x (length l) (and_left (ltb x (length l)) _ t)))
    go (inr s) true = rw (is_false (eqb x y) s)
    go (inr s) false = rw (is_false (eqb x y) s) (get_or-set_other l x y 1 0 (λ e. (not-eqb-iff x y).0 s (sym e)))

module _ (l raised : List ℕ) (inside : T (all (λ x. ltb x (length l)) raised)) (clear : (y : ℕ) → get_or l y 0 ≡ 0) where
  mark_of : (y : ℕ) → get_or (marked l raised) y 0 ≡ (if is_in raised y then 1 else 0)
  mark_of y = marked-at raised l inside y ∙ ap (λ (n : ℕ). if is_in raised y then 1 else n) (clear y)

  pub raised_is : (y : ℕ) → is_raised (marked l raised) y ≡ is_in raised y
  raised_is y = ap (λ (n : ℕ). not (eqb n 0)) (mark_of y) ∙ go (is_in raised y)
    where
      go : (b : Bool) → not (eqb (if b then 1 else 0) 0) ≡ b
      go true = refl
      go false = refl

-- scopes lie in a list that is long enough
pub marks-inside : (raised : List ℕ) (n k : ℕ) → n ≤ k → T (all (λ x. ltb x n) raised) → T (all (λ x. ltb x k) raised)
marks-inside raised n k h t = (all_in (λ x. ltb x k) raised).1 (λ x m. lt→ltb x k (omega (arith, ltb→lt x n ((all_in (λ x. ltb x n) raised).0 t x m))))

pub zeros : (n y : ℕ) → ◌≡◌ {A = ℕ} (get_or (replicate n 0) y 0) 0
zeros zero y = refl
zeros (suc n) zero = refl
zeros (suc n) (suc y) = zeros n y

-- every value is refuted under the marks just where it is with these scopes raised
pub marks-refute : (c : Case) (w : List ℤ) (i : ℕ) (marks raised : List ℕ) → ((y : ℕ) → is_raised marks y ≡ is_in raised y)
    → all_refuted c w (is_raised marks) i (active_values c w i) ≡ active_refuted c w i raised
marks-refute c w i marks raised same = all_same c.d
    (λ k h. ap (λ (b : Bool). active_values c w i k ⇒ b) (refuted-same c w w (is_raised marks) (is_in raised) i k (λ p g. refl) (λ x g. same x)))
