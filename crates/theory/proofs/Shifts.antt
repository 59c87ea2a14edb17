-- A shift keeps every lawful assignment's objective: what it adds to a value of an end's variable it takes from the tuples that use that value.
-- Assumes nothing.
use mathlib.Core.Path.{◌≡◌, refl, ap, ap₂, ◌∙◌}
use mathlib.Core.Bool.{Bool, true, false, ◌&&◌}
use mathlib.Core.List.{List}
use Prim.Native.Nat.{ℕ, ◌+◌, ◌<◌}
use native.Mathlib.Omega.{arith}
use lib.IntN.{ℤ, pos, neg_ℤ, ◌+ℤ◌, +ℤ_idr, +ℤ_invr}
use lib.Dec.{T, eqb}
use Rattle.std.specs.Prelude.{if◌then◌else◌}
use Rattle.integers.specs.Tests.{if-cases}
use Rattle.definitions.specs.declared.Case.{Case}
use Rattle.definitions.specs.Case.{value_of, lower_end, upper_end, is_lawful, objective}
use Rattle.definitions.specs.Moves.{only_where, end_variable, end_value, shift_by, spared, shift, moved}
use Rattle.theory.proofs.Shape.{Shape, lower-below}
use Rattle.theory.proofs.Totals.{objective_of, objective_of-one, used-variable, used-edge, objective_of-add, objective-plus}
use Rattle.theory.proofs.Barred.{lawful-iff, spared-used}

module _ (c : Case) (e end v : ℕ) (a : ℤ) where
  end-used : (p : List ℕ) → end_value end (value_of p (lower_end c e)) (value_of p (upper_end c e)) ≡ value_of p (end_variable c e end)
  end-used p = go (eqb end 0)
    where
      go : (b : Bool) → (if b then value_of p (lower_end c e) else value_of p (upper_end c e)) ≡ value_of p (if b then lower_end c e else upper_end c e)
      go true = refl
      go false = refl

  module _ (s : Shape c) (h : e < c.m) where
    end_below : end_variable c e end < c.n
    end_below = if-cases (λ x. x < c.n) (eqb end 0) (lower_end c e) (upper_end c e) (λ t. lower-below s e h) (λ t. s.below-n e h)

    pub shift-keeps : (p : List ℕ) → objective_of c (shift_by c e end v a) p ≡ pos 0
    shift-keeps p =
        objective_of-add c p (λ x k l. only_where (eqb x (end_variable c e end) && eqb k v) a)
        (λ x k l. only_where (eqb x (c.n + e) && eqb (end_value end k l) v) (neg_ℤ a))
        ∙ ap₂ ◌+ℤ◌
        (objective_of-one c p (λ k l. eqb k v) a {y = end_variable c e end} (omega (arith, end_below))
        ∙ ap (λ (b : Bool). only_where b a) (used-variable c p (λ k l. eqb k v) (end_variable c e end) end_below))
        (objective_of-one c p (λ k l. eqb (end_value end k l) v) (neg_ℤ a) {y = c.n + e} (omega arith)
        ∙ ap (λ (b : Bool). only_where b (neg_ℤ a)) (used-edge c p (λ k l. eqb (end_value end k l) v) e ∙ ap (λ (k : ℕ). eqb k v) (end-used p)))
        ∙ none (eqb (value_of p (end_variable c e end)) v)
      where
        none : (b : Bool) → only_where b a +ℤ only_where b (neg_ℤ a) ≡ pos 0
        none true = +ℤ_invr a
        none false = refl

    pub shift-moves : (p : List ℕ) (w : List ℤ) → T (is_lawful c w p) → objective c (moved c (shift e end v a) w) p ≡ objective c w p
    shift-moves p w t =
        objective-plus s p ((lawful-iff c w p).0 t).0 (spared c w (shift_by c e end v a)) w
        ∙ ap (λ (z : ℤ). objective c w p +ℤ z) (spared-used c w p t (shift_by c e end v a) ∙ shift-keeps p) ∙ +ℤ_idr (objective c w p)
