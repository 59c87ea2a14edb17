-- Two tables that agree on the case's own places have the same objectives and upper bound, refute the same values, keep the same range of
-- weights, and are changed in the same way by a move. Assumes nothing.
use mathlib.Core.Path.{◌≡◌, refl, sym, ap, ap₂, subst, ◌∙◌}
use mathlib.Core.Bool.{Bool, not, ◌&&◌}
use mathlib.Core.Logic.{◌↔◌}
use mathlib.Core.List.{List}
use Prim.Native.Nat.{ℕ, ◌<◌, ◌≤◌}
use native.Mathlib.Omega.{arith}
use lib.IntN.{ℤ, pos, neg_ℤ, ◌+ℤ◌}
use lib.Dec.{T, eqb}
use lib.ListN.{get_or, length}
use Rattle.std.specs.Prelude.{if◌then◌else◌}
use Rattle.integers.specs.Words.{is_in, ◌⇒◌}
use Rattle.integers.specs.Tests.{same_test}
use Rattle.integers.specs.Lists.{in-below, all_same}
use Rattle.integers.specs.Sums.{sum-cong}
use Rattle.definitions.specs.declared.Case.{Case}
use Rattle.definitions.specs.Case.{scope_count, scopes, own_length, weight, is_assignment, objective, greatest, upper_bound, is_barred}
use Rattle.definitions.specs.Valid.{all_weights}
use Rattle.definitions.specs.Moves.{Move, shift, press, only_where, active_refuted, difference, moved}
use Rattle.definitions.proofs.CaseLaws.{weight-same, greatest-same, active-same}
use Rattle.definitions.proofs.Refutation.{refuted-same}
use Rattle.theory.proofs.Shape.{Shape}
use Rattle.theory.proofs.Places.{IsTuple, tuple_at, all-weights}
use Rattle.theory.proofs.Totals.{objective_of-cong}
use Rattle.theory.proofs.Barred.{weight-spared}

-- the own places are those of the tuples
pub own-places : (c : Case) (w u : List ℤ)
    → ((x k l : ℕ) → IsTuple c x k l → weight c w x k l ≡ weight c u x k l) ↔ ((p : ℕ) → p < own_length c → get_or w p (pos 0) ≡ get_or u p (pos 0))
own-places c w u = (
  λ same p h. let (x, k, l, t, e) = tuple_at c p h in subst (λ (p : ℕ). get_or w p (pos 0) ≡ get_or u p (pos 0)) e (same x k l t),
  λ own x k l t. weight-same c w u own x t.scope k l t.one t.two,
)

module _ (c : Case) (w u : List ℤ) (own : (p : ℕ) → p < own_length c → get_or w p (pos 0) ≡ get_or u p (pos 0)) where
  pub objective-same : Shape c → (p : List ℕ) → T (is_assignment c p) → objective c w p ≡ objective c u p
  objective-same s p a = objective_of-cong s p a (weight c w) (weight c u) ((own-places c w u).1 own)

  pub upper_bound-same : upper_bound c w ≡ upper_bound c u
  upper_bound-same = ap (λ (z : ℤ). z +ℤ c.carry)
      (sum-cong (greatest c w) (greatest c u) (scopes c) (λ x m. greatest-same c w u own x (in-below (scope_count c) m)))

  pub active_refuted-same : (i : ℕ) → i < c.n → (raised : List ℕ) → active_refuted c w i raised ≡ active_refuted c u i raised
  active_refuted-same i h raised = all_same c.d (λ k g.
      ap₂ ◌⇒◌ (active-same c w u own i (omega arith) k 0 g (omega arith)) (refuted-same c w u (is_in raised) (is_in raised) i k own (λ x h. refl)))

  -- the test of all weights, as of the starting or the working range
  pub range_same : (range : ℤ → Bool) → own_length c ≤ length w → own_length c ≤ length u → all_weights range c w ≡ all_weights range c u
  range_same range g h = same_test _ _
      (λ t. (all-weights c range u h).1 (λ x k l i. subst (λ (z : ℤ). T (range z)) ((own-places c w u).1 own x k l i) ((all-weights c range w g).0 t x k l i)))
      (λ t. (all-weights c range w g).1 (λ x k l i. subst (λ (z : ℤ). T (range z)) (sym ((own-places c w u).1 own x k l i))
      ((all-weights c range u h).0 t x k l i)))

  pub difference-same : (move : Move) (x k l : ℕ) → IsTuple c x k l → difference c w move x k l ≡ difference c u move x k l
  difference-same (shift e end v a) x k l t = refl
  difference-same (press i lowered raised a) x k l t =
      ap (λ (d : Bool). only_where (eqb x i && lowered k) (neg_ℤ a) +ℤ only_where d a)
      (ap (λ (b : Bool). is_in raised x && not b) (active-same c w u own x t.scope k l t.one t.two))

  pub moved_same : (move : Move) (x k l : ℕ) → IsTuple c x k l → weight c (moved c move w) x k l ≡ weight c (moved c move u) x k l
  moved_same move x k l t =
      weight-spared c w (difference c w move) t
      ∙ ap₂ (λ (z d : ℤ). if is_barred z then z else z +ℤ d) ((own-places c w u).1 own x k l t) (difference-same move x k l t)
      ∙ sym (weight-spared c u (difference c u move) t)
