-- What an assignment uses and what it comes to: adding a difference to the table adds what the difference comes to; no objective passes the
-- upper bound (Theorem 1), and one meets it just where every tuple that the assignment uses is active. Assumes nothing.
use mathlib.Core.Path.{◌≡◌, refl, sym, ap, ap₂, subst, ◌∙◌}
use mathlib.Core.Bool.{Bool, true, false, not, ◌&&◌}
use mathlib.Core.Logic.{◌↔◌, ⊎_elim}
use mathlib.Core.List.{List, map}
use Prim.Native.Nat.{ℕ, ◌+◌, ◌<◌}
use native.Mathlib.Omega.{arith}
use lib.IntN.{ℤ, ◌+ℤ◌}
use lib.Dec.{T, eqb, ltb, eqb→eq, ltb→lt}
use lib.Signed.{◌≤ℤ◌, ◌<ℤ◌}
use lib.ListN.{length}
use Rattle.std.specs.Prelude.{if◌then◌else◌}
use Rattle.integers.specs.Words.{all, sum}
use Rattle.integers.specs.Tests.{is_true, is_false, eqb-iff, not-eqb-iff, either, if-true, if-false, and_left, and_right}
use Rattle.integers.specs.Linear.{flat, ◌▸◌, zs}
use Rattle.integers.specs.Lists.{below_in, in-below}
use Rattle.integers.specs.Tables.{all_get_d}
use Rattle.integers.specs.Sums.{sum-cong, sum_mono, sum-strict, sum-add}
use Rattle.definitions.specs.declared.Case.{Case}
use Rattle.definitions.specs.Case.{lower_end, upper_end, scope_count, scopes, is_variable, edge_of, weight}
use Rattle.definitions.specs.Case.{is_assignment, value_of, at_used, objective, greatest, sum_of_greatest, upper_bound, active}
use Rattle.definitions.specs.Moves.{Difference, plus, only_where}
use Rattle.theory.proofs.Shape.{Shape, lower-below}
use Rattle.theory.proofs.Words.{sum_one}
use Rattle.theory.proofs.Places.{IsTuple, by-scope, variable-is, edge-is, edge-of, variable-tuple}
use Rattle.theory.proofs.Places.{edge-tuple, weight-plus, weight-most, active-weight, inactive-less}

-- what a number for each tuple comes to under assignment p
abbrev pub objective_of : Case → Difference → List ℕ → ℤ
objective_of c δ p = sum (map (λ x. at_used c p x (δ x)) (scopes c))

-- the tuple that p uses in scope x
abbrev pub first_used : Case → List ℕ → ℕ → ℕ
first_used c p x = at_used c p x (λ k l. k)

abbrev pub second_used : Case → List ℕ → ℕ → ℕ
second_used c p x = at_used c p x (λ k l. l)

if-both : {A : Type 0} (b : Bool) (f : ℕ → ℕ → A) (i j u v : ℕ) → (if b then f i j else f u v) ≡ f (if b then i else u) (if b then j else v)
if-both true f i j u v = refl
if-both false f i j u v = refl

module _ (c : Case) (p : List ℕ) where
  module _ {A : Type 0} where
    pub used-variable : (f : ℕ → ℕ → A) (i : ℕ) → i < c.n → at_used c p i f ≡ f (value_of p i) 0
    used-variable f i h = if-true _ _ (is_variable c i) (variable-is c h)

    pub used-edge : (f : ℕ → ℕ → A) (e : ℕ) → at_used c p (c.n + e) f ≡ f (value_of p (lower_end c e)) (value_of p (upper_end c e))
    used-edge f e = if-false _ _ (is_variable c (c.n + e)) (edge-is c e) ∙ ap (λ (e : ℕ). f (value_of p (lower_end c e)) (value_of p (upper_end c e))) (edge-of c e)

    pub at-used : (f : ℕ → ℕ → A) (x : ℕ) → at_used c p x f ≡ f (first_used c p x) (second_used c p x)
    at-used f x = if-both (is_variable c x) f (value_of p x) 0 (value_of p (lower_end c (edge_of c x))) (value_of p (upper_end c (edge_of c x)))

  pub objective_of-add : (δ γ : Difference) → objective_of c (λ x k l. δ x k l +ℤ γ x k l) p ≡ objective_of c δ p +ℤ objective_of c γ p
  objective_of-add δ γ =
      sum-cong _ (λ x. at_used c p x (δ x) +ℤ at_used c p x (γ x)) (scopes c)
      (λ x m. at-used (λ k l. δ x k l +ℤ γ x k l) x ∙ sym (ap₂ ◌+ℤ◌ (at-used (δ x) x) (at-used (γ x) x)))
      ∙ sum-add (λ x. at_used c p x (δ x)) (λ x. at_used c p x (γ x)) (scopes c)

  -- a difference in one scope
  pub objective_of-one : (test : ℕ → ℕ → Bool) (a : ℤ) {y : ℕ} → y < scope_count c
      → objective_of c (λ x k l. only_where (eqb x y && test k l) a) p ≡ only_where (at_used c p y test) a
  objective_of-one test a {y} h =
      sum_one (λ x. at_used c p x (λ k l. only_where (eqb x y && test k l) a)) (scope_count c) h
      (λ x u n. at-used (λ k l. only_where (eqb x y && test k l) a) x ∙ rw (is_false (eqb x y) ((not-eqb-iff x y).1 n)))
      ∙ at-used (λ k l. only_where (eqb y y && test k l) a) y ∙ rw (is_true (eqb y y) ((eqb-iff y y).1 refl), at-used test y)

module _ {c : Case} (s : Shape c) (p : List ℕ) (a : T (is_assignment c p)) where
  pub value-used : (j : ℕ) → j < c.n → value_of p j < c.d
  value-used j h =
      let e : length p ≡ c.n = eqb→eq (length p) c.n (and_left (eqb (length p) c.n) (all (λ k. ltb k c.d) p) a) in
      ltb→lt (value_of p j) c.d ((all_get_d (λ k. ltb k c.d) p 0).0 (and_right (eqb (length p) c.n) (all (λ k. ltb k c.d) p) a) j (omega arith))

  pub used-tuple : (x : ℕ) → x < scope_count c → IsTuple c x (first_used c p x) (second_used c p x)
  used-tuple = by-scope c (λ x. IsTuple c x (first_used c p x) (second_used c p x))
      (λ i h. rw (used-variable c p (λ k l. k) i h, used-variable c p (λ k l. l) i h) (variable-tuple c i (value_of p i) h (value-used i h)))
      (λ e h.
      let o : lower_end c e < c.n = lower-below s e h in
      rw (used-edge c p (λ k l. k) e, used-edge c p (λ k l. l) e)
      (edge-tuple c e (value_of p (lower_end c e)) (value_of p (upper_end c e)) h (value-used (lower_end c e) o) (value-used (upper_end c e) (s.below-n e h))))

  -- what holds at every tuple of a scope holds at the one that is used
  pub at-used-holds : {A : Type 0} (P : A → Type 0) (x : ℕ) → x < scope_count c → (f : ℕ → ℕ → A) → ((k l : ℕ) → IsTuple c x k l → P (f k l))
      → P (at_used c p x f)
  at-used-holds P x h f all_of = subst P (sym (at-used c p f x)) (all_of (first_used c p x) (second_used c p x) (used-tuple x h))

  module _ (δ γ : Difference) where
    pub objective_of-cong : ((x k l : ℕ) → IsTuple c x k l → δ x k l ≡ γ x k l) → objective_of c δ p ≡ objective_of c γ p
    objective_of-cong same =
        sum-cong (λ x. at_used c p x (δ x)) (λ x. at_used c p x (γ x)) (scopes c)
        (λ x m. rw (at-used c p (δ x) x, at-used c p (γ x) x) (same x _ _ (used-tuple x (in-below (scope_count c) m))))

  pub objective-plus : (δ : Difference) (w : List ℤ) → objective c (plus c δ w) p ≡ objective c w p +ℤ objective_of c δ p
  objective-plus δ w =
      objective_of-cong (weight c (plus c δ w)) (λ x k l. weight c w x k l +ℤ δ x k l) (λ x k l t. weight-plus c δ w t)
      ∙ objective_of-add c p (weight c w) δ

  -- Theorem 1
  module _ (w : List ℤ) where
    used-most : (x : ℕ) → x < scope_count c → at_used c p x (weight c w x) ≤ℤ greatest c w x
    used-most x h = at-used-holds (λ z. z ≤ℤ greatest c w x) x h (weight c w x) (λ k l t. weight-most c w t)

    pub bound-above : (objective c w p +ℤ c.carry) ≤ℤ upper_bound c w
    bound-above =
        sum_mono (λ x. at_used c p x (weight c w x)) (greatest c w) (scopes c) (λ x m. used-most x (in-below (scope_count c) m))
        ▸ simp flat (omega zs)

    used-less : (x : ℕ) → x < scope_count c → T (not (at_used c p x (active c w x))) → at_used c p x (weight c w x) <ℤ greatest c w x
    used-less x h t = rw (at-used c p (weight c w x) x) (inactive-less c w (used-tuple x h) (rw (at-used c p (active c w x) x) at t))

    pub bound-met : objective c w p +ℤ c.carry ≡ upper_bound c w ↔ ((x : ℕ) → x < scope_count c → T (at_used c p x (active c w x)))
    bound-met = (
      λ e x h. ⊎_elim (λ t. t) (λ t.
          let l : objective c w p <ℤ sum_of_greatest c w = sum-strict (λ x. at_used c p x (weight c w x)) (greatest c w) (below_in h) (used-less x h t)
          (λ x m. used-most x (in-below (scope_count c) m)) in
          absurd (l ▸ e ▸ simp flat (omega zs))) (either (at_used c p x (active c w x))),
      λ f. ap (λ (z : ℤ). z +ℤ c.carry) (sum-cong (λ x. at_used c p x (weight c w x)) (greatest c w) (scopes c) (λ x m.
          at-used c p (weight c w x) x ∙ (active-weight c w x (first_used c p x) (second_used c p x)).0
          (rw (at-used c p (active c w x) x) at (f x (in-below (scope_count c) m))))),
    )
