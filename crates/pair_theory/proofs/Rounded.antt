-- What a pair's whole round does to the table: a barred tuple keeps its number; of the others, those of both variables are left with weights of
-- 0, each of the edge with the weights added up that the ends shift, and all else as it was. So the upper bound falls by what the three greatest
-- weights pass the edge's greatest one after the round, and no lawful assignment's objective changes. Assumes nothing.
use mathlib.Core.Path.{◌≡◌, refl, sym, ap, ap₂, subst, ◌∙◌}
use mathlib.Core.Bool.{Bool, true, false, not, ◌&&◌}
use mathlib.Core.Logic.{◌≢◌, ◌⊎◌, inl, inr, ⊎_elim}
use mathlib.Core.List.{List}
use Prim.Native.Nat.{ℕ, zero, suc, ◌+◌, ◌<◌}
use native.Mathlib.Omega.{arith}
use lib.IntN.{ℤ, pos, neg_ℤ, ◌+ℤ◌, ◌-ℤ◌, +ℤ_idl, +ℤ_idr}
use lib.Dec.{T, ltb, eqb, eqb→eq}
use Rattle.integers.specs.Words.{greatest_of}
use Rattle.integers.specs.Tests.{tests, is_true, is_false, same_test, either, eqb-iff, not-eqb-iff, if-true, if-false}
use Rattle.integers.specs.Linear.{flat, zs, ◌▸◌, T-eq}
use Rattle.integers.specs.Sums.{sum-zero, Σ-cong, Σ-sub, Σ-add, Σ-only, only}
use Rattle.definitions.specs.declared.Case.{Case}
use Rattle.definitions.specs.Case.{lower_end, upper_end, scope_count, scopes, weight, at_used, greatest, is_assignment, objective, upper_bound}
use Rattle.definitions.specs.Case.{barred_weight, barred, wholly_barred, is_lawful}
use Rattle.definitions.specs.Moves.{Difference, plus, spared, only_where, end_variable, end_value, shift_by}
use Rattle.definitions.specs.PairRounds.{three_greatest}
use Rattle.theory.proofs.Shape.{Shape, lower-below}
use Rattle.theory.proofs.Places.{IsTuple, variable-tuple, edge-tuple, each-cong, greatest-there}
use Rattle.theory.proofs.Totals.{objective_of, first_used, second_used, at-used, objective_of-add, objective_of-cong, objective-plus}
use Rattle.theory.proofs.Shifts.{shift-keeps}
use Rattle.theory.proofs.Barred.{each-some-not, weight-spared, lawful-iff, spared-used}
use Rattle.pair_theory.specs.Closed.{shifted, both_at}
use Rattle.pair_theory.proofs.Gains.{lower-tuple, upper-tuple, shifted-free}

-- the pair's three scopes and the others
pub by-pair : (c : Case) (e : ℕ) (P : ℕ → Type 0) → P (lower_end c e) → P (upper_end c e) → P (c.n + e)
    → ((x : ℕ) → x ≢ lower_end c e → x ≢ upper_end c e → x ≢ c.n + e → P x) → (x : ℕ) → P x
by-pair c e P a b g f x =
    ⊎_elim (λ t. subst P (sym (eqb→eq x (lower_end c e) t)) a)
    (λ s. ⊎_elim (λ t. subst P (sym (eqb→eq x (upper_end c e) t)) b)
    (λ t. ⊎_elim (λ u. subst P (sym (eqb→eq x (c.n + e) u)) g)
    (λ u. f x ((not-eqb-iff x (lower_end c e)).0 s) ((not-eqb-iff x (upper_end c e)).0 t) ((not-eqb-iff x (c.n + e)).0 u))
    (either (eqb x (c.n + e)))) (either (eqb x (upper_end c e)))) (either (eqb x (lower_end c e)))

-- what an end shifts of its values below p into edge e
abbrev pub end_by : Case → List ℤ → ℕ → ℕ → ℕ → Difference
end_by c w e end p x k l =
    only_where (eqb x (end_variable c e end) && ltb k p) (neg_ℤ (shifted c w (end_variable c e end) k))
    +ℤ only_where (eqb x (c.n + e) && ltb (end_value end k l) p) (shifted c w (end_variable c e end) (end_value end k l))

-- those of end 0 below p and of end 1 below q; the whole round
abbrev pub part_by : Case → List ℤ → ℕ → ℕ → ℕ → Difference
part_by c w e p q x k l = end_by c w e 0 p x k l +ℤ end_by c w e 1 q x k l

abbrev pub pair_by : Case → List ℤ → ℕ → Difference
pair_by c w e = part_by c w e c.d c.d

abbrev pub pair_rounded : Case → List ℤ → ℕ → List ℤ
pair_rounded c w e = plus c (spared c w (pair_by c w e)) w

-- ---- one value more
only-more : (s : Bool) (f : ℕ → ℤ) (k p : ℕ) → only_where (s && ltb k (suc p)) (f k) ≡ only_where (s && ltb k p) (f k) +ℤ only_where (s && eqb k p) (f p)
only-more false f k p = refl
only-more true f k p = go (either (eqb k p))
  where
    go : T (eqb k p) ⊎ T (not (eqb k p)) → only_where (ltb k (suc p)) (f k) ≡ only_where (ltb k p) (f k) +ℤ only_where (eqb k p) (f p)
    go (inl t) =
        let o : k ≡ p = eqb→eq k p t in
        rw (is_true (eqb k p) t, is_true (ltb k (suc p)) (simp tests (omega arith)), is_false (ltb k p) (simp tests (omega arith)), o) (sym (+ℤ_idl (f p)))
    go (inr t) =
        let n : k ≢ p = (not-eqb-iff k p).0 t in
        rw (is_false (eqb k p) t, same_test (ltb k (suc p)) (ltb k p) (simp tests (omega arith)) (simp tests (omega arith)))
        (sym (+ℤ_idr (only_where (ltb k p) (f k))))

only_none : (s : Bool) (k : ℕ) (y : ℤ) → only_where (s && ltb k 0) y ≡ pos 0
only_none true k y = if-false y (pos 0) (ltb k 0) (simp tests (omega arith))
only_none false k y = refl

same : (x : ℕ) → eqb x x ≡ true
same x = is_true (eqb x x) ((eqb-iff x x).1 refl)

apart : (x y : ℕ) → x ≢ y → eqb x y ≡ false
apart x y n = is_false (eqb x y) ((not-eqb-iff x y).1 n)

module _ (c : Case) (w : List ℤ) (e : ℕ) where
  pub end_more : (end p x k l : ℕ)
      → end_by c w e end (suc p) x k l ≡ end_by c w e end p x k l +ℤ shift_by c e end p (neg_ℤ (shifted c w (end_variable c e end) p)) x k l
  end_more end p x k l =
      only-more (eqb x (end_variable c e end)) (λ k. neg_ℤ (shifted c w (end_variable c e end) k)) k p
      ▸ only-more (eqb x (c.n + e)) (shifted c w (end_variable c e end)) (end_value end k l) p
      ▸ ap (only_where (eqb x (c.n + e) && eqb (end_value end k l) p)) (twice (shifted c w (end_variable c e end) p))
      ▸ simp flat (omega zs)
    where
      twice : (z : ℤ) → z ≡ neg_ℤ (neg_ℤ z)
      twice z = simp flat (omega zs)

  pub end-begun : (end x k l : ℕ) → end_by c w e end 0 x k l ≡ pos 0
  end-begun end x k l = ap₂ ◌+ℤ◌ (only_none (eqb x (end_variable c e end)) k _) (only_none (eqb x (c.n + e)) (end_value end k l) _)

  -- ---- at each scope
  module _ (shape : Shape c) (h : e < c.m) (p q : ℕ) where
    pub part-lower : (k : ℕ) → part_by c w e p q (lower_end c e) k 0 ≡ only_where (ltb k p) (neg_ℤ (shifted c w (lower_end c e) k))
    part-lower k =
        let o : lower_end c e < upper_end c e = shape.ascending e h in
        let u : upper_end c e < c.n = shape.below-n e h in
        rw (apart (lower_end c e) (upper_end c e) (omega arith), apart (lower_end c e) (c.n + e) (omega arith), same (lower_end c e)) (simp flat (omega zs))

    pub part-upper : (l : ℕ) → part_by c w e p q (upper_end c e) l 0 ≡ only_where (ltb l q) (neg_ℤ (shifted c w (upper_end c e) l))
    part-upper l =
        let o : lower_end c e < upper_end c e = shape.ascending e h in
        let u : upper_end c e < c.n = shape.below-n e h in
        rw (apart (upper_end c e) (lower_end c e) (omega arith), apart (upper_end c e) (c.n + e) (omega arith), same (upper_end c e)) (simp flat (omega zs))

    pub part_edge : (k l : ℕ) → part_by c w e p q (c.n + e) k l
        ≡ only_where (ltb k p) (shifted c w (lower_end c e) k) +ℤ only_where (ltb l q) (shifted c w (upper_end c e) l)
    part_edge k l =
        let o : lower_end c e < upper_end c e = shape.ascending e h in
        let u : upper_end c e < c.n = shape.below-n e h in
        rw (apart (c.n + e) (lower_end c e) (omega arith), apart (c.n + e) (upper_end c e) (omega arith), same (c.n + e)) (simp flat (omega zs))

  pub part-else : (p q x k l : ℕ) → x ≢ lower_end c e → x ≢ upper_end c e → x ≢ c.n + e → part_by c w e p q x k l ≡ pos 0
  part-else p q x k l a b g = rw (apart x (lower_end c e) a, apart x (upper_end c e) b, apart x (c.n + e) g)

  -- ---- the whole round
  pub rounded-barred : {x k l : ℕ} → IsTuple c x k l → T (barred c w x k l) → weight c (pair_rounded c w e) x k l ≡ weight c w x k l
  rounded-barred {x} {k} {l} t b = weight-spared c w (pair_by c w e) t ∙ if-true _ _ (barred c w x k l) b

  rounded-free : {x k l : ℕ} → IsTuple c x k l → T (not (barred c w x k l))
      → weight c (pair_rounded c w e) x k l ≡ weight c w x k l +ℤ pair_by c w e x k l
  rounded-free {x} {k} {l} t f = weight-spared c w (pair_by c w e) t ∙ if-false _ _ (barred c w x k l) f

  pub rounded-else : {x k l : ℕ} → IsTuple c x k l → x ≢ lower_end c e → x ≢ upper_end c e → x ≢ c.n + e
      → weight c (pair_rounded c w e) x k l ≡ weight c w x k l
  rounded-else {x} {k} {l} t a b g = ⊎_elim (rounded-barred t)
      (λ f. rounded-free t f ∙ ap (λ (z : ℤ). weight c w x k l +ℤ z) (part-else c.d c.d x k l a b g) ∙ +ℤ_idr (weight c w x k l))
      (either (barred c w x k l))

  pub greatest-else : {x : ℕ} → x < scope_count c → x ≢ lower_end c e → x ≢ upper_end c e → x ≢ c.n + e
      → greatest c (pair_rounded c w e) x ≡ greatest c w x
  greatest-else {x} o a b g = ap greatest_of (each-cong c x o (λ k l t. rounded-else t a b g))

  -- a variable's scope that has a tuple that is not barred, where those come to 0
  all-spent : {i : ℕ} → i < c.n → T (not (wholly_barred c w i))
      → ((k : ℕ) → k < c.d → T (not (barred c w i k 0)) → weight c (pair_rounded c w e) i k 0 ≡ pos 0) → greatest c (pair_rounded c w e) i ≡ pos 0
  all-spent {i} o some spent =
      let (k, l, t, f) = each-some-not c (barred c w i) i (omega arith) some in
      let z : weight c (pair_rounded c w e) i k 0 ≡ pos 0 = spent k t.one (subst (λ (l : ℕ). T (not (barred c w i k l))) (t.alone o) f) in
      greatest-there c (pair_rounded c w e) (variable-tuple c i k o t.one) (λ a b v. rw (v.alone o) (⊎_elim
      (λ s. z ▸ rounded-barred (variable-tuple c i a o v.one) s ▸ (T-eq (weight c w i a 0) barred_weight).0 s ▸ simp flat (omega zs))
      (λ s. z ▸ spent a v.one s ▸ simp flat (omega zs)) (either (barred c w i a 0))))
      ∙ z

  module _ (shape : Shape c) (h : e < c.m) where
    pub rounded-lower : (k : ℕ) → k < c.d → T (not (barred c w (lower_end c e) k 0)) → weight c (pair_rounded c w e) (lower_end c e) k 0 ≡ pos 0
    rounded-lower k o f =
        rounded-free (lower-tuple c shape e h o) f ▸ part-lower shape h c.d c.d k ▸ shifted-free c w (lower_end c e) k f
        ▸ if-true (neg_ℤ (shifted c w (lower_end c e) k)) (pos 0) (ltb k c.d) (simp tests o) ▸ simp flat (omega zs)

    pub rounded-upper : (l : ℕ) → l < c.d → T (not (barred c w (upper_end c e) l 0)) → weight c (pair_rounded c w e) (upper_end c e) l 0 ≡ pos 0
    rounded-upper l o f =
        rounded-free (upper-tuple c shape e h o) f ▸ part-upper shape h c.d c.d l ▸ shifted-free c w (upper_end c e) l f
        ▸ if-true (neg_ℤ (shifted c w (upper_end c e) l)) (pos 0) (ltb l c.d) (simp tests o) ▸ simp flat (omega zs)

    pub rounded-edge : (k l : ℕ) → k < c.d → l < c.d → T (not (barred c w (c.n + e) k l))
        → weight c (pair_rounded c w e) (c.n + e) k l ≡ both_at c w e k l
    rounded-edge k l o u f =
        rounded-free (edge-tuple c e k l h o u) f ▸ part_edge shape h c.d c.d k l
        ▸ if-true (shifted c w (lower_end c e) k) (pos 0) (ltb k c.d) (simp tests o)
        ▸ if-true (shifted c w (upper_end c e) l) (pos 0) (ltb l c.d) (simp tests u) ▸ simp flat (omega zs)

    pub greatest-lower : T (not (wholly_barred c w (lower_end c e))) → greatest c (pair_rounded c w e) (lower_end c e) ≡ pos 0
    greatest-lower some = all-spent (lower-below shape e h) some rounded-lower

    pub greatest-upper : T (not (wholly_barred c w (upper_end c e))) → greatest c (pair_rounded c w e) (upper_end c e) ≡ pos 0
    greatest-upper some = all-spent (shape.below-n e h) some rounded-upper

    -- ---- the upper bound
    abbrev at_lower : ℕ → ℤ
    at_lower = only (lower_end c e) (greatest c w (lower_end c e))

    abbrev at_upper : ℕ → ℤ
    at_upper = only (upper_end c e) (greatest c w (upper_end c e))

    abbrev edge_fall : ℤ
    edge_fall = greatest c w (c.n + e) -ℤ greatest c (pair_rounded c w e) (c.n + e)

    abbrev at_edge : ℕ → ℤ
    at_edge = only (c.n + e) edge_fall

    abbrev fallen : ℕ → ℤ
    fallen x = (at_lower x +ℤ at_upper x) +ℤ at_edge x

    module _ (lower-some : T (not (wholly_barred c w (lower_end c e)))) (upper-some : T (not (wholly_barred c w (upper_end c e)))) where
      fall-at : (x : ℕ) → x < scope_count c → greatest c (pair_rounded c w e) x ≡ greatest c w x -ℤ fallen x
      fall-at =
          let o : lower_end c e < upper_end c e = shape.ascending e h in
          let u : upper_end c e < c.n = shape.below-n e h in
          by-pair c e (λ x. x < scope_count c → greatest c (pair_rounded c w e) x ≡ greatest c w x -ℤ fallen x)
          (λ s. rw (same (lower_end c e), apart (lower_end c e) (upper_end c e) (omega arith), apart (lower_end c e) (c.n + e) (omega arith))
          (greatest-lower lower-some ▸ simp flat (omega zs)))
          (λ s. rw (same (upper_end c e), apart (upper_end c e) (lower_end c e) (omega arith), apart (upper_end c e) (c.n + e) (omega arith))
          (greatest-upper upper-some ▸ simp flat (omega zs)))
          (λ s. rw (same (c.n + e), apart (c.n + e) (lower_end c e) (omega arith), apart (c.n + e) (upper_end c e) (omega arith))
          (simp flat (omega zs)))
          (λ x a b g s. rw (greatest-else s a b g, apart x (lower_end c e) a, apart x (upper_end c e) b, apart x (c.n + e) g) (simp flat (omega zs)))

      pub pair-fall : upper_bound c (pair_rounded c w e) ≡ upper_bound c w -ℤ (three_greatest c w e -ℤ greatest c (pair_rounded c w e) (c.n + e))
      pair-fall =
          let o : lower_end c e < upper_end c e = shape.ascending e h in
          let u : upper_end c e < c.n = shape.below-n e h in
          Σ-cong (greatest c (pair_rounded c w e)) (λ x. greatest c w x -ℤ fallen x) 0 (scope_count c) (λ x a b. fall-at x (omega arith))
          ▸ Σ-sub (greatest c w) fallen 0 (scope_count c) ▸ Σ-add (λ x. at_lower x +ℤ at_upper x) at_edge 0 (scope_count c)
          ▸ Σ-add at_lower at_upper 0 (scope_count c)
          ▸ Σ-only (lower_end c e) (greatest c w (lower_end c e)) 0 (scope_count c) (omega arith) (omega arith)
          ▸ Σ-only (upper_end c e) (greatest c w (upper_end c e)) 0 (scope_count c) (omega arith) (omega arith)
          ▸ Σ-only (c.n + e) edge_fall 0 (scope_count c) (omega arith) (omega arith)
          ▸ simp flat (omega zs)

    -- ---- objectives
    module _ (p : List ℕ) where
      end-keeps : T (is_assignment c p) → (end q : ℕ) → objective_of c (end_by c w e end q) p ≡ pos 0
      end-keeps a end zero =
          sum-zero (λ x. at_used c p x (end_by c w e end 0 x)) (scopes c)
          (λ x m. at-used c p (end_by c w e end 0 x) x ∙ end-begun end x (first_used c p x) (second_used c p x))
      end-keeps a end (suc q) =
          let z : ℤ = neg_ℤ (shifted c w (end_variable c e end) q) in
          objective_of-cong shape p a (end_by c w e end (suc q)) (λ x k l. end_by c w e end q x k l +ℤ shift_by c e end q z x k l)
          (λ x k l t. end_more end q x k l)
          ∙ objective_of-add c p (end_by c w e end q) (shift_by c e end q z) ∙ ap₂ ◌+ℤ◌ (end-keeps a end q) (shift-keeps c e end q z shape h p)

      pub pair_keeps : T (is_lawful c w p) → objective c (pair_rounded c w e) p ≡ objective c w p
      pair_keeps t =
          let a = ((lawful-iff c w p).0 t).0 in
          objective-plus shape p a (spared c w (pair_by c w e)) w
          ∙ ap (λ (z : ℤ). objective c w p +ℤ z) (spared-used c w p t (pair_by c w e)
          ∙ objective_of-add c p (end_by c w e 0 c.d) (end_by c w e 1 c.d) ∙ ap₂ ◌+ℤ◌ (end-keeps a 0 c.d) (end-keeps a 1 c.d))
          ∙ +ℤ_idr (objective c w p)
