-- Which pairs gain: one that has a choice does just where each choice comes to less than the three greatest weights, so that a pair with values
-- that are active together with their tuple does not; no pair is left for a round just where each that gains is passed over. Assumes nothing.
use mathlib.Core.Path.{◌≡◌, refl, sym, ap, ap₂, subst}
use mathlib.Core.Bool.{Bool, true, false, not, ◌&&◌}
use mathlib.Core.Logic.{◌↔◌, ⊎_elim}
use mathlib.Core.List.Memᴰ
use mathlib.Core.List.{List, [], ◌∷◌}
use Prim.Native.Nat.{ℕ, ◌+◌, ◌<◌}
use native.Mathlib.Omega.{arith}
use lib.IntN.{ℤ, pos, ◌+ℤ◌}
use lib.Dec.{T, T_not, not_T}
use lib.Signed.{◌≤ℤ◌, lt_z}
use Rattle.std.specs.Prelude.{if◌then◌else◌, Some, None}
use Rattle.integers.specs.Words.{below, all, any, first}
use Rattle.integers.specs.Tests.{either, and_intro, and_left, and_right, or_cases, not-or-iff, not-not-iff, if-true, if-false}
use Rattle.integers.specs.Linear.{flat, zs, ◌▸◌}
use Rattle.integers.specs.Lists.{◌∈◌, any-in, joined_in, in-joined, all-at, any_of, any_at, first-least, first-none, those-none}
use Rattle.integers.specs.Maxima.{greatest-above, greatest-attained}
use Rattle.definitions.specs.declared.Case.{Case}
use Rattle.definitions.specs.Rules.{Rules, Coherent}
use Rattle.definitions.specs.Case.{values, lower_end, upper_end, each_tuple, weight, active, barred}
use Rattle.definitions.specs.Valid.{working_weight}
use Rattle.definitions.specs.PairRounds.{three_at, three_greatest, is_choice, some_choice, choice_totals, best_of_three, gains, passed_over, lowest_pair, Gains}
use Rattle.definitions.specs.PairRounds.{PairsSettled}
use Rattle.theory.proofs.Shape.{Shape, lower-below}
use Rattle.theory.proofs.Places.{IsTuple, variable-tuple, edge-tuple, tuple-in, in-tuples, active-weight}
use Rattle.theory.proofs.Barred.{active-free}
use Rattle.theory.proofs.Validity.{Handed}
use Rattle.pair_theory.specs.Closed.{shifted, both_at, tuple_lowers, pair_lowers}

-- the tuples of the pair's variables
module _ (c : Case) (shape : Shape c) (e : ℕ) (h : e < c.m) where
  pub lower-tuple : {k : ℕ} → k < c.d → IsTuple c (lower_end c e) k 0
  lower-tuple {k} p = variable-tuple c (lower_end c e) k (lower-below shape e h) p

  pub upper-tuple : {l : ℕ} → l < c.d → IsTuple c (upper_end c e) l 0
  upper-tuple {l} q = variable-tuple c (upper_end c e) l (shape.below-n e h) q

-- of a value that is not barred the whole weight is shifted
pub shifted-free : (c : Case) (w : List ℤ) (i k : ℕ) → T (not (barred c w i k 0)) → shifted c w i k ≡ weight c w i k 0
shifted-free c w i k t = if-false (pos 0) (weight c w i k 0) (barred c w i k 0) t

-- ---- choices
module _ (c : Case) (w : List ℤ) (e : ℕ) where
  pub choice-parts : (k l : ℕ) → T (is_choice c w e k l)
      → T (not (barred c w (lower_end c e) k 0)) × T (not (barred c w (upper_end c e) l 0)) × T (not (barred c w (c.n + e) k l))
  choice-parts k l t =
      let s = and_right (not (barred c w (lower_end c e) k 0)) (not (barred c w (upper_end c e) l 0) && not (barred c w (c.n + e) k l)) t in (
        and_left (not (barred c w (lower_end c e) k 0)) (not (barred c w (upper_end c e) l 0) && not (barred c w (c.n + e) k l)) t,
        and_left (not (barred c w (upper_end c e) l 0)) (not (barred c w (c.n + e) k l)) s,
        and_right (not (barred c w (upper_end c e) l 0)) (not (barred c w (c.n + e) k l)) s,
      )

  pub choice-three : (k l : ℕ) → T (is_choice c w e k l) → both_at c w e k l ≡ three_at c w e k l
  choice-three k l t =
      let (a, b, m) = choice-parts k l t in
      ap (λ (z : ℤ). z +ℤ weight c w (c.n + e) k l) (ap₂ ◌+ℤ◌ (shifted-free c w (lower_end c e) k a) (shifted-free c w (upper_end c e) l b))

  pub lowers_at : T (pair_lowers c w e) → {k l : ℕ} → k < c.d → l < c.d → T (not (barred c w (c.n + e) k l))
      → T (lt_z (both_at c w e k l) (three_greatest c w e))
  lowers_at t {k} {l} p q f =
      ⊎_elim (λ s. absurd (T_not (barred c w (c.n + e) k l) f s)) (λ s. s) (or_cases (barred c w (c.n + e) k l) _
      (all-at (tuple_lowers c w e k) c.d (all-at (λ k. all (tuple_lowers c w e k) (values c)) c.d t k p) l q))

  -- a pair with no choice is passed over
  pub taken-choice : (r : Rules) → T (not (passed_over r c w e)) → T (some_choice c w e)
  taken-choice r t = (not-not-iff (some_choice c w e)).0 ((not-or-iff (not (some_choice c w e)) _).0 t).0

  abbrev total_at : ℕ → ℕ → List ℤ
  total_at k l = if is_choice c w e k l then three_at c w e k l ∷ [] else []

  in-total : {z : ℤ} (b : Bool) (y : ℤ) → z ∈ (if b then y ∷ [] else []) → T b × (y ≡ z)
  in-total true y m = (tt, sym (Memᴰ.eq_of_singleton m))
  in-total false y m = absurd (Memᴰ.not-nil m)

  module _ (shape : Shape c) (h : e < c.m) where
    total-in : {k l : ℕ} → IsTuple c (c.n + e) k l → T (is_choice c w e k l) → three_at c w e k l ∈ choice_totals c w e
    total-in {k} {l} t i = joined_in
        (subst (λ (s : List ℤ). three_at c w e k l ∈ s) (sym (if-true (three_at c w e k l ∷ []) [] (is_choice c w e k l) i)) (Memᴰ.head refl))
        (tuple-in c total_at t)

    in-totals : {z : ℤ} → z ∈ choice_totals c w e → (k l : ℕ) × IsTuple c (c.n + e) k l × T (is_choice c w e k l) × (three_at c w e k l ≡ z)
    in-totals {z} m =
        let (s, n, u) = in-joined (each_tuple c (c.n + e) total_at) m in
        let (k, l, t, o) = in-tuples c total_at (c.n + e) (omega arith) n in
        let (i, y) = in-total (is_choice c w e k l) (three_at c w e k l) (subst (λ (s : List ℤ). z ∈ s) (sym o) u) in
        (k, l, t, i, y)

    -- the best total of the three is that of some choice, and passed by none
    pub best-above : {k l : ℕ} → IsTuple c (c.n + e) k l → T (is_choice c w e k l) → three_at c w e k l ≤ℤ best_of_three c w e
    best-above t i = greatest-above (choice_totals c w e) (total-in t i)

    abbrev Best : Type 0
    Best = (k l : ℕ) × IsTuple c (c.n + e) k l × T (is_choice c w e k l) × (three_at c w e k l ≡ best_of_three c w e)

    pub best-reached : {k l : ℕ} → IsTuple c (c.n + e) k l → T (is_choice c w e k l) → Best
    best-reached t i = in-totals (greatest-attained (choice_totals c w e) (total-in t i))

    best-at : T (some_choice c w e) → Best
    best-at s =
        let (b, m, i) = (any-in (λ b. b) (each_tuple c (c.n + e) (is_choice c w e))).0 s in
        let (k, l, t, o) = in-tuples c (is_choice c w e) (c.n + e) (omega arith) m in
        best-reached t (subst T (sym o) i)

    pub gains-iff : T (some_choice c w e) → T (gains c w e) ↔ Gains c w e
    gains-iff s = (
      λ t k l p q i. best-above (edge-tuple c e k l h p q) i ▸ t ▸ simp flat (omega zs),
      λ f. let (k, l, t, i, o) = best-at s in f k l t.one t.two i ▸ o ▸ simp flat (omega zs),
    )

    -- a round that lowers the upper bound is that of a pair that gains
    pub lowers-gains : T (some_choice c w e) → T (pair_lowers c w e) → T (gains c w e)
    lowers-gains s t = (gains-iff s).1 (λ k l p q i. lowers_at t p q (choice-parts k l i).2 ▸ choice-three k l i ▸ simp flat (omega zs))

-- ---- values that are active together with the tuple that they make
module _ {r : Rules} {c : Case} {w : List ℤ} {e : ℕ} (coherent : Coherent r) (h : Handed r (working_weight r) c w) (edge : e < c.m)
    (k l : ℕ) (p : k < c.d) (q : l < c.d) (a : T (active c w (lower_end c e) k 0)) (b : T (active c w (upper_end c e) l 0))
    (m : T (active c w (c.n + e) k l)) where
  active-choice : T (is_choice c w e k l)
  active-choice =
      let free : (x k l : ℕ) → IsTuple c x k l → T (active c w x k l) → T (not (barred c w x k l)) =
      λ x k l t. active-free c coherent w h.in-range x t.scope (h.some-free x t.scope) k l in
      and_intro (not (barred c w (lower_end c e) k 0)) _ (free _ _ _ (lower-tuple c h.shape e edge p) a)
      (and_intro (not (barred c w (upper_end c e) l 0)) _ (free _ _ _ (upper-tuple c h.shape e edge q) b) (free _ _ _ (edge-tuple c e k l edge p q) m))

  active-three : three_at c w e k l ≡ three_greatest c w e
  active-three =
      ap₂ ◌+ℤ◌ (ap₂ ◌+ℤ◌ ((active-weight c w (lower_end c e) k 0).0 a) ((active-weight c w (upper_end c e) l 0).0 b)) ((active-weight c w (c.n + e) k l).0 m)

  pub active-no-gain : T (not (gains c w e))
  active-no-gain = best-above c w e h.shape edge (edge-tuple c e k l edge p q) active-choice ▸ active-three ▸ simp flat (omega zs)

  pub active-not-lower : T (not (pair_lowers c w e))
  active-not-lower = not_T (pair_lowers c w e) (λ t.
      lowers_at c w e t p q (choice-parts c w e k l active-choice).2 ▸ choice-three c w e k l active-choice ▸ active-three ▸ simp flat (omega zs))

module _ (r : Rules) (c : Case) (w : List ℤ) where
  abbrev ready : ℕ → Bool
  ready e = gains c w e && not (passed_over r c w e)

  pub lowest-some : {e : ℕ} → lowest_pair r c w ≡ Some e → (e < c.m) × T (gains c w e) × T (not (passed_over r c w e))
  lowest-some {e} o =
      let (h, t, l) = first-least ready c.m o in
      (h, and_left (gains c w e) (not (passed_over r c w e)) t, and_right (gains c w e) (not (passed_over r c w e)) t)

  pub pairs-settled-iff : Shape c → lowest_pair r c w ≡ None ↔ PairsSettled r c w
  pairs-settled-iff shape = (
    λ o e h g. ⊎_elim (λ t. t)
        (λ t. absurd (T_not (any ready (below c.m)) (first-none ready (below c.m) o) (any_of ready c.m h
        (and_intro (gains c w e) (not (passed_over r c w e)) ((gains-iff c w e shape h (taken-choice c w e r t)).1 g) t)))) (either (passed_over r c w e)),
    λ f. ap first (those-none ready (below c.m) (not_T (any ready (below c.m)) (λ t.
        let (e, h, s) = any_at ready c.m t in
        let n = and_right (gains c w e) (not (passed_over r c w e)) s in
        T_not (passed_over r c w e) n
        (f e h ((gains-iff c w e shape h (taken-choice c w e r n)).0 (and_left (gains c w e) (not (passed_over r c w e)) s)))))),
  )
