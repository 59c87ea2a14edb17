-- How many rounds are left: from any table that every call takes each round leaves fewer. The count is the number of inactive tuples, and
-- 1 + D² for each edge whose variables are not yet both level: all values that are not barred are active, and none is above 0. A press keeps
-- what is active and makes one more tuple active, and no greatest weight rises. A pair's round leaves both variables level, which they were
-- not, as a round between level variables would not lower the upper bound, and makes at most the D² tuples of its edge inactive. Assumes
-- nothing.
use mathlib.Core.Path.{◌≡◌, sym, ap, subst, ◌∙◌}
use mathlib.Core.Bool.{Bool, true, false, not, ◌&&◌, ◌||◌}
use mathlib.Core.Logic.{◌≢◌, ⊎_elim}
use mathlib.Core.List.{List}
use Prim.Native.Nat.{ℕ, suc, ◌+◌, ◌*◌, ◌≤◌, ◌<◌}
use native.Mathlib.Omega.{arith}
use lib.IntN.{ℤ, pos}
use lib.Dec.{T, T_not, not_T, eqb, eqb→eq}
use lib.Signed.{◌≤ℤ◌, le_z}
use Rattle.std.specs.Prelude.{if◌then◌else◌, Some, None}
use Rattle.integers.specs.Words.{below, all, is_in}
use Rattle.integers.specs.Tests.{either, if-cases, and_intro, and_left, and_right, or_left, or_right, or_cases, not-eqb-iff}
use Rattle.integers.specs.Options.{some_inj, found-else}
use Rattle.integers.specs.Linear.{flat, zs, ◌▸◌}
use Rattle.integers.specs.Lists.{all-at, all_of}
use Rattle.definitions.specs.declared.Case.{Case}
use Rattle.definitions.specs.Case.{lower_end, upper_end, weight, greatest, active, barred}
use Rattle.definitions.specs.Rules.{Rules, Coherent}
use Rattle.definitions.specs.Valid.{working_weight}
use Rattle.definitions.specs.Moves.{Move, leaves_range, after_moves}
use Rattle.definitions.specs.PairRounds.{gains, passed_over, some_choice, lowest_pair}
use Rattle.definitions.specs.Engine.{chosen, kept_scopes, least_gap, round, void, engine_next, pairs_next}
use Rattle.theory.proofs.Shape.{Shape, lower-below}
use Rattle.theory.proofs.Places.{IsTuple, by-tuple, variable-tuple, edge-tuple, active-weight, some-active}
use Rattle.theory.proofs.Barred.{active-free}
use Rattle.theory.proofs.Validity.{Handed}
use Rattle.pair_theory.specs.Closed.{shifted, pair_leaves, pair_lowers}
use Rattle.pair_theory.proofs.Gains.{lowest-some}
use Rattle.pair_theory.proofs.Rounded.{pair_rounded, by-pair, rounded-lower, rounded-upper, rounded-else, greatest-lower, greatest-upper, greatest-else}
use Rattle.pair_theory.proofs.Passing.{after-pair, rounded-bars, ready-is}
use Rattle.press_theory.proofs.Trim.{chosen-some, kept-refuted, not-all-open}
use Rattle.press_theory.proofs.Gaps.{amount-reached}
use Rattle.press_theory.proofs.Fall.{engine_pressed, after-press, no-rise}
use Rattle.reach_theory.proofs.Next.{engine-next-is, engine-next-void, pairs-are-next}
use Rattle.reach_theory.proofs.Kept.{remains-not, below as bars-below, same-bars, active-kept, one-more-active}
use Rattle.reach_theory.specs.Most.{most_rounds}
use Rattle.reach_theory.proofs.Summing.{summed, summed-most, summed-mono, summed-less, summed-more}

-- u unless the test passes
abbrev unless : Bool → ℕ → ℕ
unless b u = if b then 0 else u

unless-most : (b : Bool) (u : ℕ) → unless b u ≤ u
unless-most true u = omega arith
unless-most false u = omega arith

unless-mono : (a b : Bool) (u : ℕ) → (T a → T b) → unless b u ≤ unless a u
unless-mono true true u h = omega arith
unless-mono true false u h = absurd (h tt)
unless-mono false b u h = unless-most b u

unless-less : (a b : Bool) (u : ℕ) → T (not a) → T b → unless b u + u ≤ unless a u
unless-less a false u n t = absurd t
unless-less true true u n t = absurd n
unless-less false true u n t = omega arith

-- a variable is level: all values that are not barred are active, and none is above 0; both variables of an edge are
abbrev is_level : Case → List ℤ → ℕ → Bool
is_level c w i = all (λ k. barred c w i k 0 || active c w i k 0) (below c.d) && le_z (greatest c w i) (pos 0)

abbrev both_level : Case → List ℤ → ℕ → Bool
both_level c w e = is_level c w (lower_end c e) && is_level c w (upper_end c e)

abbrev edge_left : Case → List ℤ → ℕ → ℕ
edge_left c w e = unless (both_level c w e) (suc (c.d * c.d))

abbrev variable_inactive : Case → List ℤ → ℕ → ℕ
variable_inactive c w i = summed (λ k. unless (active c w i k 0) 1) c.d

abbrev edge_inactive : Case → List ℤ → ℕ → ℕ
edge_inactive c w e = summed (λ k. summed (λ l. unless (active c w (c.n + e) k l) 1) c.d) c.d

pub rounds_left : Case → List ℤ → ℕ
rounds_left c w = summed (edge_left c w) c.m + (summed (variable_inactive c w) c.n + summed (edge_inactive c w) c.m)

module _ (c : Case) (w : List ℤ) where
  variable-most : (i : ℕ) → variable_inactive c w i ≤ c.d
  variable-most i = omega (arith, summed-most (λ k. unless (active c w i k 0) 1) 1 c.d (λ k p. unless-most (active c w i k 0) 1))

  edge-most : (e : ℕ) → edge_inactive c w e ≤ c.d * c.d
  edge-most e = summed-most _ c.d c.d (λ k p.
      omega (arith, summed-most (λ l. unless (active c w (c.n + e) k l) 1) 1 c.d (λ l q. unless-most (active c w (c.n + e) k l) 1)))

  pub left-most : rounds_left c w ≤ most_rounds c
  unfolding rounds_left
  left-most = omega (
    arith,
    summed-most (edge_left c w) (suc (c.d * c.d)) c.m (λ e h. unless-most (both_level c w e) (suc (c.d * c.d))),
    summed-most (variable_inactive c w) c.d c.n (λ i h. variable-most i),
    summed-most (edge_inactive c w) (c.d * c.d) c.m (λ e h. edge-most e),
  )

-- what is level stays so
module _ (c : Case) (w v : List ℤ) (shape : Shape c) (level : (i : ℕ) → i < c.n → T (is_level c w i) → T (is_level c v i)) where
  edges-left : (e : ℕ) → e < c.m → edge_left c v e ≤ edge_left c w e
  edges-left e h = unless-mono (both_level c w e) (both_level c v e) (suc (c.d * c.d)) (λ t.
      and_intro (is_level c v (lower_end c e)) (is_level c v (upper_end c e))
      (level (lower_end c e) (lower-below shape e h) (and_left (is_level c w (lower_end c e)) (is_level c w (upper_end c e)) t))
      (level (upper_end c e) (shape.below-n e h) (and_right (is_level c w (lower_end c e)) (is_level c w (upper_end c e)) t)))

-- the active values of variables stay active
module _ (c : Case) (w v : List ℤ) (kept : (i k : ℕ) → i < c.n → k < c.d → T (active c w i k 0) → T (active c v i k 0)) where
  values-left : (i k : ℕ) → i < c.n → k < c.d → unless (active c v i k 0) 1 ≤ unless (active c w i k 0) 1
  values-left i k h p = unless-mono (active c w i k 0) (active c v i k 0) 1 (kept i k h p)

  variables-left : (i : ℕ) → i < c.n → variable_inactive c v i ≤ variable_inactive c w i
  variables-left i h = summed-mono _ _ c.d (λ k p. values-left i k h p)

  -- and a variable stays level, if its barred values do and its greatest weight does not rise
  level-kept : (i : ℕ) → i < c.n → ((k : ℕ) → k < c.d → barred c v i k 0 ≡ barred c w i k 0) → greatest c v i ≤ℤ greatest c w i → T (is_level c w i)
      → T (is_level c v i)
  level-kept i h bars fall t =
      let f = and_left (all (λ k. barred c w i k 0 || active c w i k 0) (below c.d)) (le_z (greatest c w i) (pos 0)) t in
      let g = and_right (all (λ k. barred c w i k 0 || active c w i k 0) (below c.d)) (le_z (greatest c w i) (pos 0)) t in
      and_intro (all (λ k. barred c v i k 0 || active c v i k 0) (below c.d)) (le_z (greatest c v i) (pos 0))
      (all_of (λ k. barred c v i k 0 || active c v i k 0) c.d (λ k p. ⊎_elim
      (λ s. or_left (barred c v i k 0) (active c v i k 0) (subst T (sym (bars k p)) s))
      (λ s. or_right (barred c v i k 0) (active c v i k 0) (kept i k h p s))
      (or_cases (barred c w i k 0) (active c w i k 0) (all-at (λ k. barred c w i k 0 || active c w i k 0) c.d f k p))))
      (g ▸ fall ▸ simp flat (omega zs))

-- so do those of an edge
module _ (c : Case) (w v : List ℤ) (e : ℕ) (kept : (k l : ℕ) → k < c.d → l < c.d → T (active c w (c.n + e) k l) → T (active c v (c.n + e) k l)) where
  tuples-left : (k l : ℕ) → k < c.d → l < c.d → unless (active c v (c.n + e) k l) 1 ≤ unless (active c w (c.n + e) k l) 1
  tuples-left k l p q = unless-mono (active c w (c.n + e) k l) (active c v (c.n + e) k l) 1 (kept k l p q)

  rows_left : (k : ℕ) → k < c.d → summed (λ l. unless (active c v (c.n + e) k l) 1) c.d ≤ summed (λ l. unless (active c w (c.n + e) k l) 1) c.d
  rows_left k p = summed-mono _ _ c.d (λ l q. tuples-left k l p q)

  edge-left : edge_inactive c v e ≤ edge_inactive c w e
  edge-left = summed-mono _ _ c.d (λ k p. rows_left k p)

-- ---- a press
module _ {r : Rules} {c : Case} {w : List ℤ} {i : ℕ} {a : ℤ} (coherent : Coherent r) (handed : Handed r (working_weight r) c w) (which : chosen c w ≡ Some i)
    (least : least_gap c w i ≡ Some a) (stays : T (not (leaves_range r c w (engine_pressed c w i a)))) where
  abbrev v : List ℤ
  v = engine_pressed c w i a

  values-kept : (i k : ℕ) → i < c.n → k < c.d → T (active c w i k 0) → T (active c v i k 0)
  values-kept i k h p = active-kept coherent handed which least stays (variable-tuple c i k h p)

  tuples-kept : (e : ℕ) → e < c.m → (k l : ℕ) → k < c.d → l < c.d → T (active c w (c.n + e) k l) → T (active c v (c.n + e) k l)
  tuples-kept e h k l p q = active-kept coherent handed which least stays (edge-tuple c e k l h p q)

  press-level : (j : ℕ) → j < c.n → T (is_level c w j) → T (is_level c v j)
  press-level j h = level-kept c w v values-kept j h (λ k p. same-bars coherent handed which least stays (variable-tuple c j k h p))
      (no-rise c w handed.shape which least (bars-below coherent handed which least stays) j (omega arith))

  press-less : rounds_left c v < rounds_left c w
  unfolding rounds_left
  press-less =
      let shape = handed.shape in
      let (x, k, l, u, n, t) = one-more-active coherent handed which least stays in
      by-tuple c (λ x k l. T (not (active c w x k l)) → T (active c v x k l) → rounds_left c v < rounds_left c w)
      (λ i k h p n t.
      let o = summed-less (variable_inactive c v) (variable_inactive c w) 1 {i = i} c.n h
      (summed-less _ _ 1 {i = k} c.d p (unless-less (active c w i k 0) (active c v i k 0) 1 n t) (λ k p. values-left c w v values-kept i k h p))
      (λ i h. variables-left c w v values-kept i h) in
      omega (
        arith,
        summed-mono (edge_left c v) (edge_left c w) c.m (λ e h. edges-left c w v shape press-level e h),
        summed-mono (edge_inactive c v) (edge_inactive c w) c.m (λ e h. edge-left c w v e (tuples-kept e h)),
      ))
      (λ e k l h p q n t.
      let o = summed-less (edge_inactive c v) (edge_inactive c w) 1 {i = e} c.m h
      (summed-less _ _ 1 {i = k} c.d p
      (summed-less _ _ 1 {i = l} c.d q (unless-less (active c w (c.n + e) k l) (active c v (c.n + e) k l) 1 n t)
      (λ l q. tuples-left c w v e (tuples-kept e h) k l p q))
      (λ k p. rows_left c w v e (tuples-kept e h) k p))
      (λ e h. edge-left c w v e (tuples-kept e h)) in
      omega (
        arith,
        summed-mono (edge_left c v) (edge_left c w) c.m (λ e h. edges-left c w v shape press-level e h),
        summed-mono (variable_inactive c v) (variable_inactive c w) c.n (λ i h. variables-left c w v values-kept i h),
      )) u n t

-- an inactive tuple is counted
module _ (c : Case) (w : List ℤ) where
  one_left : (b : Bool) → T (not b) → 0 + 1 ≤ unless b 1
  one_left true n = absurd n
  one_left false n = omega arith

  inactive-left : {x k l : ℕ} → IsTuple c x k l → T (not (active c w x k l)) → 0 < rounds_left c w
  unfolding rounds_left
  inactive-left = by-tuple c (λ x k l. T (not (active c w x k l)) → 0 < rounds_left c w)
      (λ i k h p n. omega (
        arith,
        summed-less (λ i. 0) (variable_inactive c w) 1 {i = i} c.n h (omega (
          arith,
          summed-less (λ k. 0) (λ k. unless (active c w i k 0) 1) 1 {i = k} c.d p (one_left (active c w i k 0) n) (λ k p. omega arith),
        )) (λ i h. omega arith),
      ))
      (λ e k l h p q n. omega (
        arith,
        summed-less (λ e. 0) (edge_inactive c w) 1 {i = e} c.m h (omega (
          arith,
          summed-less (λ k. 0) (λ k. summed (λ l. unless (active c w (c.n + e) k l) 1) c.d) 1 {i = k} c.d p (omega (
            arith,
            summed-less (λ l. 0) (λ l. unless (active c w (c.n + e) k l) 1) 1 {i = l} c.d q (one_left (active c w (c.n + e) k l) n) (λ l q. omega arith),
          )) (λ k p. omega arith),
        )) (λ e h. omega arith),
      ))

-- ---- a pair's round
module _ {r : Rules} {c : Case} {w : List ℤ} {e : ℕ} (coherent : Coherent r) (handed : Handed r (working_weight r) c w) (h : e < c.m) where
  abbrev rounded : List ℤ
  rounded = pair_rounded c w e

  abbrev shape : Shape c
  shape = handed.shape

  lower_in : lower_end c e < c.n
  lower_in = lower-below shape e h

  -- what is shifted of a value of a level variable is no less than its greatest weight
  level-shifted : (i k : ℕ) → k < c.d → T (is_level c w i) → greatest c w i ≤ℤ shifted c w i k
  level-shifted i k p t =
      let f = and_left (all (λ k. barred c w i k 0 || active c w i k 0) (below c.d)) (le_z (greatest c w i) (pos 0)) t in
      let g = and_right (all (λ k. barred c w i k 0 || active c w i k 0) (below c.d)) (le_z (greatest c w i) (pos 0)) t in
      if-cases (λ z. greatest c w i ≤ℤ z) (barred c w i k 0) (pos 0) (weight c w i k 0)
      (λ s. g ▸ simp flat (omega zs))
      (λ s. ⊎_elim (λ b. absurd (T_not (barred c w i k 0) s b)) (λ b. (active-weight c w i k 0).0 b ▸ simp flat (omega zs))
      (or_cases (barred c w i k 0) (active c w i k 0) (all-at (λ k. barred c w i k 0 || active c w i k 0) c.d f k p)))

  -- a pair whose round lowers the upper bound is not level
  not-both : T (pair_lowers c w e) → T (not (both_level c w e))
  not-both t = not_T (both_level c w e) (λ b.
      let (k, l, u, a) = some-active c w (edge-tuple c e 0 0 h shape.some-value shape.some-value) in
      let f = active-free c coherent w handed.in-range (c.n + e) (omega arith) (handed.some-free (c.n + e) (omega arith)) k l a in
      T_not (pair_lowers c w e) (remains-not c w e (
        k,
        l,
        u.one,
        u.two,
        f,
        (active-weight c w (c.n + e) k l).0 a
            ▸ level-shifted (lower_end c e) k u.one (and_left (is_level c w (lower_end c e)) (is_level c w (upper_end c e)) b)
            ▸ level-shifted (upper_end c e) l u.two (and_right (is_level c w (lower_end c e)) (is_level c w (upper_end c e)) b) ▸ simp flat (omega zs),
      )) t)

  pair-some : T (pair_lowers c w e) → 0 < rounds_left c w
  unfolding rounds_left
  pair-some t = omega (
    arith,
    summed-less (λ e. 0) (edge_left c w) 1 {i = e} c.m h (omega (arith, unless-less (both_level c w e) true (suc (c.d * c.d)) (not-both t) tt))
        (λ e h. omega arith),
  )

  module _ (stays : T (not (pair_leaves r c w e))) where
    bars : {x k l : ℕ} → IsTuple c x k l → barred c rounded x k l ≡ barred c w x k l
    bars = rounded-bars coherent handed h stays

    lower-zero : greatest c rounded (lower_end c e) ≡ pos 0
    lower-zero = greatest-lower c w e shape h (handed.some-free (lower_end c e) (omega (arith, lower_in)))

    upper-zero : greatest c rounded (upper_end c e) ≡ pos 0
    upper-zero = greatest-upper c w e shape h (handed.some-free (upper_end c e) (omega (arith, shape.below-n e h)))

    end-level : (i : ℕ) → i < c.n → greatest c rounded i ≡ pos 0
        → ((k : ℕ) → k < c.d → T (not (barred c w i k 0)) → weight c rounded i k 0 ≡ pos 0) → T (is_level c rounded i)
    end-level i o g z = and_intro (all (λ k. barred c rounded i k 0 || active c rounded i k 0) (below c.d)) (le_z (greatest c rounded i) (pos 0))
        (all_of (λ k. barred c rounded i k 0 || active c rounded i k 0) c.d (λ k p. ⊎_elim
        (λ t. or_left (barred c rounded i k 0) (active c rounded i k 0) (subst T (sym (bars (variable-tuple c i k o p))) t))
        (λ t. or_right (barred c rounded i k 0) (active c rounded i k 0) ((active-weight c rounded i k 0).1 (z k p t ∙ sym g)))
        (either (barred c w i k 0))))
        (g ▸ simp flat (omega zs))

    lower-level : T (is_level c rounded (lower_end c e))
    lower-level = end-level (lower_end c e) lower_in lower-zero (rounded-lower c w e shape h)

    upper-level : T (is_level c rounded (upper_end c e))
    upper-level = end-level (upper_end c e) (shape.below-n e h) upper-zero (rounded-upper c w e shape h)

    else-kept : {x k l : ℕ} → IsTuple c x k l → x ≢ lower_end c e → x ≢ upper_end c e → x ≢ c.n + e → T (active c w x k l) → T (active c rounded x k l)
    else-kept {x} {k} {l} u a b g t = (active-weight c rounded x k l).1
        (rounded-else c w e u a b g ∙ (active-weight c w x k l).0 t ∙ sym (greatest-else c w e u.scope a b g))

    -- an active value of a level variable's is active still: it is not barred
    end_kept : (i k : ℕ) → i < c.n → k < c.d → T (is_level c rounded i) → T (active c w i k 0) → T (active c rounded i k 0)
    end_kept i k o p t s =
        let f = active-free c coherent w handed.in-range i (omega arith) (handed.some-free i (omega arith)) k 0 s in
        ⊎_elim (λ b. absurd (T_not (barred c w i k 0) f (subst T (bars (variable-tuple c i k o p)) b))) (λ b. b)
        (or_cases (barred c rounded i k 0) (active c rounded i k 0) (all-at (λ k. barred c rounded i k 0 || active c rounded i k 0) c.d
        (and_left (all (λ k. barred c rounded i k 0 || active c rounded i k 0) (below c.d)) (le_z (greatest c rounded i) (pos 0)) t) k p))

    round-kept : (i k : ℕ) → i < c.n → k < c.d → T (active c w i k 0) → T (active c rounded i k 0)
    round-kept = by-pair c e (λ i. (k : ℕ) → i < c.n → k < c.d → T (active c w i k 0) → T (active c rounded i k 0))
        (λ k o p t. end_kept (lower_end c e) k o p lower-level t) (λ k o p t. end_kept (upper_end c e) k o p upper-level t) (λ k o p t. absurd (omega arith))
        (λ i a b g k o p t. else-kept (variable-tuple c i k o p) a b g t)

    round-level : (i : ℕ) → i < c.n → T (is_level c w i) → T (is_level c rounded i)
    round-level = by-pair c e (λ i. i < c.n → T (is_level c w i) → T (is_level c rounded i)) (λ o t. lower-level) (λ o t. upper-level)
        (λ o t. absurd (omega arith))
        (λ i a b g o. level-kept c w rounded round-kept i o (λ k p. bars (variable-tuple c i k o p))
        (greatest-else c w e {x = i} (omega arith) a b g ▸ simp flat (omega zs)))

    pair-less : T (pair_lowers c w e) → rounds_left c rounded < rounds_left c w
    unfolding rounds_left
    pair-less t =
        let o : lower_end c e < upper_end c e = shape.ascending e h in
        let u : upper_end c e < c.n = shape.below-n e h in
        omega (
          arith,
          summed-less (edge_left c rounded) (edge_left c w) (suc (c.d * c.d)) {i = e} c.m h
              (unless-less (both_level c w e) (both_level c rounded e) (suc (c.d * c.d)) (not-both t)
              (and_intro (is_level c rounded (lower_end c e)) (is_level c rounded (upper_end c e)) lower-level upper-level))
              (λ f q. edges-left c w rounded shape round-level f q),
          summed-mono (variable_inactive c rounded) (variable_inactive c w) c.n (λ i q. variables-left c w rounded round-kept i q),
          summed-more (edge_inactive c rounded) (edge_inactive c w) (c.d * c.d) {i = e} c.m (omega (arith, edge-most c rounded e)) (λ f q n.
              edge-left c w rounded f (λ k l p s. else-kept (edge-tuple c f k l q p s) (omega arith) (omega arith) (omega arith))),
        )

-- ---- any round of a run

-- the moves lead to u
leads : (c : Case) (w : List ℤ) {v : List ℤ} (b : Bool) (u : List ℤ) → (if b then None else Some u) ≡ Some v → rounds_left c u < rounds_left c w
    → rounds_left c v < rounds_left c w
leads c w b u e = subst (λ (u : List ℤ). rounds_left c u < rounds_left c w) (some_inj (found-else b (Some u) e).1)

module _ {r : Rules} {c : Case} {w : List ℤ} (coherent : Coherent r) (handed : Handed r (working_weight r) c w) where
  -- the lowest pair's round does not leave the range, and lowers the upper bound
  pub lowest-ready : {e : ℕ} → lowest_pair r c w ≡ Some e → (e < c.m) × T (some_choice c w e) × T (not (pair_leaves r c w e)) × T (pair_lowers c w e)
  lowest-ready {e} o =
      let (h, t, n) = lowest-some r c w o in
      let s = subst T (ready-is coherent handed h) (and_intro (gains c w e) (not (passed_over r c w e)) t n) in
      let u = and_right (some_choice c w e) (not (pair_leaves r c w e) && pair_lowers c w e) s in (
        h,
        and_left (some_choice c w e) (not (pair_leaves r c w e) && pair_lowers c w e) s,
        and_left (not (pair_leaves r c w e)) (pair_lowers c w e) u,
        and_right (not (pair_leaves r c w e)) (pair_lowers c w e) u,
      )

  module _ {moves : List Move} where
    pub left_less : {v : List ℤ} → engine_next r c w ≡ round moves → after_moves r c moves w ≡ Some v → rounds_left c v < rounds_left c w
    left_less {v} d to = ⊎_elim
        (λ (e, o, q).
        let (h, t, n, s) = lowest-ready o in
        leads c w (pair_leaves r c w e) (pair_rounded c w e) (sym (after-pair coherent handed h) ∙ sym (ap (λ l. after_moves r c l w) q) ∙ to)
        (pair-less coherent handed h n s))
        (λ (o, i, a, f, g, q).
        let z = sym (after-press c w i a r) ∙ sym (ap (λ l. after_moves r c l w) q) ∙ to in
        leads c w (leaves_range r c w (engine_pressed c w i a)) (engine_pressed c w i a) z
        (press-less coherent handed f g (found-else (leaves_range r c w (engine_pressed c w i a)) (Some (engine_pressed c w i a)) z).0))
        (engine-next-is r c w d)

    -- in a run of pair rounds only
    pub pairs-left-less : {v : List ℤ} → pairs_next r c w ≡ round moves → after_moves r c moves w ≡ Some v → rounds_left c v < rounds_left c w
    pairs-left-less d = left_less (pairs-are-next r c w d)

    -- where a round comes next, whether it is made or not, some are left
    pub left-some : engine_next r c w ≡ round moves → 0 < rounds_left c w
    left-some d = ⊎_elim (λ (e, o, q). let (h, t, n, s) = lowest-ready o in pair-some coherent handed h s)
        (λ (o, i, a, f, g, q). let (x, k, l, m, u, n, b, d) = amount-reached c w handed.shape f g in inactive-left c w u n) (engine-next-is r c w d)

    pub pairs-left-some : pairs_next r c w ≡ round moves → 0 < rounds_left c w
    pairs-left-some d = left-some (pairs-are-next r c w d)

  -- where a void line comes next too: something is forbidden
  pub void-left-some : {i : ℕ} {raised : List ℕ} → engine_next r c w ≡ void i raised → 0 < rounds_left c w
  void-left-some {i} d =
      let (e, g, q) = engine-next-void r c w d in
      let (own, t, _) = chosen-some c w e in
      ⊎_elim (λ z. absurd (not-all-open c w i handed.shape own (kept_scopes c w i) (kept-refuted c w i t) (λ x k l u.
      ⊎_elim (λ a. active-allowed (is_in (kept_scopes c w i) x) (active c w x k l) a)
      (λ n. let some_left = inactive-left c w u n in absurd (omega (arith, eqb→eq (rounds_left c w) 0 z))) (either (active c w x k l)))))
      (λ z. let n = (not-eqb-iff (rounds_left c w) 0).0 z in omega arith) (either (eqb (rounds_left c w) 0))
    where
      active-allowed : (b a : Bool) → T a → T (not (b && not a))
      active-allowed true true t = tt
      active-allowed false a t = tt
      active-allowed true false t = elim t [ ]
