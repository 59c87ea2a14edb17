-- A pair's round shift by shift: after each shift the table is the first one with some values of both ends shifted whole, barred tuples spared.
-- So the round is made, with the whole effect, just where no sum of the closed form leaves the working range; then each shift is allowed, and the
-- round lowers the upper bound just where each sum of both ends stays below the three greatest weights. Assumes nothing.
use mathlib.Core.Path.{◌≡◌, refl, sym, ap, ap₂, subst, ◌∙◌}
use mathlib.Core.Bool.{Bool, true, false, not, ◌&&◌, ◌||◌}
use mathlib.Core.Logic.{◌↔◌, ⊎_elim}
use mathlib.Core.List.{List, [], ◌∷◌, ◌++◌, map, append-nil}
use mathlib.Core.List.Memᴰ
use Prim.Native.Nat.{ℕ, zero, suc, ◌+◌, ◌*◌, ◌≤◌, ◌<◌}
use native.Mathlib.Nat.{add-zero, zero-add}
use native.Mathlib.Omega.{arith}
use lib.IntN.{ℤ, pos, neg_ℤ, ◌+ℤ◌, +ℤ_idr, ◌-ℤ◌}
use lib.Dec.{T, T_not, ltb, lt→ltb, ltb→lt, eqb}
use lib.Signed.{lt_z}
use lib.ListN.{length, length-append}
use Rattle.std.specs.Prelude.{if◌then◌else◌, Option, Some, None}
use Rattle.integers.specs.Words.{from, below, all, any, joined, eq_z}
use Rattle.integers.specs.Tests.{tests, same_test, either, and-iff, or_left, or_right, or_cases, not-or-iff, not-not-iff, if-true, if-false, if-cases}
use Rattle.integers.specs.Options.{some_inj, found-else}
use Rattle.integers.specs.Linear.{flat, zs, ◌▸◌, neg, T-eq}
use Rattle.integers.specs.Lists.{◌∈◌, in-joined, map-append, joined-append, in-below, all_of}
use Rattle.definitions.specs.declared.Case.{Case}
use Rattle.definitions.specs.Rules.{Rules, Coherent}
use Rattle.definitions.specs.Case.{values, own_length, lower_end, upper_end, weight, greatest, is_barred, barred, upper_bound}
use Rattle.definitions.specs.Valid.{in_working, working_weight}
use Rattle.definitions.specs.Moves.{Difference, Move, shift, press, plus, spared, only_where, end_variable, end_value, shift_by, shift_amount, moved}
use Rattle.definitions.specs.Moves.{keeps_range, leaves_range, after_moves}
use Rattle.definitions.specs.PairRounds.{three_greatest, is_choice, some_choice, pair_gain, gains, whole_shift, end_shifts, pair_round, lowers_bound, passed_over}
use Rattle.definitions.specs.RoundLines.{move_lines}
use Rattle.theory.proofs.Shape.{lower-below}
use Rattle.theory.proofs.Places.{IsTuple, edge-tuple, weight-most, some-active, active-weight, plus-cong, plus-plus, plus-zero}
use Rattle.theory.proofs.Words.{none_below}
use Rattle.theory.proofs.Barred.{active-free, stays-in-range, weight-spared, bars-kept}
use Rattle.theory.proofs.Validity.{Handed, handed-spared}
use Rattle.theory.proofs.Rounds.{AllAllowed, no_move, one_more}
use Rattle.pair_theory.specs.Closed.{shifted, lower_at, both_at, tuple_leaves, pair_leaves, tuple_lowers, pair_lowers}
use Rattle.pair_theory.proofs.Gains.{lower-tuple, upper-tuple, shifted-free, choice-parts, choice-three, lowers_at, lowers-gains, best-above, best-reached}
use Rattle.pair_theory.proofs.Rounded.{end_by, part_by, pair_by, pair_rounded, end_more, end-begun, part-lower, part-upper, part_edge, part-else, by-pair}
use Rattle.pair_theory.proofs.Rounded.{rounded-edge, pair-fall}

-- ---- tests that fail
same-denied : (a b : Bool) → T (not a) ↔ T (not b) → a ≡ b
same-denied a b f = same_test a b (λ t. ⊎_elim (λ s. s) (λ n. absurd (T_not a (f.1 n) t)) (either b))
    (λ t. ⊎_elim (λ s. s) (λ n. absurd (T_not b (f.0 n) t)) (either a))

last_of : (f : ℕ → Bool) (n : ℕ) → 0 < n → T (not (any (λ k. f (suc k)) (below n))) → T (not (f n))
last_of f zero h t = absurd (omega arith)
last_of f (suc n) h t = (none_below (λ k. f (suc k)) (suc n)).0 t n (omega arith)

-- ---- a difference added, barred tuples spared: a table that stays in the range has the same barred tuples, so that what is added to it next
-- spares them too, and number 11 asks the same places
abbrev sparing : Case → List ℤ → Difference → List ℤ
sparing c w δ = plus c (spared c w δ) w

module _ {r : Rules} (coherent : Coherent r) (c : Case) (w : List ℤ) (δ : Difference) (stays : T (not (leaves_range r c w (sparing c w δ)))) where
  add-spared : (b : Bool) (x y : ℤ) → (if b then pos 0 else x) +ℤ (if b then pos 0 else y) ≡ (if b then pos 0 else x +ℤ y)
  add-spared true x y = refl
  add-spared false x y = refl

  on-spared : (γ : Difference) → sparing c (sparing c w δ) γ ≡ sparing c w (λ x k l. δ x k l +ℤ γ x k l)
  on-spared γ =
      plus-cong c (spared c (sparing c w δ) γ) (sparing c w δ) (spared c w γ)
      (λ x k l t. ap (λ (b : Bool). if b then pos 0 else γ x k l) (bars-kept c w δ coherent stays t))
      ∙ plus-plus c (spared c w δ) w (spared c w γ)
      ∙ plus-cong c _ w (spared c w (λ x k l. δ x k l +ℤ γ x k l)) (λ x k l t. add-spared (barred c w x k l) (δ x k l) (γ x k l))

  same-range : (u : List ℤ) → leaves_range r c (sparing c w δ) u ≡ leaves_range r c w u
  same-range u = same-denied _ _ (
    λ n. (stays-in-range c r w u).1 (λ x k l t. subst (λ (b : Bool). T (b || in_working r (weight c u x k l))) (bars-kept c w δ coherent stays t)
        ((stays-in-range c r (sparing c w δ) u).0 n x k l t)),
    λ n. (stays-in-range c r (sparing c w δ) u).1 (λ x k l t. subst (λ (b : Bool). T (b || in_working r (weight c u x k l)))
        (sym (bars-kept c w δ coherent stays t)) ((stays-in-range c r w u).0 n x k l t)),
  )

-- ---- one end's shifts, through differences that the shifts lead through, one for each count of values
onward : {A : Type 0} (a b : Bool) (x y z : A) → (T (not a) → y ≡ (if b then x else z)) → (if a then x else y) ≡ (if a || b then x else z)
onward true b x y z f = refl
onward false b x y z f = f tt

only_zero : (b : Bool) → only_where b (pos 0) ≡ pos 0
only_zero true = refl
only_zero false = refl

-- what is left out shifts nothing, and the others their whole weight
left_out : (z : ℤ) → T (is_barred z || eq_z z (pos 0)) → (if is_barred z then pos 0 else z) ≡ pos 0
left_out z t = ⊎_elim (λ s. if-true (pos 0) z (is_barred z) s) (λ s. if-cases (λ y. y ≡ pos 0) (is_barred z) (pos 0) z (λ _. refl) (λ _. (T-eq z (pos 0)).0 s))
    (or_cases (is_barred z) (eq_z z (pos 0)) t)

shifted-whole : (z : ℤ) → T (not (is_barred z || eq_z z (pos 0))) → (if is_barred z then pos 0 else z) ≡ z
shifted-whole z t = if-false (pos 0) z (is_barred z) ((not-or-iff (is_barred z) (eq_z z (pos 0))).0 t).0

module _ {r : Rules} (coherent : Coherent r) (c : Case) (w : List ℤ) (e end : ℕ) (by : ℕ → Difference)
    (step : (v x k l : ℕ) → by (suc v) x k l ≡ by v x k l +ℤ shift_by c e end v (neg_ℤ (shifted c w (end_variable c e end) v)) x k l) (rest : List Move) where
  abbrev at : ℕ → List ℤ
  at k = sparing c w (by k)

  abbrev shifts : ℕ → ℕ → List Move
  shifts a n = joined (map (whole_shift c w e end) (from a n)) ++ rest

  abbrev leaves : ℕ → Bool
  leaves k = leaves_range r c w (at (suc k))

  abbrev made : ℕ → ℕ → Option (List ℤ)
  made a n = if any leaves (from a n) then None else after_moves r c rest (at (a + n))

  stay : (v : ℕ) → shifted c w (end_variable c e end) v ≡ pos 0 → at v ≡ at (suc v)
  stay v o = plus-cong c (spared c w (by v)) w (spared c w (by (suc v))) (λ x k l t. ap (λ (z : ℤ). if barred c w x k l then pos 0 else z)
      (sym (step v x k l ∙ ap (λ (z : ℤ). by v x k l +ℤ shift_by c e end v (neg_ℤ z) x k l) o ∙ ap (λ (z : ℤ). by v x k l +ℤ z)
      (ap₂ ◌+ℤ◌ (only_zero (eqb x (end_variable c e end) && eqb k v)) (only_zero (eqb x (c.n + e) && eqb (end_value end k l) v)))
      ∙ +ℤ_idr (by v x k l))))

  shift-on : (v : ℕ) → T (not (leaves_range r c w (at v))) → moved c (shift e end v (neg_ℤ (shifted c w (end_variable c e end) v))) (at v) ≡ at (suc v)
  shift-on v t =
      on-spared coherent c w (by v) t (shift_by c e end v (neg_ℤ (shifted c w (end_variable c e end) v)))
      ∙ plus-cong c _ w (spared c w (by (suc v))) (λ x k l t. ap (λ (z : ℤ). if barred c w x k l then pos 0 else z) (sym (step v x k l)))

  after_one : (a n : ℕ) → (T (not (leaves a)) → after_moves r c (shifts (suc a) n) (at (suc a)) ≡ made (suc a) n)
      → (if leaves a then None else after_moves r c (shifts (suc a) n) (at (suc a))) ≡ made a (suc n)
  after_one a n f =
      onward (leaves a) (any leaves (from (suc a) n)) None (after_moves r c (shifts (suc a) n) (at (suc a))) (after_moves r c rest (at (a + suc n)))
      (λ t. f t ∙ ap (λ (m : ℕ). if any leaves (from (suc a) n) then None else after_moves r c rest (at m)) (omega arith))

  after-end : (a n : ℕ) → T (not (leaves_range r c w (at a))) → after_moves r c (shifts a n) (at a) ≡ made a n
  after-end a zero t = rw (add-zero a)
  after-end a (suc n) t =
      let z : ℤ = weight c w (end_variable c e end) a 0 in
      let go : List ℤ → Option (List ℤ) = after_moves r c (shifts (suc a) n) in
      if-cases (λ l. after_moves r c ((l ++ joined (map (whole_shift c w e end) (from (suc a) n))) ++ rest) (at a) ≡ made a (suc n))
      (is_barred z || eq_z z (pos 0)) [] (shift e end a (neg_ℤ z) ∷ [])
      (λ s.
      let o : at a ≡ at (suc a) = stay a (left_out z s) in
      ap go o ∙ sym (if-false None _ (leaves a) (subst (λ (v : List ℤ). T (not (leaves_range r c w v))) o t)) ∙ after_one a n (after-end (suc a) n))
      (λ s.
      let o : moved c (shift e end a (neg_ℤ z)) (at a) ≡ at (suc a) =
      ap (λ (z : ℤ). moved c (shift e end a (neg_ℤ z)) (at a)) (sym (shifted-whole z s)) ∙ shift-on a t in
      ap (λ (u : List ℤ). if leaves_range r c (at a) u then None else go u) o
      ∙ ap (λ (b : Bool). if b then None else go (at (suc a))) (same-range coherent c w (by a) t (at (suc a)))
      ∙ after_one a n (after-end (suc a) n))

  after-whole : (n : ℕ) → T (not (leaves_range r c w (at 0))) → after_moves r c (shifts 0 n) (at 0)
      ≡ (if any leaves (below n) then None else after_moves r c rest (at n))
  after-whole n t = after-end 0 n t ∙ ap (λ (m : ℕ). if any leaves (below n) then None else after_moves r c rest (at m)) (zero-add n)

-- ---- the tables on the way

-- the first values of end 0 below p and of end 1 below q shifted
abbrev part_rounded : Case → List ℤ → ℕ → ℕ → ℕ → List ℤ
part_rounded c w e p q = sparing c w (part_by c w e p q)

add-lower : (a b s n : ℤ) → n ≡ a +ℤ s → n +ℤ b ≡ (a +ℤ b) +ℤ s
add-lower a b s n = simp flat (omega zs)

add-upper : (a b s n : ℤ) → n ≡ b +ℤ s → a +ℤ n ≡ (a +ℤ b) +ℤ s
add-upper a b s n = simp flat (omega zs)

module _ (c : Case) (w : List ℤ) (e : ℕ) where
  lower-step : (q v x k l : ℕ)
      → part_by c w e (suc v) q x k l ≡ part_by c w e v q x k l +ℤ shift_by c e 0 v (neg_ℤ (shifted c w (lower_end c e) v)) x k l
  lower-step q v x k l = add-lower (end_by c w e 0 v x k l) (end_by c w e 1 q x k l) _ _ (end_more c w e 0 v x k l)

  upper-step : (p v x k l : ℕ)
      → part_by c w e p (suc v) x k l ≡ part_by c w e p v x k l +ℤ shift_by c e 1 v (neg_ℤ (shifted c w (upper_end c e) v)) x k l
  upper-step p v x k l = add-upper (end_by c w e 0 p x k l) (end_by c w e 1 v x k l) _ _ (end_more c w e 1 v x k l)

  none_yet : own_length c ≤ length w → part_rounded c w e 0 0 ≡ w
  none_yet long = plus-zero c (spared c w (part_by c w e 0 0)) w long (λ x k l t.
      ap (λ (z : ℤ). if barred c w x k l then pos 0 else z) (ap₂ ◌+ℤ◌ (end-begun c w e 0 x k l) (end-begun c w e 1 x k l)) ∙ None (barred c w x k l))
    where
      None : (b : Bool) → (if b then pos 0 else pos 0) ≡ pos 0
      None true = refl
      None false = refl

-- ---- their weights
module _ (r : Rules) where
  own-stays : (b : Bool) (z s : ℤ) → s ≡ z → T (in_working r z) → T (in_working r (z +ℤ only_where b (neg_ℤ s)))
  own-stays true z s o t = o ▸ t ▸ simp flat (omega zs)
  own-stays false z s o t = t ▸ simp flat (omega zs)

  edge_stays : (s t : Bool) (z a b : ℤ) → (T t → T s) → T (in_working r z) → T (in_working r (z +ℤ a)) → T (in_working r ((a +ℤ b) +ℤ z))
      → T (in_working r (z +ℤ (only_where s a +ℤ only_where t b)))
  edge_stays true true z a b f u v o = o ▸ simp flat (omega zs)
  edge_stays true false z a b f u v o = v ▸ simp flat (omega zs)
  edge_stays false true z a b f u v o = absurd (f tt)
  edge_stays false false z a b f u v o = u ▸ simp flat (omega zs)

  in-range-of : (x y : ℤ) → T (not (is_barred x)) → T (is_barred x || in_working r y) → T (in_working r y)
  in-range-of x y f t = ⊎_elim (λ s. absurd (T_not (is_barred x) f s)) (λ s. s) (or_cases (is_barred x) (in_working r y) t)

module _ {r : Rules} {c : Case} {w : List ℤ} {e : ℕ} (coherent : Coherent r) (h : Handed r (working_weight r) c w) (edge : e < c.m) where
  long : own_length c ≤ length w
  long = omega (arith, h.long)

  -- the sums of the closed form
  in-sums : T (not (pair_leaves r c w e)) ↔ ((k l : ℕ) → IsTuple c (c.n + e) k l → T (not (barred c w (c.n + e) k l))
      → T (in_working r (lower_at c w e k l)) × T (in_working r (both_at c w e k l)))
  in-sums = (
    λ n k l t. (both k l).0 ((none_below (tuple_leaves r c w e k) c.d).0 ((none_below some-leaves c.d).0 n k t.one) l t.two),
    λ f. (none_below some-leaves c.d).1 (λ k u. (none_below (tuple_leaves r c w e k) c.d).1 (λ l v. (both k l).1 (f k l (edge-tuple c e k l edge u v)))),
  )
    where
      some-leaves : ℕ → Bool
      some-leaves k = any (tuple_leaves r c w e k) (values c)

      denied : (b s t : Bool) → T (not (not b && not (s && t))) ↔ (T (not b) → T s × T t)
      denied true s t = (λ _ f. absurd f, λ _. tt)
      denied false s t = (λ n f. (and-iff s t).0 ((not-not-iff (s && t)).0 n), λ f. (not-not-iff (s && t)).1 ((and-iff s t).1 (f tt)))

      both : (k l : ℕ) → T (not (tuple_leaves r c w e k l))
          ↔ (T (not (barred c w (c.n + e) k l)) → T (in_working r (lower_at c w e k l)) × T (in_working r (both_at c w e k l)))
      both k l = denied (barred c w (c.n + e) k l) (in_working r (lower_at c w e k l)) (in_working r (both_at c w e k l))

  module _ (p q : ℕ) where
    abbrev table : List ℤ
    table = part_rounded c w e p q

    part-in-range : T (not (leaves_range r c w table)) ↔ ((x k l : ℕ) → IsTuple c x k l → T (keeps_range r (weight c w x k l) (weight c table x k l)))
    part-in-range = stays-in-range c r w table

    part_free : {x k l : ℕ} → IsTuple c x k l → T (not (barred c w x k l)) → weight c table x k l ≡ weight c w x k l +ℤ part_by c w e p q x k l
    part_free {x} {k} {l} t f = weight-spared c w (part_by c w e p q) t ∙ if-false _ _ (barred c w x k l) f

    -- the edge's tuples that are not barred
    edge-sum : {k l : ℕ} → IsTuple c (c.n + e) k l → T (not (barred c w (c.n + e) k l)) → T (not (leaves_range r c w table))
        → T (in_working r (weight c w (c.n + e) k l
        +ℤ (only_where (ltb k p) (shifted c w (lower_end c e) k) +ℤ only_where (ltb l q) (shifted c w (upper_end c e) l))))
    edge-sum {k} {l} t f n =
        subst (λ (z : ℤ). T (in_working r z))
        (part_free t f ∙ ap (λ (z : ℤ). weight c w (c.n + e) k l +ℤ z) (part_edge c w e h.shape edge p q k l))
        (in-range-of r (weight c w (c.n + e) k l) (weight c table (c.n + e) k l) f (part-in-range.0 n (c.n + e) k l t))

    by_part : {x k l : ℕ} (t : IsTuple c x k l) {z : ℤ} → part_by c w e p q x k l ≡ z
        → (T (not (barred c w x k l)) → T (in_working r (weight c w x k l)) → T (in_working r (weight c w x k l +ℤ z)))
        → T (keeps_range r (weight c w x k l) (weight c table x k l))
    by_part {x} {k} {l} t o g = ⊎_elim (or_left (barred c w x k l) _)
        (λ f. or_right (barred c w x k l) _ (subst (λ (y : ℤ). T (in_working r y)) (sym (part_free t f ∙ ap (λ (z : ℤ). weight c w x k l +ℤ z) o))
        (g f (in-range-of r (weight c w x k l) (weight c w x k l) f (h.in-range x k l t))))) (either (barred c w x k l))

    -- where no sum leaves the range, no table on the way does
    part_stays : T (not (pair_leaves r c w e)) → ((k l : ℕ) → k < c.d → l < q → k < p) → T (not (leaves_range r c w table))
    part_stays n first = part-in-range.1 (by-pair c e (λ x. (k l : ℕ) → IsTuple c x k l → T (keeps_range r (weight c w x k l) (weight c table x k l)))
        (λ k l t. rw (t.alone (lower-below h.shape e edge))
        (by_part (lower-tuple c h.shape e edge t.one) (part-lower c w e h.shape edge p q k)
        (λ f. own-stays r (ltb k p) (weight c w (lower_end c e) k 0) (shifted c w (lower_end c e) k) (shifted-free c w (lower_end c e) k f))))
        (λ k l t. rw (t.alone (h.shape.below-n e edge))
        (by_part (upper-tuple c h.shape e edge t.one) (part-upper c w e h.shape edge p q k)
        (λ f. own-stays r (ltb k q) (weight c w (upper_end c e) k 0) (shifted c w (upper_end c e) k) (shifted-free c w (upper_end c e) k f))))
        (λ k l t. by_part t (part_edge c w e h.shape edge p q k l) (λ f i.
        let (a, b) = in-sums.0 n k l t f in
        edge_stays r (ltb k p) (ltb l q) (weight c w (c.n + e) k l) (shifted c w (lower_end c e) k)
        (shifted c w (upper_end c e) l) (λ s. lt→ltb k p (first k l t.one (ltb→lt l q s))) i a b))
        (λ x a b g k l t. by_part t (part-else c w e p q x k l a b g) (λ f i. rw (+ℤ_idr (weight c w x k l)) i)))

  -- each sum stands in a table on the way
  lower-sum : {k l : ℕ} → IsTuple c (c.n + e) k l → T (not (barred c w (c.n + e) k l)) → T (not (leaves_range r c w (part_rounded c w e (suc k) 0)))
      → T (in_working r (lower_at c w e k l))
  lower-sum {k} {l} t f n =
      edge-sum (suc k) 0 t f n
      ▸ if-true (shifted c w (lower_end c e) k) (pos 0) (ltb k (suc k)) (simp tests (omega arith))
      ▸ if-false (shifted c w (upper_end c e) l) (pos 0) (ltb l 0) (simp tests (omega arith)) ▸ simp flat (omega zs)

  whole_sum : {k l : ℕ} → IsTuple c (c.n + e) k l → T (not (barred c w (c.n + e) k l)) → T (not (leaves_range r c w (part_rounded c w e c.d (suc l))))
      → T (in_working r (both_at c w e k l))
  whole_sum {k} {l} t f n =
      edge-sum c.d (suc l) t f n
      ▸ if-true (shifted c w (lower_end c e) k) (pos 0) (ltb k c.d) (simp tests t.one)
      ▸ if-true (shifted c w (upper_end c e) l) (pos 0) (ltb l (suc l)) (simp tests (omega arith)) ▸ simp flat (omega zs)

  -- ---- the round
  abbrev lower_leaves : ℕ → Bool
  lower_leaves k = leaves_range r c w (part_rounded c w e (suc k) 0)

  abbrev upper_leaves : ℕ → Bool
  upper_leaves l = leaves_range r c w (part_rounded c w e c.d (suc l))

  leaves-same : (any lower_leaves (values c) || any upper_leaves (values c)) ≡ pair_leaves r c w e
  leaves-same = same-denied _ _ (
    λ n.
        let (a, b) = (not-or-iff (any lower_leaves (values c)) (any upper_leaves (values c))).0 n in
        in-sums.1 (λ k l t f. (lower-sum t f ((none_below lower_leaves c.d).0 a k t.one), whole_sum t f ((none_below upper_leaves c.d).0 b l t.two))),
    λ n. (not-or-iff (any lower_leaves (values c)) (any upper_leaves (values c))).1 (
      (none_below lower_leaves c.d).1 (λ k u. part_stays (suc k) 0 n (λ a b s t. absurd (omega arith))),
      (none_below upper_leaves c.d).1 (λ l u. part_stays c.d (suc l) n (λ a b s t. s)),
    ),
  )

  lower-end : T (not (any lower_leaves (values c))) → T (not (leaves_range r c w (part_rounded c w e c.d 0)))
  lower-end t = last_of (λ k. leaves_range r c w (part_rounded c w e k 0)) c.d h.shape.some-value t

  pub after-pair : after_moves r c (pair_round c w e) w ≡ (if pair_leaves r c w e then None else Some (pair_rounded c w e))
  after-pair =
      ap (after_moves r c (pair_round c w e)) (sym (none_yet c w e long))
      ∙ after-whole coherent c w e 0 (λ k. part_by c w e k 0) (lower-step c w e 0) (end_shifts c w e 1) c.d
      (rw (none_yet c w e long) ((stays-in-range c r w w).1 h.in-range))
      ∙ onward (any lower_leaves (values c)) (any upper_leaves (values c)) None (after_moves r c (end_shifts c w e 1) (part_rounded c w e c.d 0))
      (Some (pair_rounded c w e)) (λ t.
      ap (λ (l : List Move). after_moves r c l (part_rounded c w e c.d 0)) (sym (append-nil (end_shifts c w e 1)))
      ∙ after-whole coherent c w e 1 (part_by c w e c.d) (upper-step c w e c.d) [] c.d (lower-end t))
      ∙ ap (λ (b : Bool). if b then None else Some (pair_rounded c w e)) leaves-same

  -- ---- the table after the round, where it stays in the range
  module _ (n : T (not (pair_leaves r c w e))) where
    pub rounded-stays : T (not (leaves_range r c w (pair_rounded c w e)))
    rounded-stays = part_stays c.d c.d n (λ a b s t. s)

    pub rounded-bars : {x k l : ℕ} → IsTuple c x k l → barred c (pair_rounded c w e) x k l ≡ barred c w x k l
    rounded-bars = bars-kept c w (pair_by c w e) coherent rounded-stays

    pub rounded-handed : Handed r (working_weight r) c (pair_rounded c w e)
    rounded-handed = handed-spared coherent (pair_by c w e) h rounded-stays

    -- its edge's greatest weight is at a tuple that is not barred
    edge-greatest : (k l : ℕ) × IsTuple c (c.n + e) k l × T (not (barred c w (c.n + e) k l)) × (both_at c w e k l ≡ greatest c (pair_rounded c w e) (c.n + e))
    edge-greatest =
        let (k, l, t, a) = some-active c (pair_rounded c w e) (edge-tuple c e 0 0 edge h.shape.some-value h.shape.some-value) in
        let f : T (not (barred c w (c.n + e) k l)) = subst (λ (b : Bool). T (not b)) (rounded-bars t) (active-free c coherent (pair_rounded c w e)
        rounded-handed.in-range (c.n + e) t.scope (rounded-handed.some-free (c.n + e) t.scope) k l a) in
        (k, l, t, f, sym (rounded-edge c w e h.shape edge k l t.one t.two f) ∙ (active-weight c (pair_rounded c w e) (c.n + e) k l).0 a)

    rounded-fall : upper_bound c (pair_rounded c w e) ≡ upper_bound c w -ℤ (three_greatest c w e -ℤ greatest c (pair_rounded c w e) (c.n + e))
    rounded-fall = pair-fall c w e h.shape edge (h.some-free (lower_end c e) (lower-tuple c h.shape e edge h.shape.some-value).scope)
        (h.some-free (upper_end c e) (upper-tuple c h.shape e edge h.shape.some-value).scope)

    -- the upper bound falls by exactly the gain where every tuple of the edge that is not barred is a choice, as where nothing is barred
    pub gain-fall : ((k l : ℕ) → T (not (barred c w (c.n + e) k l)) → T (is_choice c w e k l))
        → upper_bound c (pair_rounded c w e) ≡ upper_bound c w -ℤ pair_gain c w e
    gain-fall choices =
        let (k, l, t, f, o) = edge-greatest in
        let i = choices k l f in
        let (k', l', t', i', o') = best-reached c w e h.shape edge t i in
        let free = (choice-parts c w e k' l' i').2 in
        rounded-fall ▸ best-above c w e h.shape edge t i ▸ choice-three c w e k l i ▸ o
        ▸ weight-most c (pair_rounded c w e) t' ▸ rounded-edge c w e h.shape edge k' l' t'.one t'.two free ▸ choice-three c w e k' l' i' ▸ o'
        ▸ simp flat (omega zs)

    pub lowers-is : lowers_bound c w (Some (pair_rounded c w e)) ≡ pair_lowers c w e
    lowers-is =
        same_test _ (pair_lowers c w e)
        (λ t. all_of (λ k. all (tuple_lowers c w e k) (values c)) c.d (λ k u. all_of (tuple_lowers c w e k) c.d (λ l v.
        ⊎_elim (or_left (barred c w (c.n + e) k l) _) (λ f. or_right (barred c w (c.n + e) k l) (lt_z (both_at c w e k l) (three_greatest c w e))
        (weight-most c (pair_rounded c w e) (edge-tuple c e k l edge u v) ▸ rounded-edge c w e h.shape edge k l u v f ▸ rounded-fall ▸ t ▸ simp flat (omega zs)))
        (either (barred c w (c.n + e) k l)))))
        (λ t. let (k, l, u, f, o) = edge-greatest in lowers_at c w e t u.one u.two f ▸ o ▸ rounded-fall ▸ simp flat (omega zs))

  -- ---- which pairs are passed over
  pub passed-over-is : passed_over r c w e ≡ not (some_choice c w e && (not (pair_leaves r c w e) && pair_lowers c w e))
  passed-over-is = ap (λ (o : Option (List ℤ)). not (some_choice c w e) || not (lowers_bound c w o)) after-pair
      ∙ ap (λ (b : Bool). not (some_choice c w e) || not b) (lowers-if (pair_leaves r c w e) (λ n. lowers-is n))
      ∙ either-not (some_choice c w e) (not (pair_leaves r c w e) && pair_lowers c w e)
    where
      lowers-if : (b : Bool) → (T (not b) → lowers_bound c w (Some (pair_rounded c w e)) ≡ pair_lowers c w e)
          → lowers_bound c w (if b then None else Some (pair_rounded c w e)) ≡ (not b && pair_lowers c w e)
      lowers-if true f = refl
      lowers-if false f = f tt

      either-not : (a b : Bool) → (not a || not b) ≡ not (a && b)
      either-not true b = refl
      either-not false b = refl

  pub ready-is : (gains c w e && not (passed_over r c w e)) ≡ (some_choice c w e && (not (pair_leaves r c w e) && pair_lowers c w e))
  ready-is = ap (λ (b : Bool). gains c w e && not b) passed-over-is ∙ go (gains c w e) (some_choice c w e) (not (pair_leaves r c w e)) (pair_lowers c w e)
      (lowers-gains c w e h.shape edge)
    where
      go : (g a b d : Bool) → (T a → T d → T g) → (g && not (not (a && (b && d)))) ≡ (a && (b && d))
      go true true true true f = refl
      go true true true false f = refl
      go true true false d f = refl
      go true false b d f = refl
      go false true b true f = absurd (f tt tt)
      go false true true false f = refl
      go false true false false f = refl
      go false false b d f = refl

-- ---- each shift is allowed

-- a move that is a shift of the case, by an amount of shifts
abbrev ShiftOf : Rules → Case → Move → Type 0
ShiftOf r c (shift e end v a) = (e < c.m) × (end < 2) × (v < c.d) × T (shift_amount r a)
ShiftOf r c (press i lowered raised a) = ⊥

shifts-allowed : (r : Rules) (c : Case) {w u : List ℤ} (moves : List Move) → ((move : Move) → move ∈ moves → ShiftOf r c move) → after_moves r c moves w ≡ Some u
    → AllAllowed r c w moves u
shifts-allowed r c {w} {u} [] f o = subst (AllAllowed r c w []) (some_inj o) no_move
shifts-allowed r c {w} {u} (shift e end v a ∷ moves) f o =
    let (m, s, k, t) = f (shift e end v a) (Memᴰ.head refl) in
    let (n, q) = found-else (leaves_range r c w (moved c (shift e end v a) w)) (after_moves r c moves (moved c (shift e end v a) w)) o in
    one_more {move = shift e end v a} (record { edge = m; side = s; value = k; amount = t; in-range = n })
    (shifts-allowed r c {w = moved c (shift e end v a) w} moves (λ move k. f move (Memᴰ.tail k)) q)
shifts-allowed r c (press i lowered raised a ∷ moves) f o = absurd (f (press i lowered raised a) (Memᴰ.head refl))

module _ {r : Rules} {c : Case} {w : List ℤ} {e : ℕ} (coherent : Coherent r) (h : Handed r (working_weight r) c w) (edge : e < c.m) where
  whole-amount : (z : ℤ) → T (working_weight r z) → T (not (is_barred z || eq_z z (pos 0))) → T (shift_amount r (neg_ℤ z))
  whole-amount z t n =
      let (f, o) = (not-or-iff (is_barred z) (eq_z z (pos 0))).0 n in
      in-range-of r z z f t ▸ o ▸ coherent.difference ▸ simp flat (omega (zs, neg z))

  end-tuple : (end v : ℕ) → v < c.d → IsTuple c (end_variable c e end) v 0
  end-tuple end v k =
      if-cases (λ x. IsTuple c x v 0) (eqb end 0) (lower_end c e) (upper_end c e) (λ t. lower-tuple c h.shape e edge k)
      (λ t. upper-tuple c h.shape e edge k)

  end-shifts : (end : ℕ) → end < 2 → (move : Move) → move ∈ end_shifts c w e end → ShiftOf r c move
  end-shifts end s move m =
      let (l, o, k) = in-joined (map (whole_shift c w e end) (values c)) m in
      let (v, u, q) = Memᴰ.of_map (whole_shift c w e end) (values c) o in
      let z : ℤ = weight c w (end_variable c e end) v 0 in
      if-cases (λ l. move ∈ l → ShiftOf r c move) (is_barred z || eq_z z (pos 0)) [] (shift e end v (neg_ℤ z) ∷ [])
      (λ t k. absurd (Memᴰ.not-nil k))
      (λ t k. subst (ShiftOf r c) (sym (Memᴰ.eq_of_singleton k)) (
        edge,
        s,
        in-below c.d u,
        whole-amount z (h.in-range (end_variable c e end) v 0 (end-tuple end v (in-below c.d u))) t,
      ))
      (rw (← q) at k)

  pub pair-allowed : T (not (pair_leaves r c w e)) → AllAllowed r c w (pair_round c w e) (pair_rounded c w e)
  pair-allowed n =
      shifts-allowed r c (pair_round c w e) (λ move m. ⊎_elim (end-shifts 0 (omega arith) move) (end-shifts 1 (omega arith) move)
      (Memᴰ.append_cases (end_shifts c w e 0) m))
      (after-pair coherent h edge ∙ if-false None (Some (pair_rounded c w e)) (pair_leaves r c w e) n)

-- ---- the lines of the round
module _ (c : Case) (w : List ℤ) (e : ℕ) where
  end-few : (end a n : ℕ) → length (joined (map move_lines (joined (map (whole_shift c w e end) (from a n))))) ≤ n
  end-few end a zero = omega arith
  end-few end a (suc n) =
      let z : ℤ = weight c w (end_variable c e end) a 0 in
      if-cases (λ l. length (joined (map move_lines (l ++ joined (map (whole_shift c w e end) (from (suc a) n))))) ≤ suc n)
      (is_barred z || eq_z z (pos 0)) [] (shift e end a (neg_ℤ z) ∷ [])
      (λ t. omega (arith, end-few end (suc a) n)) (λ t. omega (arith, end-few end (suc a) n))

  pub pair-few : length (joined (map move_lines (pair_round c w e))) ≤ 2 * c.d
  pair-few = rw (
    map-append move_lines (end_shifts c w e 0) (end_shifts c w e 1),
    joined-append (map move_lines (end_shifts c w e 0)) (map move_lines (end_shifts c w e 1)),
    length-append (joined (map move_lines (end_shifts c w e 0))) (joined (map move_lines (end_shifts c w e 1))),
  ) (omega (arith, end-few 0 0 c.d, end-few 1 0 c.d))
