-- A transfer touches the value's own place and the edge's tuples that use it: the table after it, and whether a weight leaves its range; on a
-- table that was checked it is the shift. Assumes nothing.
use mathlib.Core.Path.{◌≡◌, refl, sym, ap, ap₂, subst, ◌∙◌}
use mathlib.Core.Bool.{Bool, true, false, not, ◌&&◌, ◌||◌}
use mathlib.Core.Logic.{◌⊎◌, inl, inr}
use mathlib.Core.List.{List, [], ◌∷◌}
use Prim.Native.Nat.{ℕ, ◌+◌, ◌*◌, ◌≤◌, ◌<◌}
use native.Mathlib.Omega.{arith}
use lib.IntN.{ℤ, pos, neg_ℤ, ◌+ℤ◌, +ℤ_idl, +ℤ_idr}
use lib.Dec.{T, T_not, eqb, ltb, eqb→eq}
use lib.Signed.{le_z}
use lib.ListN.{length, set}
use borrow.Author.Tests.{eq-eqb, ne_eqb, lt-ltb, le-ltb}
use Rattle.std.specs.Prelude.{if◌then◌else◌, Option}
use Rattle.integers.specs.Words.{minus}
use Rattle.integers.specs.Tests.{either, is_true, is_false, false-is, and_intro, and_left, and_right, or_left, or_right, not-or-iff, same_test, eqb-iff, tests}
use Rattle.integers.specs.Lists.{all-at, all_of}
use Rattle.definitions.specs.declared.Case.{Case}
use Rattle.definitions.specs.declared.Refusal.{Refusal}
use Rattle.definitions.specs.declared.Refusal.TheVariants.{LeavesRange}
use Rattle.definitions.specs.Rules.{Rules, rules_of}
use Rattle.definitions.specs.Refusals.{◌when◌, first_refusal}
use Rattle.definitions.specs.Answers.{outcome_of, unless_refused}
use Rattle.definitions.specs.Case.{scope_count, lower_end, upper_end, place, own_length, weight, greatest}
use Rattle.definitions.specs.Valid.{working_weight}
use Rattle.definitions.specs.Moves.{spared, shift, moved, only_where, end_variable, end_value, shift_by, leaves_range}
use Rattle.calls.specs.Calls.{shift_out}
use Rattle.definitions.proofs.CaseLaws.{place-own}
use Rattle.theory.proofs.Places.{IsTuple, by-tuple, variable-tuple, edge-tuple, place-variable, place-edge, place-apart, tuple_at, plus-is}
use Rattle.theory.proofs.Shape.{Shape, lower-below}
use Rattle.theory.proofs.Validity.{Handed}
use Rattle.tables.specs.Scopes.{BestOf}
use Rattle.changes.specs.Spaced.{amount_within, weight_with, stays_with, weight_at, Inside, spaced_stay, spaced_add, transfer_stays, transferred}
use Rattle.changes.specs.Kept.{Change, transfer_change, table_after, stays_working, best_after, transfer_call}
use Rattle.changes.proofs.SpacedLaws.{with_none, spaced-long, spaced-miss, spaced-hit, one_place}
use Rattle.changes.proofs.KeptLaws.{stays-iff, two-kept, call-answer, call-table, call-best}

-- where the tuple's place stands among those touched, and what is added there
pub data Touched (c : Case) (m : Change) (own start step : ℕ) (a : ℤ) (x k l : ℕ) : Type 0 where
  at_own : T (m.touches x k l) → place c x k l ≡ own → m.adds x k l ≡ a → Touched c m own start step a x k l
  at-used : T (m.touches x k l) → (j : ℕ) → j < c.d → place c x k l ≡ start + j * step → m.adds x k l ≡ neg_ℤ a → Touched c m own start step a x k l
  elsewhere : T (not (m.touches x k l)) → (place c x k l ≡ own → ⊥) → ((j : ℕ) → j < c.d → place c x k l ≡ start + j * step → ⊥) → m.adds x k l ≡ pos 0
      → Touched c m own start step a x k l

not_first : {own p : ℕ} → (p ≡ own → ⊥) → (i : ℕ) → i < 1 → p ≡ own + i * 1 → ⊥
not_first {own} f i h e = f (e ∙ one_place own i h)

module _ (r : Rules) (c : Case) (w : List ℤ) (m : Change) (own start step : ℕ) (a : ℤ)
    (touched : (x k l : ℕ) → IsTuple c x k l → Touched c m own start step a x k l)
    (some : 0 < step)
    (apart : (j : ℕ) → j < c.d → start + j * step ≡ own → ⊥)
    (long : own_length c ≤ length w)
    (own-place-in : own < own_length c)
    (used-in : (j : ℕ) → j < c.d → start + j * step < own_length c) where
  first : List ℤ
  first = spaced_add w own 1 1 a

  at_first : weight_at first own ≡ weight_with (weight_at w own) a
  unfolding first
  at_first = subst (λ (p : ℕ). weight_at (spaced_add w own 1 1 a) p ≡ weight_with (weight_at w p) a) (one_place own 0 (omega arith))
      (spaced-hit w own 1 a (omega arith) 1 0 (omega arith) (omega arith))

  off-first : {p : ℕ} → (p ≡ own → ⊥) → weight_at first p ≡ weight_at w p
  unfolding first
  off-first {p} f = spaced-miss w own 1 a 1 p (not_first f)

  transferred-long : length (transferred w own start step c.d a) ≡ length w
  transferred-long = spaced-long (spaced_add w own 1 1 a) start step (neg_ℤ a) c.d ∙ spaced-long w own 1 a 1

  weight-transferred : (x k l : ℕ) → IsTuple c x k l → weight c (transferred w own start step c.d a) x k l ≡ weight_with (weight c w x k l) (m.adds x k l)
  unfolding first
  weight-transferred x k l t = go (touched x k l t)
    where
      go : Touched c m own start step a x k l → weight c (transferred w own start step c.d a) x k l ≡ weight_with (weight c w x k l) (m.adds x k l)
      go (at_own z e d) =
          ap (weight_at (transferred w own start step c.d a)) e
          ∙ spaced-miss first start step (neg_ℤ a) c.d own (λ j h q. apart j h (sym q)) ∙ at_first
          ∙ sym (ap₂ weight_with (ap (weight_at w) e) d)
      go (at-used z j h e d) =
          ap (weight_at (transferred w own start step c.d a)) e
          ∙ spaced-hit first start step (neg_ℤ a) some c.d j h (omega (arith, used-in j h, spaced-long w own 1 a 1))
          ∙ ap (λ (z : ℤ). weight_with z (neg_ℤ a)) (off-first (apart j h))
          ∙ sym (ap₂ weight_with (ap (weight_at w) e) d)
      go (elsewhere z f g d) =
          spaced-miss first start step (neg_ℤ a) c.d (place c x k l) g ∙ off-first f
          ∙ sym (with_none (weight c w x k l) (m.adds x k l) d)

  pub transferred-is : table_after c w m ≡ transferred w own start step c.d a
  transferred-is = plus-is c (spared c w m.adds) w (omega arith) (transferred w own start step c.d a) transferred-long weight-transferred
      (λ p h. spaced-miss (spaced_add w own 1 1 a) start step (neg_ℤ a) c.d p (λ j u e. omega (arith, used-in j u))
      ∙ spaced-miss w own 1 a 1 p (not_first (λ e. omega arith)))

  abbrev in_range : ℤ → ℤ → Type 0
  in_range z by = T (stays_with r z by)

  both : {y z a b : ℤ} → y ≡ z → a ≡ b → in_range y a → in_range z b
  both e d t = subst T (ap₂ (stays_with r) e d) t

  -- what is added at a place
  added-own : (x k l : ℕ) → IsTuple c x k l → place c x k l ≡ own → T (m.touches x k l) × (m.adds x k l ≡ a)
  added-own x k l t e = go (touched x k l t)
    where
      go : Touched c m own start step a x k l → T (m.touches x k l) × (m.adds x k l ≡ a)
      go (at_own u p d) = (u, d)
      go (at-used u j h p d) = absurd (apart j h (sym p ∙ e))
      go (elsewhere u f g d) = absurd (f e)

  added-used : (x k l j : ℕ) → IsTuple c x k l → j < c.d → place c x k l ≡ start + j * step → T (m.touches x k l) × (m.adds x k l ≡ neg_ℤ a)
  added-used x k l j t h e = go (touched x k l t)
    where
      go : Touched c m own start step a x k l → T (m.touches x k l) × (m.adds x k l ≡ neg_ℤ a)
      go (at_own u p d) = absurd (apart j h (sym e ∙ p))
      go (at-used u i v p d) = (u, d)
      go (elsewhere u f g d) = absurd (g j h e)

  stays : T (transfer_stays r w own start step c.d a) → (x k l : ℕ) → IsTuple c x k l → T (m.touches x k l) → in_range (weight c w x k l) (m.adds x k l)
  stays s x k l t y = go (touched x k l t)
    where
      u : in_range (weight_at w (own + 0 * 1)) a
      u = all-at (λ j. stays_with r (weight_at w (own + j * 1)) a) 1 (and_left (spaced_stay r w own 1 1 a) _ s) 0 (omega arith)

      v : (j : ℕ) → j < c.d → in_range (weight_at w (start + j * step)) (neg_ℤ a)
      v = all-at (λ j. stays_with r (weight_at w (start + j * step)) (neg_ℤ a)) c.d (and_right (spaced_stay r w own 1 1 a) _ s)

      go : Touched c m own start step a x k l → in_range (weight c w x k l) (m.adds x k l)
      go (at_own z e d) = both (sym (ap (weight_at w) (e ∙ sym (one_place own 0 (omega arith))))) (sym d) u
      go (at-used z j h e d) = both (sym (ap (weight_at w) e)) (sym d) (v j h)
      go (elsewhere z f g d) = absurd (T_not (m.touches x k l) z y)

  back : ((x k l : ℕ) → IsTuple c x k l → T (m.touches x k l) → in_range (weight c w x k l) (m.adds x k l)) → T (transfer_stays r w own start step c.d a)
  back f = and_intro (spaced_stay r w own 1 1 a) _
      (all_of (λ j. stays_with r (weight_at w (own + j * 1)) a) 1 (λ i h.
      let z : own + i * 1 ≡ own = omega arith in
      let (x, k, l, t, e) = tuple_at c own own-place-in in
      let q = added-own x k l t e in
      both (ap (weight_at w) (e ∙ sym z)) q.1 (f x k l t q.0)))
      (all_of (λ j. stays_with r (weight_at w (start + j * step)) (neg_ℤ a)) c.d (λ j h.
      let (x, k, l, t, e) = tuple_at c (start + j * step) (used-in j h) in
      let q = added-used x k l j t h e in
      both (ap (weight_at w) e) q.1 (f x k l t q.0)))

  pub transfer-stays : transfer_stays r w own start step c.d a ≡ stays_working r c w m
  transfer-stays = same_test (transfer_stays r w own start step c.d a) (stays_working r c w m) (λ s. (stays-iff r c w m).1 (stays s))
      (λ s. back ((stays-iff r c w m).0 s))

-- ---- the places of a transfer

-- an edge's tuples that use the value at the end, one for each value of the other end
pub record TransferPlaces (c : Case) (e end v own start step : ℕ) : Type 0 where
  pub one : ℕ → ℕ
  pub two : ℕ → ℕ
  pub used : (j : ℕ) → j < c.d → (one j < c.d) × (two j < c.d) × (end_value end (one j) (two j) ≡ v)
  pub every : (k l : ℕ) → k < c.d → l < c.d → end_value end k l ≡ v → (j : ℕ) × (j < c.d) × (one j ≡ k) × (two j ≡ l)
  pub spread : 0 < step
  pub variable : end_variable c e end < c.n
  pub own_at : own ≡ place c (end_variable c e end) v 0
  pub used-at : (j : ℕ) → j < c.d → start + j * step ≡ place c (c.n + e) (one j) (two j)

module _ (b d : Bool) (a : ℤ) where
  first-only : b ≡ true → d ≡ false → only_where b a +ℤ only_where d (neg_ℤ a) ≡ a
  first-only p q = rw (p, q) (+ℤ_idr a)

  second-only : b ≡ false → d ≡ true → only_where b a +ℤ only_where d (neg_ℤ a) ≡ neg_ℤ a
  second-only p q = rw (p, q) (+ℤ_idl (neg_ℤ a))

  none-of-both : b ≡ false → d ≡ false → only_where b a +ℤ only_where d (neg_ℤ a) ≡ pos 0
  none-of-both p q = rw (p, q)

neither : (b d : Bool) → T (not b) → T (not d) → T (not (b || d))
neither b d s t = (not-or-iff b d).1 (s, t)

and-false : (b d : Bool) → b ≡ false → (b && d) ≡ false
and-false b d e = rw e

module _ (c : Case) (e end v own start step : ℕ) (a : ℤ) (edge : e < c.m) (value : v < c.d) (p : TransferPlaces c e end v own start step) where
  abbrev own-v : ℕ
  own-v = end_variable c e end

  own-tuple : IsTuple c own-v v 0
  own-tuple = variable-tuple c own-v v p.variable value

  used-tuple : (j : ℕ) → j < c.d → IsTuple c (c.n + e) (p.one j) (p.two j)
  used-tuple j h = edge-tuple c e (p.one j) (p.two j) edge (p.used j h).0 (p.used j h).1

  pub own-place-in : own < own_length c
  own-place-in = omega (arith, p.own_at, place-own c own-v v 0 own-tuple.scope own-tuple.one own-tuple.two)

  pub used-in : (j : ℕ) → j < c.d → start + j * step < own_length c
  used-in j h = let t = used-tuple j h in omega (arith, p.used-at j h, place-own c (c.n + e) (p.one j) (p.two j) t.scope t.one t.two)

  pub own-apart : (j : ℕ) → j < c.d → start + j * step ≡ own → ⊥
  own-apart j h q = omega (arith, p.variable, (place-apart c (used-tuple j h) own-tuple (sym (p.used-at j h) ∙ q ∙ p.own_at)).0)

  pub transfer-touched : (x k l : ℕ) → IsTuple c x k l → Touched c (transfer_change c e end v a) own start step a x k l
  transfer-touched x k l = by-tuple c (λ x k l. Touched c (transfer_change c e end v a) own start step a x k l) at-variable at_edge
    where
      at-variable : (i k : ℕ) → i < c.n → k < c.d → Touched c (transfer_change c e end v a) own start step a i k 0
      at-variable i k h q = go (either (eqb i own-v && eqb k v))
        where
          other : (eqb i (c.n + e) && eqb (end_value end k 0) v) ≡ false
          other = and-false (eqb i (c.n + e)) _ (ne_eqb i (c.n + e) (λ e. omega arith))

          go : T (eqb i own-v && eqb k v) ⊎ T (not (eqb i own-v && eqb k v)) → Touched c (transfer_change c e end v a) own start step a i k 0
          go (inl t) =
              let q : i ≡ own-v = eqb→eq i own-v (and_left (eqb i own-v) (eqb k v) t) in
              let n : k ≡ v = eqb→eq k v (and_right (eqb i own-v) (eqb k v) t) in
              at_own (or_left (eqb i own-v && eqb k v) (eqb i (c.n + e) && eqb (end_value end k 0) v) t)
              (ap₂ (λ (x k : ℕ). place c x k 0) q n ∙ sym p.own_at) (first-only _ _ a (is_true (eqb i own-v && eqb k v) t) other)
          go (inr t) = elsewhere (neither (eqb i own-v && eqb k v) (eqb i (c.n + e) && eqb (end_value end k 0) v) t
              (false-is (eqb i (c.n + e) && eqb (end_value end k 0) v) other))
              (λ g. let (m, n, o) = place-apart c (variable-tuple c i k h q) own-tuple (g ∙ p.own_at) in
              T_not (eqb i own-v && eqb k v) t (and_intro (eqb i own-v) (eqb k v) ((eqb-iff i own-v).1 m) ((eqb-iff k v).1 n)))
              (λ j u g. let (m, n, o) = place-apart c (variable-tuple c i k h q) (used-tuple j u) (g ∙ p.used-at j u) in omega arith)
              (none-of-both _ _ a (is_false (eqb i own-v && eqb k v) t) other)

      at_edge : (f k l : ℕ) → f < c.m → k < c.d → l < c.d → Touched c (transfer_change c e end v a) own start step a (c.n + f) k l
      at_edge f k l h q r = go (either (eqb (c.n + f) (c.n + e) && eqb (end_value end k l) v))
        where
          other : (eqb (c.n + f) own-v && eqb k v) ≡ false
          other = and-false (eqb (c.n + f) own-v) _ (ne_eqb (c.n + f) own-v (λ e. omega (arith, p.variable)))

          go : T (eqb (c.n + f) (c.n + e) && eqb (end_value end k l) v) ⊎ T (not (eqb (c.n + f) (c.n + e) && eqb (end_value end k l) v))
              → Touched c (transfer_change c e end v a) own start step a (c.n + f) k l
          go (inl t) =
              let m : c.n + f ≡ c.n + e = eqb→eq (c.n + f) (c.n + e) (and_left (eqb (c.n + f) (c.n + e)) (eqb (end_value end k l) v) t) in
              let n : end_value end k l ≡ v = eqb→eq (end_value end k l) v (and_right (eqb (c.n + f) (c.n + e)) (eqb (end_value end k l) v) t) in
              let (j, u, y, z) = p.every k l q r n in
              at-used (or_right (eqb (c.n + f) own-v && eqb k v) (eqb (c.n + f) (c.n + e) && eqb (end_value end k l) v) t) j u
              (ap₂ (λ (k l : ℕ). place c (c.n + f) k l) (sym y) (sym z) ∙ ap (λ (x : ℕ). place c x (p.one j) (p.two j)) m ∙ sym (p.used-at j u))
              (second-only _ _ a other (is_true (eqb (c.n + f) (c.n + e) && eqb (end_value end k l) v) t))
          go (inr t) = elsewhere (neither (eqb (c.n + f) own-v && eqb k v) (eqb (c.n + f) (c.n + e) && eqb (end_value end k l) v)
              (false-is (eqb (c.n + f) own-v && eqb k v) other) t)
              (λ g. let (m, n, o) = place-apart c (edge-tuple c f k l h q r) own-tuple (g ∙ p.own_at) in omega (arith, p.variable))
              (λ j u g. let (m, n, o) = place-apart c (edge-tuple c f k l h q r) (used-tuple j u) (g ∙ p.used-at j u) in
              T_not (eqb (c.n + f) (c.n + e) && eqb (end_value end k l) v) t
              (and_intro (eqb (c.n + f) (c.n + e)) (eqb (end_value end k l) v) ((eqb-iff (c.n + f) (c.n + e)).1 m)
              ((eqb-iff (end_value end k l) v).1 (ap₂ (end_value end) n o ∙ (p.used j u).2))))
              (none-of-both _ _ a other (is_false (eqb (c.n + f) (c.n + e) && eqb (end_value end k l) v) t))

-- at end 0 a row, at end 1 a column
module _ (c : Case) (e end v own start : ℕ) (edge : e < c.m) (value : v < c.d) (variable : end_variable c e end < c.n)
    (o : own ≡ end_variable c e end * c.d + v) where
  pub row-places : end ≡ 0 → start ≡ (c.n * c.d + e * (c.d * c.d)) + v * c.d → TransferPlaces c e end v own start 1
  row-places z s = record {
    one = λ j. v;
    two = λ j. j;
    used = λ j h. (value, h, rw (eq-eqb end 0 z));
    every = λ k l p q g. (l, q, sym (rw (eq-eqb end 0 z) at g), refl);
    spread = omega arith;
    variable = variable;
    own_at = o ∙ sym (place-variable c (end_variable c e end) v 0 variable);
    used-at = λ j h. omega (arith, place-edge c e v j);
  }

  pub column-places : (end ≡ 0 → ⊥) → start ≡ (c.n * c.d + e * (c.d * c.d)) + v → TransferPlaces c e end v own start c.d
  column-places z s =
      let n : eqb end 0 ≡ false = ne_eqb end 0 z in
      record {
        one = λ j. j;
        two = λ j. v;
        used = λ j h. (h, value, rw n);
        every = λ k l p q g. (k, p, refl, sym (rw n at g));
        spread = omega arith;
        variable = variable;
        own_at = o ∙ sym (place-variable c (end_variable c e end) v 0 variable);
        used-at = λ j h. omega (arith, place-edge c e j v);
      }

-- ---- on any table with the case's own places
module _ (c : Case) (w : List ℤ) (long : own_length c ≤ length w) (e end v own start step : ℕ) (a : ℤ)
    (edge : e < c.m) (value : v < c.d) (p : TransferPlaces c e end v own start step) where
  pub transfer-inside : Inside w own 1 1 × Inside w start step c.d
  transfer-inside = (
    λ j h. omega (arith, own-place-in c e end v own start step a edge value p, long),
    λ j h. omega (arith, used-in c e end v own start step a edge value p j h, long),
  )

  pub transfer-separate : (j : ℕ) → j < c.d → start + j * step ≡ own → ⊥
  transfer-separate = own-apart c e end v own start step a edge value p

  pub transfer-is : transfer_stays (rules_of c) w own start step c.d a ≡ stays_working (rules_of c) c w (transfer_change c e end v a)
  transfer-is = transfer-stays (rules_of c) c w (transfer_change c e end v a) own start step a (transfer-touched c e end v own start step a edge value p)
      p.spread
      (own-apart c e end v own start step a edge value p) long (own-place-in c e end v own start step a edge value p)
      (used-in c e end v own start step a edge value p)

  pub transfer-made : transferred w own start step c.d a ≡ table_after c w (transfer_change c e end v a)
  transfer-made = sym (transferred-is (rules_of c) c w (transfer_change c e end v a) own start step a (transfer-touched c e end v own start step a edge value p)
      p.spread
      (own-apart c e end v own start step a edge value p) long (own-place-in c e end v own start step a edge value p)
      (used-in c e end v own start step a edge value p))

-- ---- nothing is added elsewhere
module _ (c : Case) (e end v : ℕ) (a : ℤ) where
  pub transfer-still : (x k l : ℕ) → T (not ((transfer_change c e end v a).touches x k l)) → shift_by c e end v a x k l ≡ pos 0
  transfer-still x k l t =
      let p = eqb x (end_variable c e end) && eqb k v in
      let q = eqb x (c.n + e) && eqb (end_value end k l) v in
      let (s, u) = (not-or-iff p q).0 t in none-of-both p q a (is_false p s) (is_false q u)

  pub transfer-off : (x k l : ℕ) → T (not ((transfer_change c e end v a).in_scope x)) → shift_by c e end v a x k l ≡ pos 0
  transfer-off x k l t =
      let (s, u) = (not-or-iff (eqb x (end_variable c e end)) (eqb x (c.n + e))).0 t in
      none-of-both (eqb x (end_variable c e end) && eqb k v) (eqb x (c.n + e) && eqb (end_value end k l) v) a
      (and-false (eqb x (end_variable c e end)) (eqb k v) (is_false (eqb x (end_variable c e end)) s))
      (and-false (eqb x (c.n + e)) (eqb (end_value end k l) v) (is_false (eqb x (c.n + e)) u))

  -- the greatest weights of the two scopes
  pub transfer-best : (w best : List ℤ) → scope_count c ≤ length best → e < c.m → end_variable c e end < c.n → {t : List ℤ}
      → t ≡ table_after c w (transfer_change c e end v a)
      → set (set best (end_variable c e end) (greatest c t (end_variable c e end))) (c.n + e) (greatest c t (c.n + e)) ≡ best_after c w best
      (transfer_change c e end v a)
  transfer-best w best room edge variable {t} is =
      ap (λ (t : List ℤ). set (set best (end_variable c e end) (greatest c t (end_variable c e end))) (c.n + e) (greatest c t (c.n + e))) is
      ∙ two-kept (greatest c (table_after c w (transfer_change c e end v a))) best (end_variable c e end) (c.n + e) (scope_count c) room
      (omega arith) (omega arith)

-- the ends of a checked case are variables
pub end-inside : {c : Case} → Shape c → (e end : ℕ) → e < c.m → end_variable c e end < c.n
end-inside {c} s e end h = go (eqb end 0)
  where
    go : (b : Bool) → (if b then lower_end c e else upper_end c e) < c.n
    go true = lower-below s e h
    go false = s.below-n e h

-- arguments that are not out
pub transfer-in : (c : Case) (e end v : ℕ) (a : ℤ) → T (not (shift_out (rules_of c) c e end v a))
    → ((e < c.m) × (end < 2) × (v < c.d)) × T (amount_within (rules_of c) a)
transfer-in c e end v a t =
    let (((p, q), s), (u, z)) = simp tests at t in
    ((p, q, s), and_intro (le_z (minus (rules_of c).moving) a) (le_z a (pos (rules_of c).moving)) u.0 u.1)

-- where the table was checked and `best` holds the greatest weights, it is the shift
module _ {c : Case} {w best : List ℤ} (h : Handed (rules_of c) (working_weight (rules_of c)) c w) (b : BestOf c w best) (e end v : ℕ) (a : ℤ)
    (inside : shift_out (rules_of c) c e end v a ≡ false) where
  out-false : (shift_out (rules_of c) c e end v a || not (ltb (end_variable c e end) c.n)) ≡ false
  out-false =
      let q = transfer-in c e end v a (false-is (shift_out (rules_of c) c e end v a) inside) in
      rw (inside, lt-ltb (end_variable c e end) c.n (end-inside h.shape e end q.0.0))

  abbrev leaves : Option Refusal
  leaves = first_refusal (LeavesRange when (leaves_range (rules_of c) c w (moved c (shift e end v a) w)) ∷ [])

  pub transfer-is-shift :
      ((transfer_call (rules_of c) c w best e end v a).answer ≡ outcome_of leaves)
      × ((transfer_call (rules_of c) c w best e end v a).table ≡ unless_refused leaves (moved c (shift e end v a) w) w)
      × BestOf c (transfer_call (rules_of c) c w best e end v a).table (transfer_call (rules_of c) c w best e end v a).best
  unfolding transfer_call
  transfer-is-shift =
      let m = transfer_change c e end v a in
      let n : ltb (length best) (scope_count c) ≡ false = le-ltb (length best) (scope_count c) b.enough in
      let out = shift_out (rules_of c) c e end v a || not (ltb (end_variable c e end) c.n) in
      let wrong = ltb (length best) (scope_count c) in (
        call-answer h b m (λ x k l t. transfer-still c e end v a x k l) (λ x k l t. transfer-off c e end v a x k l) (shift_by c e end v a) (λ x k l t. refl)
            wrong out n out-false,
        call-table h b m (λ x k l t. transfer-still c e end v a x k l) (λ x k l t. transfer-off c e end v a x k l) (shift_by c e end v a) (λ x k l t. refl)
            wrong out n out-false,
        call-best h b m (λ x k l t. transfer-still c e end v a x k l) (λ x k l t. transfer-off c e end v a x k l) (shift_by c e end v a) (λ x k l t. refl)
            wrong out n out-false,
      )
