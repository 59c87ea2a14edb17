-- A scope's part of the table: its tuples' places, and what changes there. Assumes nothing.
use mathlib.Core.Path.{◌≡◌, refl, sym, ap, subst, ◌∙◌}
use mathlib.Core.Bool.{Bool, true, false, not}
use mathlib.Core.Logic.{◌↔◌, ⊎_elim}
use mathlib.Core.List.{List, ◌++◌}
use Prim.Native.Nat.{ℕ, zero, suc, ◌+◌, ◌*◌, ◌-◌, ◌/◌, ◌%◌, ◌≤◌, ◌<◌}
use native.Mathlib.Nat.{mul-le-mul_right, div-add-mod', div-lt_iff_lt-mul, mod-lt}
use native.Mathlib.Omega.{arith}
use lib.IntN.{ℤ, pos, neg_ℤ, ◌+ℤ◌, ◌-ℤ◌, +ℤ_idl, +ℤ_idr, +ℤ_comm}
use lib.Dec.{T, eqb, ltb, eqb→eq, ltb→lt, nltb→le}
use lib.Signed.{le_z}
use lib.ListN.{length, get_or, take, drop, length-append, length-drop, get_or-append}
use lib.Seq.{ext_get_or, get_or-append-add, get_or-drop, get_or-take, length-take-le}
use borrow.Author.Tests.{eq-eqb}
use mir.Syntax.{w64}
use mir.Val.{SFits}
use Rattle.integers.specs.Words.{minus, greatest_of, eq_z, within_z}
use Rattle.integers.specs.Tests.{either, is_false, if-true, if-false, if-cases, and-iff, or_right, not-eqb-iff}
use Rattle.integers.specs.Lists.{all-at, all_of, all_same, map_same}
use Rattle.integers.specs.Linear.{zs, flat, ◌▸◌, add}
use Rattle.integers.specs.Tables.{length-tab, get_d-tab, all_get_d}
use Rattle.definitions.specs.declared.Case.{Case}
use Rattle.definitions.specs.Rules.{Rules, Coherent}
use Rattle.definitions.specs.Case.{scope_count, is_variable, place, own_length, weight, greatest, is_barred}
use Rattle.definitions.specs.Valid.{in_working}
use Rattle.definitions.specs.Moves.{Difference, plus, only_where}
use Rattle.theory.proofs.Places.{IsTuple, by-scope, by-tuple, variable-tuple, edge-tuple, variable-is, edge-is, place-variable, place-edge}
use Rattle.theory.proofs.Places.{place-apart, each-cong, weight-plus, plus-length, plus-is}
use Rattle.tables.specs.Scopes.{size_of, scope_part}
use Rattle.tables.proofs.Parts.{part-own, scope-part}
use Rattle.marks.specs.Marks.{mark}
use Rattle.marks.proofs.Laws.{mark-zero}
use Rattle.changes.specs.Spaced.{amount_within, weight_at, weight_with, stays_with}
use Rattle.changes.specs.Scopes.{Amount, raised_by, lowered_by, Amounts, PartFits, weight_after, part_stays, has_room, part_after, place_in, scope_by}
use Rattle.changes.proofs.SpacedLaws.{with-fits}

-- the list of a part's weights, each with what it gets
pub after_is : (by : Amount) (part u : List ℤ) → length u ≡ length part → ((p : ℕ) → p < length part → weight_at u p ≡ weight_after by part p)
    → u ≡ part_after by part
after_is by part u long at =
    ext_get_or (pos 0) u (part_after by part) (long ∙ sym (length-tab (weight_after by part) 0 (length part)))
    (λ k h. at k (omega arith) ∙ sym (get_d-tab (weight_after by part) (length part) k (pos 0) (omega arith)))

-- weights that keep their range fit a machine word
pub part-fits : {r : Rules} → Coherent r → (by : Amount) (part : List ℤ) → T (part_stays r by part) → PartFits by part
part-fits {r} limits by part t k h =
    with-fits limits (weight_at part k) (by k (weight_at part k))
    (all-at (λ p. stays_with r (weight_at part p) (by p (weight_at part p))) (length part) t k h)

-- where there is room the weights keep their range, whichever get `rest`
pub room-stays : (r : Rules) (best rest : ℤ) (part : List ℤ) → T (has_room r rest part) → T (part_stays r (raised_by best rest) part)
room-stays r best rest part t =
    let (n, w) = (and-iff (le_z (pos 0) rest) _).0 t in
    all_of (λ p. stays_with r (weight_at part p) (raised_by best rest p (weight_at part p))) (length part) (λ p h.
    let z = weight_at part p in
    let u = (all_get_d (within_z (minus r.working) (pos r.working -ℤ rest)) part (pos 0)).0 w p h in
    or_right (is_barred z) _ (if-cases (λ (y : ℤ). T (in_working r (z +ℤ y))) (eq_z z best) (pos 0) rest
    (λ e. n ▸ u ▸ simp flat (omega zs)) (λ e. n ▸ u ▸ simp flat (omega zs))))

-- `rest` is among the amounts
pub rest-within : (r : Rules) (best rest : ℤ) → Amounts r (raised_by best rest) → T (amount_within r rest)
rest-within r best rest f = subst (λ (z : ℤ). T (amount_within r z)) (if-false (pos 0) rest (eq_z (best +ℤ pos 1) best) (simp flat (omega (zs, add best (pos 1)))))
    (f 0 (best +ℤ pos 1))

-- at a value that is marked, and at one that is not
module _ (values p : ℕ) (a best rest z : ℤ) where
  pub is-lowered-by : mark values p ≡ true → raised_by best rest p z -ℤ a ≡ lowered_by values a best rest p z
  is-lowered-by e = rw e (+ℤ_comm (raised_by best rest p z) (neg_ℤ a))

  pub not-lowered-by : mark values p ≡ false → raised_by best rest p z ≡ lowered_by values a best rest p z
  not-lowered-by e = rw e (sym (+ℤ_idl (raised_by best rest p z)))

-- where no value is marked
module _ (values : ℕ) (a best rest : ℤ) (e : values ≡ 0) where
  pub none-lowered : (p : ℕ) (z : ℤ) → lowered_by values a best rest p z ≡ raised_by best rest p z
  none-lowered p z =
      ap (λ (b : Bool). only_where b (neg_ℤ a) +ℤ raised_by best rest p z) (ap (λ (s : ℕ). mark s p) e ∙ mark-zero p) ∙ +ℤ_idl (raised_by best rest p z)

  module _ (part : List ℤ) where
    none-at : (p : ℕ) → weight_after (lowered_by values a best rest) part p ≡ weight_after (raised_by best rest) part p
    none-at p = ap (weight_with (weight_at part p)) (none-lowered p (weight_at part p))

    pub none_stays : (r : Rules) → part_stays r (lowered_by values a best rest) part ≡ part_stays r (raised_by best rest) part
    none_stays r = all_same (length part) (λ p h. ap (stays_with r (weight_at part p)) (none-lowered p (weight_at part p)))

    pub none_after : part_after (lowered_by values a best rest) part ≡ part_after (raised_by best rest) part
    none_after = map_same (length part) (λ p h. none-at p)

    pub none-fits : PartFits (lowered_by values a best rest) part → PartFits (raised_by best rest) part
    none-fits f p h = subst (λ (z : ℤ). SFits w64 z) (none-at p) (f p h)

  pub none-amounts : (r : Rules) → Amounts r (lowered_by values a best rest) → Amounts r (raised_by best rest)
  none-amounts r f p z = subst (λ (z : ℤ). T (amount_within r z)) (none-lowered p z) (f p z)

-- ---- another part in the middle of a list
module _ (w u : List ℤ) (a n : ℕ) (fits : a + n ≤ length w) (same : length u ≡ n) where
  middle : List ℤ
  middle = u ++ drop n (drop a w)

  front_long : length (take a w) ≡ a
  front_long = length-take-le a w (omega arith)

  middle-long : length (take a w ++ middle) ≡ length w
  unfolding middle
  middle-long = simp (length-append, length-drop) (omega (arith, front_long))

  in-middle : (i : ℕ) → i < n → get_or (take a w ++ middle) (a + i) (pos 0) ≡ get_or u i (pos 0)
  unfolding middle
  in-middle i h =
      ap (λ (p : ℕ). get_or (take a w ++ middle) (p + i) (pos 0)) (sym front_long) ∙ get_or-append-add (take a w) middle i (pos 0)
      ∙ get_or-append u (drop n (drop a w)) (pos 0) i (omega arith)

  off-middle : (p : ℕ) → ((i : ℕ) → i < n → p ≡ a + i → ⊥) → get_or (take a w ++ middle) p (pos 0) ≡ get_or w p (pos 0)
  unfolding middle
  off-middle p g = ⊎_elim
      (λ t. let h : p < a = ltb→lt p a t in get_or-append (take a w) middle (pos 0) p (omega (arith, front_long)) ∙ get_or-take a w p (pos 0) h)
      (λ t.
      let h : a ≤ p = nltb→le p a t in
      let k : n ≤ p - a = past h in
      let d : p ≡ length (take a w) + (length u + (p - a - n)) = omega (arith, front_long) in
      let e : a + (n + (p - a - n)) ≡ p = omega arith in
      ap (λ (p : ℕ). get_or (take a w ++ middle) p (pos 0)) d ∙ get_or-append-add (take a w) middle _ (pos 0)
      ∙ get_or-append-add u (drop n (drop a w)) (p - a - n) (pos 0)
      ∙ get_or-drop n (drop a w) (p - a - n) (pos 0) ∙ get_or-drop a w (n + (p - a - n)) (pos 0) ∙ ap (λ (p : ℕ). get_or w p (pos 0)) e)
      (either (ltb p a))
    where
      past : a ≤ p → n ≤ p - a
      past h = ⊎_elim
          (λ t. absurd (g (p - a) (ltb→lt (p - a) n t) (omega arith)))
          (λ t. nltb→le (p - a) n t)
          (either (ltb (p - a) n))

-- a place in n rows of d, by its row and its place there
in_row : (n d p : ℕ) → p < n * d → (q r : ℕ) × (q < n) × (r < d) × (q * d + r ≡ p)
in_row n zero p h = absurd (omega arith)
in_row n (suc d) p h = (
  p / suc d,
  p % suc d,
  (div-lt_iff_lt-mul {k = suc d} {x = p} {y = n} (omega arith)).1 h,
  mod-lt p {m = suc d} (omega arith),
  div-add-mod' p (suc d),
)

module _ (c : Case) where
  size-variable : (i : ℕ) → i < c.n → size_of c i ≡ c.d
  size-variable i h = if-true _ _ (is_variable c i) (variable-is c h)

  size-edge : (e : ℕ) → size_of c (c.n + e) ≡ c.d * c.d
  size-edge e = if-false _ _ (is_variable c (c.n + e)) (edge-is c e)

  -- the places of a scope's tuples are those of its part
  pub place-in-variable : (i k l : ℕ) → i < c.n → place_in c i k l ≡ k
  place-in-variable i k l h = if-true _ _ (is_variable c i) (variable-is c h)

  place-in-edge : (e k l : ℕ) → place_in c (c.n + e) k l ≡ k * c.d + l
  place-in-edge e k l = if-false _ _ (is_variable c (c.n + e)) (edge-is c e)

  tuple-inside : (x k l : ℕ) → IsTuple c x k l → (place_in c x k l < size_of c x) × (place c x k l ≡ place c x 0 0 + place_in c x k l)
  tuple-inside x k l = by-tuple c (λ x k l. (place_in c x k l < size_of c x) × (place c x k l ≡ place c x 0 0 + place_in c x k l))
      (λ i k h p. (
        omega (arith, size-variable i h, place-in-variable i k 0 h),
        omega (arith, place-variable c i k 0 h, place-variable c i 0 0 h, place-in-variable i k 0 h),
      ))
      (λ e k l h p q. (
        omega (arith, size-edge e, place-in-edge e k l, mul-le-mul_right {m = suc k} {n = c.d} c.d p),
        omega (arith, place-edge c e k l, place-edge c e 0 0, place-in-edge e k l),
      ))

  inside-tuple : (x : ℕ) → x < scope_count c → (i : ℕ) → i < size_of c x
      → (k l : ℕ) × IsTuple c x k l × (place c x k l ≡ place c x 0 0 + i) × (place_in c x k l ≡ i)
  inside-tuple = by-scope c
      (λ x. (i : ℕ) → i < size_of c x → (k l : ℕ) × IsTuple c x k l × (place c x k l ≡ place c x 0 0 + i) × (place_in c x k l ≡ i))
      (λ j h i u. (
        i,
        0,
        variable-tuple c j i h (rw (size-variable j h) at u),
        omega (arith, place-variable c j i 0 h, place-variable c j 0 0 h),
        place-in-variable j i 0 h,
      ))
      (λ e h i u.
      let (q, r, y, z, g) = in_row c.d c.d i (rw (size-edge e) at u) in
      (q, r, edge-tuple c e q r h y z, omega (arith, place-edge c e q r, place-edge c e 0 0), place-in-edge e q r ∙ g))

  module _ (w : List ℤ) (long : own_length c ≤ length w) (x : ℕ) (h : x < scope_count c) where
    pub best-known : greatest_of (scope_part c w x) ≡ greatest c w x
    best-known = ap greatest_of (sym (scope-part c w (omega arith) x h))

    fits : place c x 0 0 + size_of c x ≤ length w
    fits = omega (arith, part-own c x h)

    part-long : length (scope_part c w x) ≡ size_of c x
    part-long = length-take-le (size_of c x) (drop (place c x 0 0) w) (simp length-drop (omega (arith, fits)))

    -- a tuple's weight is that at its place in the part
    part-weight : (k l : ℕ) → IsTuple c x k l → weight_at (scope_part c w x) (place_in c x k l) ≡ weight c w x k l
    part-weight k l t =
        let (u, e) = tuple-inside x k l t in
        get_or-take (size_of c x) (drop (place c x 0 0) w) (place_in c x k l) (pos 0) u ∙ get_or-drop (place c x 0 0) w (place_in c x k l) (pos 0)
        ∙ ap (weight_at w) (sym e)

    module _ (by : Amount) where
      -- what a tuple's weight is then
      abbrev next : ℕ → ℕ → ℤ
      next k l = weight_with (weight c w x k l) (by (place_in c x k l) (weight c w x k l))

      next-is : (k l : ℕ) → IsTuple c x k l → weight_after by (scope_part c w x) (place_in c x k l) ≡ next k l
      next-is k l t = ap (λ (z : ℤ). weight_with z (by (place_in c x k l) z)) (part-weight k l t)

      abbrev pub table-after : List ℤ
      table-after = take (place c x 0 0) w ++ (part_after by (scope_part c w x) ++ drop (size_of c x) (drop (place c x 0 0) w))

      after-long : length (part_after by (scope_part c w x)) ≡ size_of c x
      after-long = length-tab (weight_after by (scope_part c w x)) 0 (length (scope_part c w x)) ∙ part-long

      at-scope : (k l : ℕ) → IsTuple c x k l → weight c table-after x k l ≡ weight c w x k l +ℤ scope_by c w x by x k l
      unfolding middle
      at-scope k l t =
          let (u, e) = tuple-inside x k l t in
          ap (weight_at table-after) e ∙ in-middle w (part_after by (scope_part c w x)) (place c x 0 0) (size_of c x) fits after-long (place_in c x k l) u
          ∙ get_d-tab (weight_after by (scope_part c w x)) (length (scope_part c w x)) (place_in c x k l) (pos 0) (omega (arith, part-long))
          ∙ next-is k l t ∙ rw (eq-eqb x x refl)

      at_other : (y k l : ℕ) → T (not (eqb y x)) → IsTuple c y k l → weight c table-after y k l ≡ weight c w y k l +ℤ scope_by c w x by y k l
      unfolding middle
      at_other y k l n t =
          off-middle w (part_after by (scope_part c w x)) (place c x 0 0) (size_of c x) fits after-long (place c y k l)
          (λ i u e. let (a, b, s, g, d) = inside-tuple x h i u in (not-eqb-iff y x).0 n (place-apart c t s (e ∙ sym g)).0)
          ∙ rw (is_false (eqb y x) n) (sym (+ℤ_idr (weight c w y k l)))

      pub scope-changed : plus c (scope_by c w x by) w ≡ table-after
      unfolding middle
      scope-changed =
          plus-is c (scope_by c w x by) w (omega arith) table-after
          (middle-long w (part_after by (scope_part c w x)) (place c x 0 0) (size_of c x) fits after-long)
          (λ y k l t. ⊎_elim
          (λ s. let e : y ≡ x = eqb→eq y x s in
          subst (λ (y : ℕ). IsTuple c y k l → weight c table-after y k l ≡ weight c w y k l +ℤ scope_by c w x by y k l) (sym e) (at-scope k l) t)
          (λ s. at_other y k l s t) (either (eqb y x)))
          (λ p u. off-middle w (part_after by (scope_part c w x)) (place c x 0 0) (size_of c x) fits after-long p
          (λ i v e. omega (arith, part-own c x h)))

      pub part-stays-iff : (r : Rules) → T (part_stays r by (scope_part c w x))
          ↔ ((k l : ℕ) → IsTuple c x k l → T (stays_with r (weight c w x k l) (by (place_in c x k l) (weight c w x k l))))
      part-stays-iff r =
          let test : ℕ → Bool = λ p. stays_with r (weight_at (scope_part c w x) p) (by p (weight_at (scope_part c w x) p)) in (
            λ s k l t. subst (λ (z : ℤ). T (stays_with r z (by (place_in c x k l) z))) (part-weight k l t)
                (all-at test (length (scope_part c w x)) s (place_in c x k l) (omega (arith, part-long, tuple-inside x k l t))),
            λ f. all_of test (length (scope_part c w x)) (λ p u.
                let (k, l, t, g, d) = inside-tuple x h p (omega (arith, part-long)) in
                subst (λ (p : ℕ). T (test p)) d (subst (λ (z : ℤ). T (stays_with r z (by (place_in c x k l) z))) (sym (part-weight k l t)) (f k l t))),
          )

  -- ---- a scope in which nothing is added
  module _ (δ : Difference) (w : List ℤ) (x : ℕ) (h : x < scope_count c) (none : (k l : ℕ) → IsTuple c x k l → δ x k l ≡ pos 0) where
    pub same-weight : (k l : ℕ) → IsTuple c x k l → weight c (plus c δ w) x k l ≡ weight c w x k l
    same-weight k l t = weight-plus c δ w t ∙ ap (λ (z : ℤ). weight c w x k l +ℤ z) (none k l t) ∙ +ℤ_idr (weight c w x k l)

    pub same-greatest : greatest c (plus c δ w) x ≡ greatest c w x
    same-greatest = ap greatest_of (each-cong c x h same-weight)

    pub same-part : own_length c ≤ length w → scope_part c (plus c δ w) x ≡ scope_part c w x
    same-part long =
        let n : length (plus c δ w) ≡ length w = plus-length c δ w (omega arith) in
        sym (scope-part c (plus c δ w) (omega arith) x h) ∙ each-cong c x h same-weight ∙ scope-part c w (omega arith) x h
