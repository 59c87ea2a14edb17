-- The table of a case: every tuple has one place of its own, a table is its weights at the tuples and what lies past the own places, a
-- difference changes nothing else, and a scope's greatest weight is the weight of some tuple and passed by none. Assumes nothing.
use mathlib.Core.Path.{◌≡◌, refl, sym, ap, ap₂, subst, ◌∙◌}
use mathlib.Core.Bool.{Bool, not}
use mathlib.Core.Logic.{◌↔◌, ⊎_elim}
use mathlib.Core.List.Memᴰ
use mathlib.Core.List.{List, [], ◌++◌, map}
use Prim.Native.Nat.{ℕ, zero, suc, ◌+◌, ◌*◌, ◌-◌, ◌/◌, ◌%◌, ◌≤◌, ◌<◌}
use native.Mathlib.Nat.{mul-le-mul_right, div-add-mod', div-lt_iff_lt-mul, mod-lt}
use native.Mathlib.Omega.{arith}
use lib.IntN.{ℤ, pos, ◌+ℤ◌, +ℤ_idr, +ℤ_assoc}
use lib.Dec.{T, not_T, ltb, ltb→lt, lt→ltb, nltb→le}
use lib.Signed.{◌≤ℤ◌, ◌<ℤ◌}
use lib.ListN.{length, get_or, take, drop, length-append, length-drop, get_or-append}
use lib.Seq.{get_or-append-add, get_or-drop, get_or-take, drop_at, ext_get_or, length-take-le}
use Rattle.integers.specs.Words.{from, below, joined}
use Rattle.integers.specs.Tests.{either, if-true, if-false}
use Rattle.integers.specs.Linear.{flat, zs, ◌▸◌, T-eq, ≤ℤ-antisym}
use Rattle.integers.specs.Lists.{◌∈◌, below_in, in-below, from-split, from-shift, map-append, map-map, map_same, joined-append, joined_in, in-joined}
use Rattle.integers.specs.Tables.{get_d-tab, length-tab, length-rows, get_d_rows, all_get_d}
use Rattle.integers.specs.Maxima.{greatest-above, greatest-attained}
use Rattle.definitions.specs.declared.Case.{Case}
use Rattle.definitions.specs.Case.{values, scope_count, is_variable, edge_of, each_tuple, place, own_length, weight, greatest, active}
use Rattle.definitions.specs.Valid.{all_weights}
use Rattle.definitions.specs.Moves.{Difference, table_of, plus}
use Rattle.definitions.proofs.CaseLaws.{place-own}

-- k and l are a tuple of scope x
pub record IsTuple (c : Case) (x k l : ℕ) : Type 0 where
  pub scope : x < scope_count c
  pub one : k < c.d
  pub two : l < c.d
  pub alone : x < c.n → l ≡ 0

-- a place in n rows of d, by its row and its place there
in_row : (n d p : ℕ) → p < n * d → (q r : ℕ) × (q < n) × (r < d) × (q * d + r ≡ p)
in_row n zero p h = absurd (omega arith)
in_row n (suc d) p h = (
  p / suc d,
  p % suc d,
  (div-lt_iff_lt-mul {k = suc d} {x = p} {y = n} (omega arith)).1 h,
  mod-lt p {m = suc d} (omega arith),
  div-add-mod' p (suc d),
)

-- the weights with a difference added
abbrev after : Case → Difference → List ℤ → Difference
after c δ w x k l = weight c w x k l +ℤ δ x k l

module _ (c : Case) where
  -- ---- what holds of variables and of edges holds of scopes and of tuples
  pub by-scope : (P : ℕ → Type 0) → ((i : ℕ) → i < c.n → P i) → ((e : ℕ) → e < c.m → P (c.n + e)) → (x : ℕ) → x < scope_count c → P x
  by-scope P f g x h =
      ⊎_elim (λ t. f x (ltb→lt x c.n t))
      (λ t. let u : c.n ≤ x = nltb→le x c.n t in let s : c.n + (x - c.n) ≡ x = omega arith in subst P s (g (x - c.n) (omega arith)))
      (either (is_variable c x))

  pub variable-tuple : (i k : ℕ) → i < c.n → k < c.d → IsTuple c i k 0
  variable-tuple i k h p = record { scope = omega arith; one = p; two = omega arith; alone = λ u. refl }

  pub edge-tuple : (e k l : ℕ) → e < c.m → k < c.d → l < c.d → IsTuple c (c.n + e) k l
  edge-tuple e k l h p q = record { scope = omega arith; one = p; two = q; alone = λ u. absurd (omega arith) }

  pub first-tuple : 0 < c.d → (x : ℕ) → x < scope_count c → IsTuple c x 0 0
  first-tuple some x h = record { scope = h; one = some; two = some; alone = λ u. refl }

  pub by-tuple : (P : ℕ → ℕ → ℕ → Type 0) → ((i k : ℕ) → i < c.n → k < c.d → P i k 0)
      → ((e k l : ℕ) → e < c.m → k < c.d → l < c.d → P (c.n + e) k l) → {x k l : ℕ} → IsTuple c x k l → P x k l
  by-tuple P f g {x} {k} {l} t =
      by-scope (λ x. (x < c.n → l ≡ 0) → P x k l)
      (λ i h a. subst (λ (l : ℕ). P i k l) (sym (a h)) (f i k h t.one))
      (λ e h a. g e k l h t.one t.two) x t.scope t.alone

  -- ---- the definitions at a variable and at an edge
  pub variable-is : {i : ℕ} → i < c.n → T (is_variable c i)
  variable-is {i} h = lt→ltb i c.n h

  pub edge-is : (e : ℕ) → T (not (is_variable c (c.n + e)))
  edge-is e = not_T (is_variable c (c.n + e)) (λ t. let h : c.n + e < c.n = ltb→lt (c.n + e) c.n t in omega arith)

  pub edge-of : (e : ℕ) → edge_of c (c.n + e) ≡ e
  edge-of e = omega arith

  pub place-variable : (i k l : ℕ) → i < c.n → place c i k l ≡ i * c.d + k
  place-variable i k l h = if-true _ _ (is_variable c i) (variable-is h)

  pub place-edge : (e k l : ℕ) → place c (c.n + e) k l ≡ c.n * c.d + (e * (c.d * c.d) + (k * c.d + l))
  place-edge e k l = if-false _ _ (is_variable c (c.n + e)) (edge-is e) ∙ rw (edge-of e) (omega arith)

  module _ {A : Type 0} (f : ℕ → ℕ → A) where
    pub each-variable : (i : ℕ) → i < c.n → each_tuple c i f ≡ map (λ k. f k 0) (values c)
    each-variable i h = if-true _ _ (is_variable c i) (variable-is h)

    pub each-edge : (e : ℕ) → each_tuple c (c.n + e) f ≡ joined (map (λ k. map (λ l. f k l) (values c)) (values c))
    each-edge e = if-false _ _ (is_variable c (c.n + e)) (edge-is e)

  -- ---- a scope's tuples as a list
  module _ {A : Type 0} (f : ℕ → ℕ → A) where
    pub tuple-in : {x k l : ℕ} → IsTuple c x k l → f k l ∈ each_tuple c x f
    tuple-in = by-tuple (λ x k l. f k l ∈ each_tuple c x f)
        (λ i k h p. rw (each-variable f i h) (Memᴰ.map (λ k. f k 0) (below_in p)))
        (λ e k l h p q. rw (each-edge f e) (joined_in (Memᴰ.map (λ l. f k l) (below_in q)) (Memᴰ.map (λ k. map (λ l. f k l) (values c)) (below_in p))))

    pub in-tuples : (x : ℕ) → x < scope_count c → {z : A} → z ∈ each_tuple c x f → (k l : ℕ) × IsTuple c x k l × (f k l ≡ z)
    in-tuples x h {z} = by-scope (λ x. z ∈ each_tuple c x f → (k l : ℕ) × IsTuple c x k l × (f k l ≡ z))
        (λ i h m.
        let (k, o, e) = Memᴰ.of_map (λ k. f k 0) (values c) (subst (λ (s : List A). z ∈ s) (each-variable f i h) m) in
        (k, 0, variable-tuple i k h (in-below c.d o), e))
        (λ y h m.
        let (s, o, p) = in-joined (map (λ k. map (λ l. f k l) (values c)) (values c)) (subst (λ (s : List A). z ∈ s) (each-edge f y) m) in
        let (k, u, e) = Memᴰ.of_map (λ k. map (λ l. f k l) (values c)) (values c) o in
        let (l, v, g) = Memᴰ.of_map (λ l. f k l) (values c) (subst (λ (s : List A). z ∈ s) (sym e) p) in
        (k, l, edge-tuple y k l h (in-below c.d u) (in-below c.d v), g)) x h

  pub each-cong : {A : Type 0} {f g : ℕ → ℕ → A} (x : ℕ) → x < scope_count c → ((k l : ℕ) → IsTuple c x k l → f k l ≡ g k l) → each_tuple c x f ≡ each_tuple c x g
  each-cong {A} {f} {g} x h = by-scope (λ x. ((k l : ℕ) → IsTuple c x k l → f k l ≡ g k l) → each_tuple c x f ≡ each_tuple c x g)
      (λ i h same. rw (each-variable f i h, each-variable g i h) (map_same c.d (λ k p. same k 0 (variable-tuple i k h p))))
      (λ e h same. rw (each-edge f e, each-edge g e) (ap joined (map_same c.d (λ k p. map_same c.d (λ l q. same k l (edge-tuple e k l h p q)))))) x h

  -- ---- the table with f x k l at each tuple: first n rows of d, then m squares of d rows of d
  module _ (f : Difference) where
    row : ℕ → List ℤ
    row i = map (λ k. f i k 0) (values c)

    square : ℕ → List ℤ
    square e = joined (map (λ k. map (λ l. f (c.n + e) k l) (values c)) (values c))

    length-row : (i : ℕ) → length (row i) ≡ c.d
    unfolding row
    length-row i = length-tab (λ k. f i k 0) 0 c.d

    length-square : (e : ℕ) → length (square e) ≡ c.d * c.d
    unfolding square
    length-square e = length-rows (λ k. map (λ l. f (c.n + e) k l) (values c)) c.d c.d (λ k h. length-tab (λ l. f (c.n + e) k l) 0 c.d)

    split : table_of c f ≡ joined (map row (below c.n)) ++ joined (map square (below c.m))
    unfolding row square
    split =
        ap (λ (l : List ℕ). joined (map each l)) (from-split 0 c.n c.m) ∙ ap joined (map-append each (below c.n) (from (0 + c.n) c.m))
        ∙ joined-append (map each (below c.n)) (map each (from (0 + c.n) c.m))
        ∙ ap₂ (λ (p q : List (List ℤ)). joined p ++ joined q) (map_same c.n (λ i h. each-variable (f i) i h))
        (ap (λ (a : ℕ). map each (from a c.m)) (omega arith) ∙ ap (map each) (from-shift c.n 0 c.m)
        ∙ map-map each (λ e. c.n + e) (below c.m) ∙ map_same c.m (λ e h. each-edge (f (c.n + e)) e))
      where
        each : ℕ → List ℤ
        each x = each_tuple c x (f x)

    front_length : length (joined (map row (below c.n))) ≡ c.n * c.d
    front_length = length-rows row c.n c.d (λ i h. length-row i)

    pub table-length : length (table_of c f) ≡ own_length c
    table-length =
        ap length split ∙ length-append (joined (map row (below c.n))) (joined (map square (below c.m)))
        ∙ ap₂ ◌+◌ front_length (length-rows square c.m (c.d * c.d) (λ e h. length-square e))

    -- whatever follows the own places
    pub weight-table : (rest : List ℤ) {x k l : ℕ} → IsTuple c x k l → weight c (table_of c f ++ rest) x k l ≡ f x k l
    unfolding row square
    weight-table rest {x} {k} {l} t =
        get_or-append (table_of c f) rest (pos 0) (place c x k l) (omega (arith, table-length, place-own c x k l t.scope t.one t.two))
        ∙ by-tuple (λ x k l. weight c (table_of c f) x k l ≡ f x k l) at-variable at_edge t
      where
        at-variable : (i k : ℕ) → i < c.n → k < c.d → weight c (table_of c f) i k 0 ≡ f i k 0
        at-variable i k h p =
            ap₂ (λ (s : List ℤ) (a : ℕ). get_or s a (pos 0)) split (place-variable i k 0 h)
            ∙ get_or-append (joined (map row (below c.n))) (joined (map square (below c.m))) (pos 0) (i * c.d + k)
            (omega (arith, front_length, mul-le-mul_right {m = suc i} {n = c.n} c.d h))
            ∙ get_d_rows row c.n c.d (λ i h. length-row i) i k (pos 0) h p ∙ get_d-tab (λ k. f i k 0) c.d k (pos 0) p

        at_edge : (e k l : ℕ) → e < c.m → k < c.d → l < c.d → weight c (table_of c f) (c.n + e) k l ≡ f (c.n + e) k l
        at_edge e k l h p q =
            ap₂ (λ (s : List ℤ) (a : ℕ). get_or s a (pos 0)) split (place-edge e k l
            ∙ ap (λ (a : ℕ). a + (e * (c.d * c.d) + (k * c.d + l))) (sym front_length))
            ∙ get_or-append-add (joined (map row (below c.n))) (joined (map square (below c.m))) (e * (c.d * c.d) + (k * c.d + l)) (pos 0)
            ∙ get_d_rows square c.m (c.d * c.d) (λ e h. length-square e) e (k * c.d + l) (pos 0) h
            (omega (arith, mul-le-mul_right {m = suc k} {n = c.d} c.d p))
            ∙ get_d_rows (λ k. map (λ l. f (c.n + e) k l) (values c)) c.d c.d (λ k h. length-tab (λ l. f (c.n + e) k l) 0 c.d) k l (pos 0) p q
            ∙ get_d-tab (λ l. f (c.n + e) k l) c.d l (pos 0) q

  pub table-cong : {f g : Difference} → ((x k l : ℕ) → IsTuple c x k l → f x k l ≡ g x k l) → table_of c f ≡ table_of c g
  table-cong same = ap joined (map_same (scope_count c) (λ x h. each-cong x h (same x)))

  -- ---- places and tuples
  pub place-apart : {x k l y a b : ℕ} → IsTuple c x k l → IsTuple c y a b → place c x k l ≡ place c y a b → (x ≡ y) × (k ≡ a) × (l ≡ b)
  place-apart {x} {k} {l} {y} {a} {b} t u e = (same (λ x k l. x), same (λ x k l. k), same (λ x k l. l))
    where
      -- the table of any number of a tuple tells the tuples apart
      same : (f : ℕ → ℕ → ℕ → ℕ) → f x k l ≡ f y a b
      same f =
          let g : Difference = λ x k l. pos (f x k l) in
          let z : g x k l ≡ g y a b = sym (weight-table g [] t) ∙ ap (λ (p : ℕ). get_or (table_of c g ++ []) p (pos 0)) e ∙ weight-table g [] u in
          cc

  pub tuple_at : (p : ℕ) → p < own_length c → (x k l : ℕ) × IsTuple c x k l × (place c x k l ≡ p)
  tuple_at p h =
      ⊎_elim
      (λ t.
      let (i, k, u, v, e) = in_row c.n c.d p (ltb→lt p (c.n * c.d) t) in
      (i, k, 0, variable-tuple i k u v, place-variable i k 0 u ∙ e))
      (λ t.
      let o : c.n * c.d ≤ p = nltb→le p (c.n * c.d) t in
      let (e, q, u, v, f) = in_row c.m (c.d * c.d) (p - c.n * c.d) (omega arith) in
      let (k, l, y, z, g) = in_row c.d c.d q v in
      (c.n + e, k, l, edge-tuple e k l u y z, omega (arith, place-edge e k l)))
      (either (ltb p (c.n * c.d)))

  -- equal weights, and equal past the own places
  pub same-table : (u w : List ℤ) → length u ≡ length w → ((x k l : ℕ) → IsTuple c x k l → weight c u x k l ≡ weight c w x k l)
      → ((p : ℕ) → own_length c ≤ p → get_or u p (pos 0) ≡ get_or w p (pos 0)) → u ≡ w
  same-table u w long at-tuples past =
      ext_get_or (pos 0) u w long (λ p h. ⊎_elim
      (λ t. let (x, k, l, i, e) = tuple_at p (ltb→lt p (own_length c) t) in subst (λ (p : ℕ). get_or u p (pos 0) ≡ get_or w p (pos 0)) e (at-tuples x k l i))
      (λ t. past p (nltb→le p (own_length c) t)) (either (ltb p (own_length c))))

  pub all-weights : (range : ℤ → Bool) (w : List ℤ) → own_length c ≤ length w → T (all_weights range c w)
      ↔ ((x k l : ℕ) → IsTuple c x k l → T (range (weight c w x k l)))
  all-weights range w long = (
    λ t x k l i.
        let p : place c x k l < own_length c = place-own c x k l i.scope i.one i.two in
        subst (λ (z : ℤ). T (range z)) (get_or-take (own_length c) w (place c x k l) (pos 0) p)
        ((all_get_d range (take (own_length c) w) (pos 0)).0 t (place c x k l) (omega (arith, length-take-le (own_length c) w long))),
    λ f. (all_get_d range (take (own_length c) w) (pos 0)).1 (λ p h.
        let o : p < own_length c = omega (arith, length-take-le (own_length c) w long) in
        let (x, k, l, i, e) = tuple_at p o in
        subst (λ (z : ℤ). T (range z)) (ap (λ (p : ℕ). get_or w p (pos 0)) e ∙ sym (get_or-take (own_length c) w p (pos 0) o)) (f x k l i)),
  )

  -- ---- a difference added
  module _ (δ : Difference) (w : List ℤ) where
    pub weight-plus : {x k l : ℕ} → IsTuple c x k l → weight c (plus c δ w) x k l ≡ weight c w x k l +ℤ δ x k l
    weight-plus = weight-table (after c δ w) (drop (own_length c) w)

    pub plus-past : (p : ℕ) → own_length c ≤ p → get_or (plus c δ w) p (pos 0) ≡ get_or w p (pos 0)
    plus-past p h =
        let e : p ≡ length (table_of c (after c δ w)) + (p - own_length c) = omega (arith, table-length (after c δ w)) in
        let g : own_length c + (p - own_length c) ≡ p = omega arith in
        ap (λ (p : ℕ). get_or (plus c δ w) p (pos 0)) e ∙ get_or-append-add (table_of c (after c δ w)) (drop (own_length c) w) (p - own_length c) (pos 0)
        ∙ get_or-drop (own_length c) w (p - own_length c) (pos 0) ∙ ap (λ (p : ℕ). get_or w p (pos 0)) g

    pub drop-plus : drop (own_length c) (plus c δ w) ≡ drop (own_length c) w
    drop-plus = drop_at (table_of c (after c δ w)) (drop (own_length c) w) (own_length c) (table-length (after c δ w))

    pub plus-cong : (γ : Difference) → ((x k l : ℕ) → IsTuple c x k l → δ x k l ≡ γ x k l) → plus c δ w ≡ plus c γ w
    plus-cong γ same = ap (λ (t : List ℤ). t ++ drop (own_length c) w) (table-cong (λ x k l t. ap (λ (z : ℤ). weight c w x k l +ℤ z) (same x k l t)))

    pub plus-plus : (γ : Difference) → plus c γ (plus c δ w) ≡ plus c (λ x k l. δ x k l +ℤ γ x k l) w
    plus-plus γ = ap₂ ◌++◌
        (table-cong (λ x k l t. ap (λ (z : ℤ). z +ℤ γ x k l) (weight-plus t) ∙ +ℤ_assoc (weight c w x k l) (δ x k l) (γ x k l))) drop-plus

    module _ (long : own_length c ≤ length w) where
      pub plus-length : length (plus c δ w) ≡ length w
      plus-length =
          length-append (table_of c (after c δ w)) (drop (own_length c) w) ∙ ap₂ ◌+◌ (table-length (after c δ w)) (length-drop (own_length c) w) ∙ omega arith

      -- the table that has these weights, and is w past the own places
      pub plus-is : (u : List ℤ) → length u ≡ length w → ((x k l : ℕ) → IsTuple c x k l → weight c u x k l ≡ weight c w x k l +ℤ δ x k l)
          → ((p : ℕ) → own_length c ≤ p → get_or u p (pos 0) ≡ get_or w p (pos 0)) → plus c δ w ≡ u
      plus-is u e at-tuples past = same-table (plus c δ w) u (plus-length ∙ sym e) (λ x k l t. weight-plus t ∙ sym (at-tuples x k l t))
          (λ p h. plus-past p h ∙ sym (past p h))

  pub plus-zero : (δ : Difference) (w : List ℤ) → own_length c ≤ length w → ((x k l : ℕ) → IsTuple c x k l → δ x k l ≡ pos 0) → plus c δ w ≡ w
  plus-zero δ w long none = plus-is δ w long w refl (λ x k l t. sym (ap (λ (z : ℤ). weight c w x k l +ℤ z) (none x k l t) ∙ +ℤ_idr (weight c w x k l)))
      (λ p h. refl)

  -- ---- a scope's greatest weight
  module _ (w : List ℤ) where
    pub weight-most : {x k l : ℕ} → IsTuple c x k l → weight c w x k l ≤ℤ greatest c w x
    weight-most {x} t = greatest-above (each_tuple c x (weight c w x)) (tuple-in (weight c w x) t)

    pub active-weight : (x k l : ℕ) → T (active c w x k l) ↔ weight c w x k l ≡ greatest c w x
    active-weight x k l = T-eq (weight c w x k l) (greatest c w x)

    pub inactive-less : {x k l : ℕ} → IsTuple c x k l → T (not (active c w x k l)) → weight c w x k l <ℤ greatest c w x
    inactive-less t i = weight-most t ▸ i ▸ simp flat (omega zs)

    -- in a scope that has a tuple
    module _ {x a b : ℕ} (t : IsTuple c x a b) where
      pub greatest-at : (k l : ℕ) × IsTuple c x k l × (weight c w x k l ≡ greatest c w x)
      greatest-at = in-tuples (weight c w x) x t.scope (greatest-attained (each_tuple c x (weight c w x)) (tuple-in (weight c w x) t))

      pub some-active : (k l : ℕ) × IsTuple c x k l × T (active c w x k l)
      some-active = let (k, l, u, e) = greatest-at in (k, l, u, (active-weight x k l).1 e)

      pub greatest-within : {z : ℤ} → ((k l : ℕ) → IsTuple c x k l → weight c w x k l ≤ℤ z) → greatest c w x ≤ℤ z
      greatest-within {z} h = let (k, l, u, e) = greatest-at in subst (λ (y : ℤ). y ≤ℤ z) e (h k l u)

      pub greatest-there : ((k l : ℕ) → IsTuple c x k l → weight c w x k l ≤ℤ weight c w x a b) → greatest c w x ≡ weight c w x a b
      greatest-there h = ≤ℤ-antisym (greatest-within h) (weight-most t)

    pub some-active-value : 0 < c.d → (i : ℕ) → i < c.n → (k : ℕ) × (k < c.d) × T (active c w i k 0)
    some-active-value some i h =
        let (k, l, t, u) = some-active (first-tuple some i (omega arith)) in
        (k, t.one, subst (λ (l : ℕ). T (active c w i k l)) (t.alone h) u)
