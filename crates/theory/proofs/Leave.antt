-- A link leaves: the case that is left, where its weights were before, and what a plan of it comes to beside the plans of the case before.
-- Assumes nothing.
use mathlib.Core.Path.{◌≡◌, refl, sym, ap, ap₂, subst, ◌∙◌}
use mathlib.Core.Bool.{Bool, not, ◌||◌}
use mathlib.Core.Logic.{◌≢◌, ◌⊎◌, inl, inr, ⊎_elim}
use mathlib.Core.List.Memᴰ
use mathlib.Core.List.{List, map}
use Prim.Native.Nat.{ℕ, suc, ◌+◌, ◌-◌, ◌≤◌, ◌<◌}
use native.Mathlib.Omega.{arith}
use lib.IntN.{ℤ, pos, ◌+ℤ◌}
use lib.Dec.{T, T_not, not_T, eqb, ltb, ltb→lt, nltb→le, lt→ltb, eqb→eq}
use lib.Signed.{◌≤ℤ◌}
use lib.ListN.{length, get_or, length-map, get_or-append}
use Rattle.std.specs.Prelude.{if◌then◌else◌}
use Rattle.integers.specs.Words.{below, all, any, sum, minus, within_z}
use Rattle.integers.specs.Tests.{either, if-true, if-false, if-cases, and_intro, not-or-iff, not-not-iff, eqb-iff, not-eqb-iff}
use Rattle.integers.specs.Linear.{flat, zs, ◌▸◌}
use Rattle.integers.specs.Lists.{◌∈◌, any-in, in-those, those-in, those-few, below_in, in-below, length_from, map-map, all_map, all_of}
use Rattle.integers.specs.Tables.{get_d-in, in-get_d, get_d_map, get_d-tab, length-tab, those-rising}
use Rattle.integers.specs.Maxima.{smallest-below}
use Rattle.integers.specs.Sums.{Σ, Σ-cong, Σ-split, Σ-shift, Σ-list, sum-those, sum_mono, sum-sub}
use Rattle.definitions.specs.declared.Case.{Case}
use Rattle.definitions.specs.Rules.{Rules, Coherent}
use Rattle.definitions.specs.Case.{lower_end, upper_end, scope_count, each_tuple, own_length, weight, is_assignment, value_of, at_used, objective, greatest, is_barred, barred, is_lawful}
use Rattle.logs.specs.Leave.{has_end, leaving_edges, staying_edges, leaving_scopes, moved_down, moved_up, in_places, case_without, scope_before}
use Rattle.logs.specs.Leave.{table_without, least, carry_after, some_barred, carried_case, fresh_case, restarts, WeightedCase, left_by}
use Rattle.definitions.specs.Valid.{starting_weight, working_weight, carry_out}
use Rattle.theory.proofs.Shape.{Shape, lower-below}
use Rattle.theory.proofs.Places.{IsTuple, by-scope, by-tuple, variable-tuple, edge-tuple, first-tuple, each-variable, each-edge, each-cong, tuple-in, weight-most}
use Rattle.theory.proofs.Totals.{used-variable, used-edge, at-used, value-used, used-tuple, at-used-holds}
use Rattle.theory.proofs.Barred.{lawful-iff}
use Rattle.theory.proofs.Full.{full-weight, full-long, full-past}
use Rattle.theory.proofs.Validity.{own-lent, Handed, working-handed, BothHanded}

-- ---- numbers that move down and up

module _ (i : ℕ) where
  down-below : {j : ℕ} → j < i → moved_down i j ≡ j
  down-below {j} h = if-false _ _ (ltb i j) (not_T (ltb i j) (λ t. let g = ltb→lt i j t in omega arith))

  down-above : {j : ℕ} → i < j → moved_down i j ≡ j - 1
  down-above {j} h = if-true _ _ (ltb i j) (lt→ltb i j h)

  pub up-below : {j : ℕ} → j < i → moved_up i j ≡ j
  up-below {j} h = if-true _ _ (ltb j i) (lt→ltb j i h)

  pub up_above : {j : ℕ} → i ≤ j → moved_up i j ≡ j + 1
  up_above {j} h = if-false _ _ (ltb j i) (not_T (ltb j i) (λ t. let g = ltb→lt j i t in omega arith))

  apart-cases : {j : ℕ} → j ≢ i → (j < i) ⊎ (i < j)
  apart-cases {j} n = ⊎_elim (λ t. inl (ltb→lt j i t))
      (λ t. ⊎_elim (λ u. inr (ltb→lt i j u)) (λ u. let g : i ≤ j = nltb→le j i t in let h : j ≤ i = nltb→le i j u in absurd (n (omega arith)))
      (either (ltb i j))) (either (ltb j i))

  up_apart : (j : ℕ) → moved_up i j ≢ i
  up_apart j e = ⊎_elim (λ t. let h = ltb→lt j i t in omega (arith, up-below h, e)) (λ t. let h : i ≤ j = nltb→le j i t in omega (arith, up_above h, e))
      (either (ltb j i))

  down-up : (j : ℕ) → moved_down i (moved_up i j) ≡ j
  down-up j = ⊎_elim (λ t. let h = ltb→lt j i t in rw (up-below h) (down-below h))
      (λ t. let h : i ≤ j = nltb→le j i t in rw (up_above h) (down-above (omega arith) ∙ omega arith)) (either (ltb j i))

  up-down : {j : ℕ} → j ≢ i → moved_up i (moved_down i j) ≡ j
  up-down {j} n = ⊎_elim (λ (h : j < i). rw (down-below h) (up-below h))
      (λ (h : i < j). rw (down-above h) (up_above (omega arith) ∙ omega arith)) (apart-cases n)

  up-most : {n : ℕ} (j : ℕ) → j < n - 1 → moved_up i j < n
  up-most j h = ⊎_elim (λ t. let g = ltb→lt j i t in omega (arith, up-below g)) (λ t. let g : i ≤ j = nltb→le j i t in omega (arith, up_above g))
      (either (ltb j i))

  module _ {n : ℕ} (inside : i < n) where
    down-most : {j : ℕ} → j < n → j ≢ i → moved_down i j < n - 1
    down-most h m = ⊎_elim (λ g. omega (arith, down-below g)) (λ g. omega (arith, down-above g)) (apart-cases m)

  down-rising : {j k : ℕ} → j < k → j ≢ i → k ≢ i → moved_down i j < moved_down i k
  down-rising h m n = ⊎_elim
      (λ f. ⊎_elim (λ g. omega (arith, down-below f, down-below g)) (λ g. omega (arith, down-below f, down-above g)) (apart-cases n))
      (λ f. ⊎_elim (λ g. omega (arith, down-above f, down-below g)) (λ g. omega (arith, down-above f, down-above g)) (apart-cases n))
      (apart-cases m)

  -- the numbers below n are i and those that move up
  Σ-but : (f : ℕ → ℤ) {n : ℕ} → i < n → Σ f 0 n ≡ Σ (λ j. f (moved_up i j)) 0 (n - 1) +ℤ f i
  Σ-but f {n} h =
      let k : ℕ = n - 1 - i in
      let g : ℕ → ℤ = λ j. f (moved_up i j) in
      let u : n ≡ i + suc k = omega arith in
      let v : n - 1 ≡ i + k = omega arith in
      let a : Σ f 0 n ≡ Σ f 0 i +ℤ (f i +ℤ Σ f (suc i) k) = ap (Σ f 0) u ∙ Σ-split f 0 i (suc k) ∙ ap (λ (a : ℕ). Σ f 0 i +ℤ Σ f a (suc k)) (omega arith) in
      let b : Σ g 0 (n - 1) ≡ Σ g 0 i +ℤ Σ g i k = ap (Σ g 0) v ∙ Σ-split g 0 i k ∙ ap (λ (a : ℕ). Σ g 0 i +ℤ Σ g a k) (omega arith) in
      let c : Σ g 0 i ≡ Σ f 0 i = Σ-cong g f 0 i (λ x l u. ap f (up-below (omega arith))) in
      let d : Σ g i k ≡ Σ f (suc i) k = Σ-shift g i k ∙ Σ-cong (λ x. g (i + x)) (λ x. f (suc i + x)) 0 k
      (λ x l u. ap f (up_above (omega arith) ∙ omega arith)) ∙ sym (Σ-shift f (suc i) k) in
      a ▸ b ▸ c ▸ d ▸ simp flat (omega zs)

-- ---- the case that is left

module _ (c : Case) (i : ℕ) (carry : ℤ) where
  abbrev c' : Case
  c' = case_without c i carry

  -- the edge that had this number before
  abbrev edge_before : ℕ → ℕ
  edge_before q = get_or (staying_edges c i) q 0

  edge_stays : {q : ℕ} → q < c'.m → (edge_before q < c.m) × (lower_end c (edge_before q) ≢ i) × (upper_end c (edge_before q) ≢ i)
  edge_stays {q} h =
      let (m, t) = in-those (λ e. not (has_end c i e)) (below c.m) (get_d-in (staying_edges c i) 0 h) in
      let (a, b) = (not-or-iff (eqb (lower_end c (edge_before q)) i) (eqb (upper_end c (edge_before q)) i)).0 t in
      (in-below c.m m, (not-eqb-iff (lower_end c (edge_before q)) i).0 a, (not-eqb-iff (upper_end c (edge_before q)) i).0 b)

  edges-fewer : c'.m ≤ c.m
  edges-fewer = omega (arith, those-few (λ e. not (has_end c i e)) (below c.m), length_from 0 c.m)

  ends_at : (f : ℕ → ℕ) {q : ℕ} → q < c'.m → get_or (in_places (map f (staying_edges c i))) q 0 ≡ f (edge_before q)
  ends_at f {q} h =
      get_or-append (map f (staying_edges c i)) _ 0 q (simp length-map h)
      ∙ get_d_map f (staying_edges c i) q 0 0 h

  lower-left : {q : ℕ} → q < c'.m → lower_end c' q ≡ moved_down i (lower_end c (edge_before q))
  lower-left = ends_at (λ e. moved_down i (lower_end c e))

  upper-left : {q : ℕ} → q < c'.m → upper_end c' q ≡ moved_down i (upper_end c (edge_before q))
  upper-left = ends_at (λ e. moved_down i (upper_end c e))

  module _ (shape : Shape c) (inside : i < c.n) (several : 1 < c.n) where
    pub shape-left : Shape c'
    shape-left = record {
      some-variable = omega arith;
      some-value = shape.some-value;
      ascending = λ q h.
          let (l, a, b) = edge_stays h in
          omega (arith, lower-left h, upper-left h, down-rising i (shape.ascending (edge_before q) l) a b);
      below-n = λ q h. let (l, a, b) = edge_stays h in omega (arith, upper-left h, down-most i inside (shape.below-n (edge_before q) l) b);
    }

    -- ---- scopes

    pub before-variable : {y : ℕ} → y < c'.n → scope_before c i y ≡ moved_up i y
    before-variable {y} h = if-true _ _ (ltb y (c.n - 1)) (lt→ltb y (c.n - 1) h)

    pub before-edge : (q : ℕ) → scope_before c i (c'.n + q) ≡ c.n + edge_before q
    before-edge q =
        if-false _ _ (ltb (c'.n + q) (c.n - 1)) (not_T (ltb (c'.n + q) (c.n - 1)) (λ t. let h = ltb→lt (c'.n + q) (c.n - 1) t in omega arith))
        ∙ ap (λ (e : ℕ). c.n + edge_before e) (omega arith)

    pub before-tuple : {y k l : ℕ} → IsTuple c' y k l → IsTuple c (scope_before c i y) k l
    before-tuple = by-tuple c' (λ y k l. IsTuple c (scope_before c i y) k l)
        (λ j k h p. rw (before-variable h) (variable-tuple c (moved_up i j) k (up-most i j h) p))
        (λ q k l h p o. rw (before-edge q) (edge-tuple c (edge_before q) k l (edge_stays h).0 p o))

    -- a scope stays or leaves
    scope-cases : (x : ℕ) → x < scope_count c → ((y : ℕ) × (y < scope_count c') × (scope_before c i y ≡ x)) ⊎ x ∈ leaving_scopes c i
    scope-cases = by-scope c (λ x. ((y : ℕ) × (y < scope_count c') × (scope_before c i y ≡ x)) ⊎ x ∈ leaving_scopes c i)
        (λ j h. ⊎_elim (λ e. inr (Memᴰ.head (eqb→eq j i e)))
        (λ e. let n = (not-eqb-iff j i).0 e in let l = down-most i inside h n in inl (moved_down i j, omega arith, before-variable l ∙ up-down i n))
        (either (eqb j i)))
        (λ e h. ⊎_elim (λ t. inr (Memᴰ.tail (Memᴰ.map (λ e. c.n + e) (those-in (has_end c i) (below_in h) t))))
        (λ t. let (q, l, d) = in-get_d 0 (those-in (λ e. not (has_end c i e)) (below_in h) t) in
        inl (c'.n + q, omega arith, before-edge q ∙ ap (λ (e : ℕ). c.n + e) d))
        (either (has_end c i e)))

    -- a sum over the scopes before is that over those that stay and those that leave
    pub sum_left : (f : ℕ → ℤ) → Σ f 0 (scope_count c) ≡ Σ (λ y. f (scope_before c i y)) 0 (scope_count c') +ℤ sum (map f (leaving_scopes c i))
    sum_left f =
        let g : ℕ → ℤ = λ e. f (c.n + e) in
        let h : ℕ → ℤ = λ y. f (scope_before c i y) in
        let a : Σ f 0 (scope_count c) ≡ Σ f 0 c.n +ℤ Σ g 0 c.m =
        Σ-split f 0 c.n c.m ∙ ap (λ (z : ℤ). Σ f 0 c.n +ℤ z) (Σ-shift f (0 + c.n) c.m
        ∙ ap (λ (b : ℕ). Σ (λ e. f (b + e)) 0 c.m) (omega arith)) in
        let b : Σ h 0 (scope_count c') ≡ Σ h 0 c'.n +ℤ Σ (λ q. h (c'.n + q)) 0 c'.m =
        Σ-split h 0 c'.n c'.m ∙ ap (λ (z : ℤ). Σ h 0 c'.n +ℤ z) (Σ-shift h (0 + c'.n) c'.m
        ∙ ap (λ (b : ℕ). Σ (λ q. h (b + q)) 0 c'.m) (omega arith)) in
        let u : Σ h 0 c'.n ≡ Σ (λ j. f (moved_up i j)) 0 (c.n - 1) = Σ-cong h (λ j. f (moved_up i j)) 0 c'.n
        (λ y l k. ap f (before-variable (omega arith))) in
        let v : Σ (λ q. h (c'.n + q)) 0 c'.m ≡ sum (map g (staying_edges c i)) =
        Σ-cong (λ q. h (c'.n + q)) (λ q. g (edge_before q)) 0 c'.m (λ q l k. ap f (before-edge q)) ∙ Σ-list g (staying_edges c i) in
        let w : sum (map f (leaving_scopes c i)) ≡ f i +ℤ sum (map g (leaving_edges c i)) =
        ap (λ (z : ℤ). f i +ℤ z) (ap sum (map-map f (λ e. c.n + e) (leaving_edges c i))) in
        a ▸ b ▸ u ▸ v ▸ w ▸ Σ-but i f inside ▸ sum-those g (has_end c i) (below c.m) ▸ simp flat (omega zs)

    -- ---- weights

    pub weight-left : (w : List ℤ) {y k l : ℕ} → IsTuple c' y k l → weight c' (table_without c i w) y k l ≡ weight c w (scope_before c i y) k l
    weight-left w = full-weight c' (λ y k l. weight c w (scope_before c i y) k l) w

    -- ---- plans: the plan before that has value v at variable i

    module _ (v : ℕ) (p : List ℕ) where
      pub plan_before : List ℕ
      plan_before = map (λ j. if eqb j i then v else value_of p (moved_down i j)) (below c.n)

      value_before : {j : ℕ} → j < c.n → j ≢ i → value_of plan_before j ≡ value_of p (moved_down i j)
      unfolding plan_before
      value_before {j} h n =
          get_d-tab (λ j. if eqb j i then v else value_of p (moved_down i j)) c.n j 0 h ∙ if-false _ _ (eqb j i) ((not-eqb-iff j i).1 n)

      module _ (assigned : T (is_assignment c' p)) (small : v < c.d) where
        before-assigned : T (is_assignment c plan_before)
        unfolding plan_before
        before-assigned = and_intro (eqb (length plan_before) c.n) (all (λ k. ltb k c.d) plan_before)
            ((eqb-iff (length plan_before) c.n).1 (length-tab (λ j. if eqb j i then v else value_of p (moved_down i j)) 0 c.n))
            (rw (all_map (λ k. ltb k c.d) (λ j. if eqb j i then v else value_of p (moved_down i j)) (below c.n))
            (all_of (λ j. ltb (if eqb j i then v else value_of p (moved_down i j)) c.d) c.n (λ j h.
            if-cases (λ (k : ℕ). T (ltb k c.d)) (eqb j i) v (value_of p (moved_down i j)) (λ t. lt→ltb v c.d small)
            (λ t. lt→ltb (value_of p (moved_down i j)) c.d (value-used shape-left p assigned (moved_down i j)
            (down-most i inside h ((not-eqb-iff j i).0 t)))))))

        used-before : {A : Type 0} (f : ℕ → ℕ → A) (y : ℕ) → y < scope_count c' → at_used c plan_before (scope_before c i y) f ≡ at_used c' p y f
        used-before f = by-scope c' (λ y. at_used c plan_before (scope_before c i y) f ≡ at_used c' p y f)
            (λ j h.
            ap (λ (x : ℕ). at_used c plan_before x f) (before-variable h) ∙ used-variable c plan_before f (moved_up i j) (up-most i j h)
            ∙ ap (λ (k : ℕ). f k 0) (value_before (up-most i j h) (up_apart i j) ∙ ap (value_of p) (down-up i j)) ∙ sym (used-variable c' p f j h))
            (λ q h.
            let (l, a, b) = edge_stays h in
            ap (λ (x : ℕ). at_used c plan_before x f) (before-edge q) ∙ used-edge c plan_before f (edge_before q)
            ∙ ap₂ f (value_before (lower-below shape (edge_before q) l) a ∙ ap (value_of p) (sym (lower-left h)))
            (value_before (shape.below-n (edge_before q) l) b ∙ ap (value_of p) (sym (upper-left h)))
            ∙ sym (used-edge c' p f q))

        -- it comes to what it comes to in the case that is left, and what it uses in the scopes that leave
        pub objective-before : (w : List ℤ) → objective c w plan_before
            ≡ objective c' (table_without c i w) p +ℤ sum (map (λ x. at_used c plan_before x (weight c w x)) (leaving_scopes c i))
        objective-before w =
            sum_left (λ x. at_used c plan_before x (weight c w x))
            ∙ ap (λ (z : ℤ). z +ℤ sum (map (λ x. at_used c plan_before x (weight c w x)) (leaving_scopes c i)))
            (Σ-cong (λ y. at_used c plan_before (scope_before c i y) (weight c w (scope_before c i y))) (λ y. at_used c' p y (weight c' (table_without c i w) y)) 0
            (scope_count c') (λ y l u. let h : y < scope_count c' = omega arith in
            used-before (weight c w (scope_before c i y)) y h ∙ at-used c' p (weight c w (scope_before c i y)) y
            ∙ sym (weight-left w (used-tuple shape-left p assigned y h)) ∙ sym (at-used c' p (weight c' (table_without c i w) y) y)))

    -- ---- what holds of every scope before holds of every scope that is left

    leaving-below : {x : ℕ} → x ∈ leaving_scopes c i → x < scope_count c
    leaving-below (Memᴰ.head e) = omega arith
    leaving-below (Memᴰ.tail m) =
        let (e, o, d) = Memᴰ.of_map (λ e. c.n + e) (leaving_edges c i) m in
        omega (arith, d, in-below c.m (in-those (has_end c i) (below c.m) o).0)

    pub before-below : {y : ℕ} → y < scope_count c' → scope_before c i y < scope_count c
    before-below {y} h = (before-tuple (first-tuple c' shape.some-value y h)).scope

    pub barred-left : (w : List ℤ) {y k l : ℕ} → IsTuple c' y k l → barred c' (table_without c i w) y k l ≡ barred c w (scope_before c i y) k l
    barred-left w t = ap is_barred (weight-left w t)

    -- no tuple of a scope that leaves is barred
    module _ (w₀ : List ℤ) (free : T (not (any (some_barred c w₀) (leaving_scopes c i)))) where
      leaving-free : {x k l : ℕ} → x ∈ leaving_scopes c i → IsTuple c x k l → T (not (barred c w₀ x k l))
      leaving-free {x} {k} {l} m t = not_T (barred c w₀ x k l) (λ b. T_not (any (some_barred c w₀) (leaving_scopes c i)) free
          ((any-in (some_barred c w₀) (leaving_scopes c i)).1 (
            x,
            m,
            (any-in (λ b. b) (each_tuple c x (barred c w₀ x))).1
                (barred c w₀ x k l, tuple-in c (barred c w₀ x) t, b),
          )))

      before-lawful : (p : List ℕ) → T (is_lawful c' (table_without c i w₀) p) → T (is_lawful c w₀ (plan_before 0 p))
      before-lawful p a =
          let (s, f) = (lawful-iff c' (table_without c i w₀) p).0 a in
          let b = before-assigned 0 p s shape.some-value in
          (lawful-iff c w₀ (plan_before 0 p)).1 (
            b,
            λ x h. ⊎_elim
                (λ (y, l, e). subst (λ (x : ℕ). T (not (at_used c (plan_before 0 p) x (barred c w₀ x)))) e
                (rw (
                  used-before 0 p s shape.some-value (barred c w₀ (scope_before c i y)) y l,
                  at-used c' p (barred c w₀ (scope_before c i y)) y,
                  ← (barred-left w₀ (used-tuple shape-left p s y l)),
                  ← (at-used c' p (barred c' (table_without c i w₀) y) y),
                ) (f y l)))
                (λ m. rw (at-used c (plan_before 0 p) (barred c w₀ x) x) (leaving-free m (used-tuple shape (plan_before 0 p) b x h)))
                (scope-cases x h),
          )

      -- "working total plus carry is at least its starting total": it stays so with the carry that has grown
      pub carried-kept : (w : List ℤ)
          → ((p : List ℕ) → T (is_lawful c w₀ p) → objective c w₀ p ≤ℤ (objective c w p +ℤ c.carry))
          → (p : List ℕ) → T (is_lawful c' (table_without c i w₀) p)
          → objective c' (table_without c i w₀) p ≤ℤ (objective c' (table_without c i w) p +ℤ carry_after c i w₀ w)
      carried-kept w kept p a =
          let s = ((lawful-iff c' (table_without c i w₀) p).0 a).0 in
          let q : List ℕ = plan_before 0 p in
          let b = before-assigned 0 p s shape.some-value in
          let used : List ℤ → ℕ → ℤ = λ u x. at_used c q x (weight c u x) in
          let L : List ℕ = leaving_scopes c i in
          let most : sum (map (used w) L) ≤ℤ sum (map (greatest c w) L) =
          sum_mono (used w) (greatest c w) L (λ x m. at-used-holds shape q b (λ z. z ≤ℤ greatest c w x) x (leaving-below m) (weight c w x)
          (λ k l t. weight-most c w t)) in
          let fewest : sum (map (least c w₀) L) ≤ℤ sum (map (used w₀) L) =
          sum_mono (least c w₀) (used w₀) L (λ x m. at-used-holds shape q b (λ z. least c w₀ x ≤ℤ z) x (leaving-below m) (weight c w₀ x)
          (λ k l t. smallest-below (each_tuple c x (weight c w₀ x)) (tuple-in c (weight c w₀ x) t))) in
          kept q (before-lawful p a) ▸ objective-before 0 p s shape.some-value w₀ ▸ objective-before 0 p s shape.some-value w ▸ most ▸ fewest
          ▸ sum-sub (greatest c w) (least c w₀) L ▸ simp flat (omega zs)

    -- ---- a table that calls take stays one

    pub each_left : {A : Type 0} (f : ℕ → ℕ → A) (y : ℕ) → y < scope_count c' → each_tuple c' y f ≡ each_tuple c (scope_before c i y) f
    each_left f = by-scope c' (λ y. each_tuple c' y f ≡ each_tuple c (scope_before c i y) f)
        (λ j h. each-variable c' f j h ∙ sym (ap (λ (x : ℕ). each_tuple c x f) (before-variable h) ∙ each-variable c f (moved_up i j) (up-most i j h)))
        (λ q h. each-edge c' f q ∙ sym (ap (λ (x : ℕ). each_tuple c x f) (before-edge q) ∙ each-edge c f (edge_before q)))

    down-same : {a b : ℕ} → a ≢ i → b ≢ i → moved_down i a ≡ moved_down i b → a ≡ b
    down-same n m e = sym (up-down i n) ∙ ap (moved_up i) e ∙ up-down i m

    pub handed-left : {r : Rules} (range : ℤ → Bool) {w : List ℤ} → Handed r range c w → T (within_z (minus r.carried) (pos r.carried) carry)
        → Handed r range c' (table_without c i w)
    handed-left {r} range {w} h k =
        let fits : own_length c' ≤ length w = omega (arith, own-lent r c' (omega (arith, h.variables-most)) (omega (arith, h.edges_most, edges-fewer)), h.long) in
        let long = full-long c' (λ y k l. weight c w (scope_before c i y) k l) w fits in
        record {
          variables-most = omega (arith, h.variables-most);
          values-most = h.values-most;
          edges_most = omega (arith, h.edges_most, edges-fewer);
          long = long ∙ h.long;
          own-fits = omega (arith, long);
          carry-in = k;
          shape = shape-left;
          apart = λ e f l g a b.
              let (u, m, n) = edge_stays l in
              let (v, o, q) = edge_stays {q = f} (omega arith) in
              h.apart (edge_before e) (edge_before f) u (those-rising (λ e. not (has_end c i e)) c.m 0 f e g l)
              (down-same m o (sym (lower-left l) ∙ a ∙ lower-left (omega arith))) (down-same n q (sym (upper-left l) ∙ b ∙ upper-left (omega arith)));
          in-range = λ y k l t. subst (λ (z : ℤ). T (range z)) (sym (weight-left w t)) (h.in-range (scope_before c i y) k l (before-tuple t));
          past = full-past c' (λ y k l. weight c w (scope_before c i y) k l) w;
          some-free = λ y l. subst (λ (bs : List Bool). T (not (all (λ b. b) bs)))
              (sym (each-cong c' y l (λ k m t. barred-left w t) ∙ each_left (barred c w (scope_before c i y)) y l))
              (h.some-free (scope_before c i y) (before-below l));
        }

-- ---- what is left, with the carry or from the starting weights

module _ (r : Rules) (c : Case) (i : ℕ) (w₀ w : List ℤ) (shape : Shape c) (inside : i < c.n) (several : 1 < c.n) where
  abbrev after : WeightedCase
  after = left_by r c i w₀ w

  by-restart : (P : WeightedCase → Type 0)
      → P (record { case = fresh_case c i; starting = table_without c i w₀; weights = table_without c i w₀ })
      → (T (not (any (some_barred c w₀) (leaving_scopes c i))) → T (not (carry_out r (carried_case c i w₀ w)))
      → P (record { case = carried_case c i w₀ w; starting = table_without c i w₀; weights = table_without c i w }))
      → P after
  by-restart P fresh carried = if-cases P (restarts r c i w₀ w) _ _ (λ t. fresh) (λ t.
      let (a, b) = (not-or-iff (any (some_barred c w₀) (leaving_scopes c i) || carry_out r (carried_case c i w₀ w)) _).0 t in
      let (u, v) = (not-or-iff (any (some_barred c w₀) (leaving_scopes c i)) (carry_out r (carried_case c i w₀ w))).0 a in
      carried u v)

  pub left-kept : ((p : List ℕ) → T (is_lawful c w₀ p) → objective c w₀ p ≤ℤ (objective c w p +ℤ c.carry))
      → (p : List ℕ) → T (is_lawful after.case after.starting p)
      → objective after.case after.starting p ≤ℤ (objective after.case after.weights p +ℤ after.case.carry)
  left-kept kept = by-restart
      (λ u. (p : List ℕ) → T (is_lawful u.case u.starting p)
      → objective u.case u.starting p ≤ℤ (objective u.case u.weights p +ℤ u.case.carry))
      (λ p a. simp flat (omega zs)) (λ f k. carried-kept c i (carry_after c i w₀ w) shape inside several w₀ f w kept)

  pub left-handed : Coherent r → BothHanded r c w₀ w → BothHanded r after.case after.starting after.weights
  left-handed coherent h = by-restart (λ u. BothHanded r u.case u.starting u.weights)
      (let first : Handed r (starting_weight r) (fresh_case c i) (table_without c i w₀) =
      handed-left c i (pos 0) shape inside several (starting_weight r) h.first (simp flat (omega zs)) in
      record { first = first; now = working-handed coherent first; bars = λ y k l t. refl })
      (λ f k.
      let carry : ℤ = carry_after c i w₀ w in
      let k = (not-not-iff (within_z (minus r.carried) (pos r.carried) carry)).0 k in
      record {
        first = handed-left c i carry shape inside several (starting_weight r) h.first k;
        now = handed-left c i carry shape inside several (working_weight r) h.now k;
        bars = λ y a b t. barred-left c i carry shape inside several w t
            ∙ h.bars (scope_before c i y) a b (before-tuple c i carry shape inside several t) ∙ sym (barred-left c i carry shape inside several w₀ t);
      })
