-- On a table that every call takes, the round of a pair leaves the range just where the closed form says so; and where the greatest weights and
-- the marks are the table's, the pair found is the lowest one. Assumes nothing.
use mathlib.Core.Path.{◌≡◌, refl, sym, ap, ap₂, subst, ◌∙◌}
use mathlib.Core.Bool.{Bool, true, false, not, ◌&&◌, ◌||◌}
use mathlib.Core.Logic.{◌↔◌, ⊎_elim}
use mathlib.Core.List.{List}
use Prim.Native.Nat.{ℕ, ◌+◌, ◌*◌, ◌≤◌, ◌<◌}
use native.Mathlib.Omega.{arith}
use borrow.Author.Tests.{eq-eqb, lt-ltb, le-ltb}
use lib.IntN.{ℤ, pos, ◌-ℤ◌}
use lib.Dec.{T, T_not, ltb}
use lib.Signed.{le_z, lt_z}
use lib.ListN.{length, get_or}
use Rattle.std.specs.Prelude.{if◌then◌else◌}
use Rattle.integers.specs.Words.{all, any, first}
use Rattle.integers.specs.Tests.{tests, same_test, and-iff, and_intro, and_left, and_right, or_cases, if-true}
use Rattle.integers.specs.Linear.{flat, zs, ◌▸◌}
use Rattle.integers.specs.Lists.{any_same, any_below, any-in, any_at, any_of, all_of, all-at, those-same}
use Rattle.definitions.specs.declared.Case.{Case}
use Rattle.definitions.specs.Rules.{Rules, coherent, rules_of}
use Rattle.definitions.specs.Case.{values, lower_end, upper_end, scope_count, each_tuple, lent_length, weight, greatest, active, is_barred, barred}
use Rattle.definitions.specs.Valid.{in_working, working_weight, end_outside}
use Rattle.definitions.specs.PairRounds.{three_greatest, is_choice, some_choice, gains, passed_over, lowest_pair}
use Rattle.theory.proofs.Words.{none_below}
use Rattle.theory.proofs.Places.{edge-tuple, tuple-in, in-tuples}
use Rattle.theory.proofs.Validity.{Handed}
use Rattle.pair_theory.specs.Closed.{lower_at, both_at, tuple_leaves, pair_leaves, tuple_lowers, pair_lowers}
use Rattle.pair_theory.proofs.Gains.{lower-tuple, upper-tuple, active-not-lower}
use Rattle.pair_theory.proofs.Passing.{ready-is}
use Rattle.tables.specs.Scopes.{BestOf, is_sized}
use Rattle.tables.proofs.Answered.{limits-true, greatest-working}
use Rattle.marks.specs.Marks.{mark}
use Rattle.marks.proofs.Laws.{mark-byte_of}
use Rattle.arcs.specs.Active.{active_set, active_row}
use Rattle.arcs.specs.Partners.{has_partner, is_partner}
use Rattle.pair_choice.specs.declared.Asked.{Asked}
use Rattle.pair_choice.specs.PairChoice.{shifted_of, tuple_passes, tuples_have, round_leaves, leaves_by, has_choice, active_choice}
use Rattle.pair_choice.specs.PairChoice.{all_working, most_left, takes_round, takes_pair, lowest_pair_answer}

-- what is shifted of a weight that a table may hold is in the range
shifted-works : (r : Rules) (z : ℤ) → T (working_weight r z) → T (in_working r (shifted_of z))
shifted-works r z t = go (is_barred z) refl
  where
    go : (b : Bool) → is_barred z ≡ b → T (in_working r (if b then pos 0 else z))
    go true e = simp flat (omega zs)
    go false e = ⊎_elim (λ s. absurd (T_not false tt (rw e at s))) (λ s. s) (or_cases (is_barred z) (in_working r z) t)

module _ {c : Case} {w : List ℤ} (h : Handed (rules_of c) (working_weight (rules_of c)) c w) where
  sized : is_sized (rules_of c) c (length w) ≡ true
  sized = rw (limits-true h, eq-eqb (length w) (lent_length (rules_of c) c) h.long)

  -- ---- one pair
  module _ (e : ℕ) (edge : e < c.m) where
    upper_in : upper_end c e < c.n
    upper_in = h.shape.below-n e edge

    lower_in : lower_end c e < c.n
    lower_in = omega (arith, upper_in, h.shape.ascending e edge)

    inside : end_outside c e ≡ false
    inside = rw (lt-ltb (lower_end c e) c.n lower_in, lt-ltb (upper_end c e) c.n upper_in)

    -- the weights of the table are in the range, but for barred ones
    all-work : (b a o z d : Bool) → T a → T o → T (b || z) → (not b && not ((a && (o && z)) && d)) ≡ (not b && not d)
    all-work true a o z d s t u = refl
    all-work false true true true d s t u = refl
    all-work false true true false d s t u = absurd u
    all-work false true false z d s t u = absurd t
    all-work false false o z d s t u = absurd s

    abbrev passes : ℤ → ℕ → ℕ → Bool
    passes most k l = tuple_passes (rules_of c) (weight c w (lower_end c e) k 0) (weight c w (upper_end c e) l 0) (weight c w (c.n + e) k l) most

    abbrev sums_stay : ℤ → ℕ → ℕ → Bool
    sums_stay most k l = in_working (rules_of c) (lower_at c w e k l) && (in_working (rules_of c) (both_at c w e k l) && le_z (both_at c w e k l) most)

    passes-is : (most : ℤ) (k l : ℕ) → k < c.d → l < c.d → passes most k l
        ≡ (not (barred c w (c.n + e) k l) && not (sums_stay most k l))
    passes-is most k l p q =
        let a : ℤ = weight c w (lower_end c e) k 0 in
        let b : ℤ = weight c w (upper_end c e) l 0 in
        all-work (barred c w (c.n + e) k l) (in_working (rules_of c) (shifted_of a)) (in_working (rules_of c) (shifted_of b))
        (in_working (rules_of c) (weight c w (c.n + e) k l)) (sums_stay most k l)
        (shifted-works (rules_of c) a (h.in-range _ _ _ (lower-tuple c h.shape e edge p)))
        (shifted-works (rules_of c) b (h.in-range _ _ _ (upper-tuple c h.shape e edge q))) (h.in-range _ _ _ (edge-tuple c e k l edge p q))

    -- ---- the range
    most-range : (z : ℤ) → (in_working (rules_of c) z && le_z z (pos (rules_of c).working)) ≡ in_working (rules_of c) z
    most-range z = same_test _ (in_working (rules_of c) z) (λ t. and_left (in_working (rules_of c) z) (le_z z (pos (rules_of c).working)) t)
        (λ t. and_intro (in_working (rules_of c) z) (le_z z (pos (rules_of c).working)) t (t ▸ simp flat (omega zs)))

    round-leaves-is : round_leaves (rules_of c) c w e ≡ pair_leaves (rules_of c) c w e
    round-leaves-is = rw inside (any_same c.d (λ k p. any_same c.d (λ l q. passes-is (pos (rules_of c).working) k l p q
        ∙ ap (λ (b : Bool). not (barred c w (c.n + e) k l) && not (in_working (rules_of c) (lower_at c w e k l) && b)) (most-range (both_at c w e k l)))))

    pub leaves-is : leaves_by (rules_of c) c w e ≡ pair_leaves (rules_of c) c w e
    unfolding leaves_by
    leaves-is = rw (sized, lt-ltb e c.m edge) round-leaves-is

    -- ---- whether the round lowers the upper bound
    both_told : (b s t u : Bool) → not (not b && not (s && (t && u))) ≡ (not (not b && not (s && t)) && (b || u))
    both_told true s t u = refl
    both_told false true true true = refl
    both_told false true true false = refl
    both_told false true false u = refl
    both_told false false t u = refl

    less-is : (z y : ℤ) → le_z z (y -ℤ pos 1) ≡ lt_z z y
    less-is z y = same_test (le_z z (y -ℤ pos 1)) (lt_z z y) (λ t. t ▸ simp flat (omega zs)) (λ t. t ▸ simp flat (omega zs))

    abbrev most : ℤ
    most = three_greatest c w e -ℤ pos 1

    tuple_told : (k l : ℕ) → k < c.d → l < c.d → T (not (passes most k l)) ↔ T (not (tuple_leaves (rules_of c) c w e k l)) × T (tuple_lowers c w e k l)
    tuple_told k l p q =
        let o : not (passes most k l) ≡ (not (tuple_leaves (rules_of c) c w e k l) && tuple_lowers c w e k l) =
        ap not (passes-is most k l p q)
        ∙ both_told (barred c w (c.n + e) k l) (in_working (rules_of c) (lower_at c w e k l)) (in_working (rules_of c) (both_at c w e k l)) _
        ∙ ap (λ (b : Bool). not (tuple_leaves (rules_of c) c w e k l) && (barred c w (c.n + e) k l || b)) (less-is (both_at c w e k l) (three_greatest c w e)) in
        rw o (and-iff (not (tuple_leaves (rules_of c) c w e k l)) (tuple_lowers c w e k l))

    abbrev some_leaves : ℕ → Bool
    some_leaves k = any (tuple_leaves (rules_of c) c w e k) (values c)

    abbrev all_lower : ℕ → Bool
    all_lower k = all (tuple_lowers c w e k) (values c)

    abbrev some_passes : ℕ → Bool
    some_passes k = any (passes most k) (values c)

    lowers-told : not (tuples_have (rules_of c) c w e (Asked.Passes most)) ≡ (not (pair_leaves (rules_of c) c w e) && pair_lowers c w e)
    lowers-told = same_test _ _
        (λ n.
        let at : (k l : ℕ) → k < c.d → l < c.d → T (not (tuple_leaves (rules_of c) c w e k l)) × T (tuple_lowers c w e k l) =
        λ k l p q. (tuple_told k l p q).0 ((none_below (passes most k) c.d).0 ((none_below some_passes c.d).0 n k p) l q) in
        and_intro (not (pair_leaves (rules_of c) c w e)) (pair_lowers c w e)
        ((none_below some_leaves c.d).1 (λ k p. (none_below (tuple_leaves (rules_of c) c w e k) c.d).1 (λ l q. (at k l p q).0)))
        (all_of all_lower c.d (λ k p. all_of (tuple_lowers c w e k) c.d (λ l q. (at k l p q).1))))
        (λ t.
        let n = and_left (not (pair_leaves (rules_of c) c w e)) (pair_lowers c w e) t in
        let s = and_right (not (pair_leaves (rules_of c) c w e)) (pair_lowers c w e) t in
        (none_below some_passes c.d).1 (λ k p. (none_below (passes most k) c.d).1 (λ l q. (tuple_told k l p q).1 (
          (none_below (tuple_leaves (rules_of c) c w e k) c.d).0 ((none_below some_leaves c.d).0 n k p) l q,
          all-at (tuple_lowers c w e k) c.d (all-at all_lower c.d s k p) l q,
        ))))

    choice-told : tuples_have (rules_of c) c w e Asked.Choice ≡ some_choice c w e
    choice-told = same_test (tuples_have (rules_of c) c w e Asked.Choice) (some_choice c w e)
        (λ t.
        let (k, p, s) = any_at some_in c.d t in
        let (l, q, u) = any_at (is_choice c w e k) c.d s in
        (any-in (λ b. b) (each_tuple c (c.n + e) (is_choice c w e))).1 (is_choice c w e k l, tuple-in c (is_choice c w e) (edge-tuple c e k l edge p q), u))
        (λ t.
        let (b, m, i) = (any-in (λ b. b) (each_tuple c (c.n + e) (is_choice c w e))).0 t in
        let (k, l, u, o) = in-tuples c (is_choice c w e) (c.n + e) (omega arith) m in
        any_of some_in c.d u.one (any_of (is_choice c w e k) c.d u.two (subst T (sym o) i)))
      where
        some_in : ℕ → Bool
        some_in k = any (is_choice c w e k) (values c)

    module _ {best : List ℤ} (b : BestOf c w best) where
      most-is : most_left (rules_of c) c best e ≡ most
      most-is =
          let works : (x : ℕ) → x < scope_count c → T (in_working (rules_of c) (greatest c w x)) = greatest-working h in
          rw (b.holds (lower_end c e) (omega (arith, lower_in)), b.holds (upper_end c e) (omega (arith, upper_in)), b.holds (c.n + e) (omega arith))
          (if-true _ _ (all_working (rules_of c) (greatest c w (lower_end c e)) (greatest c w (upper_end c e)) (greatest c w (c.n + e)))
          (and_intro (in_working (rules_of c) (greatest c w (lower_end c e))) _ (works (lower_end c e) (omega (arith, lower_in)))
          (and_intro (in_working (rules_of c) (greatest c w (upper_end c e))) _ (works (upper_end c e) (omega (arith, upper_in)))
          (works (c.n + e) (omega arith)))))

      takes_told : takes_round (rules_of c) c w best e ≡ (some_choice c w e && (not (pair_leaves (rules_of c) c w e) && pair_lowers c w e))
      takes_told =
          rw (inside, most-is) (ap₂ ◌&&◌ lowers-told choice-told
          ∙ swapped (not (pair_leaves (rules_of c) c w e) && pair_lowers c w e) (some_choice c w e))
        where
          swapped : (a b : Bool) → (a && b) ≡ (b && a)
          swapped true true = refl
          swapped true false = refl
          swapped false true = refl
          swapped false false = refl

  -- ---- the lowest pair
  module _ {best : List ℤ} (b : BestOf c w best) (acts rows : List ℕ) (sets : (j : ℕ) → j < c.n → get_or acts j 0 ≡ active_set c w j)
      (marks : (e p : ℕ) → e < c.m → p < 16 → get_or rows (16 * e + p) 0 ≡ active_row c w e p) where
    set-has : (j k : ℕ) → j < c.n → k < 8 → mark (get_or acts j 0) k ≡ (ltb k c.d && active c w j k 0)
    set-has j k u p = ap (λ (s : ℕ). mark s k) (sets j u) ∙ mark-byte_of _ k p

    row_has : (e k l : ℕ) → e < c.m → k < 8 → l < 8 → mark (get_or rows (16 * e + k) 0) l ≡ (ltb l c.d && (ltb k c.d && active c w (c.n + e) k l))
    row_has e k l u p q = ap (λ (s : ℕ). mark s l) (marks e k u (omega arith) ∙ if-true _ _ (ltb k 8) (simp tests p)) ∙ mark-byte_of _ l q

    module _ (e : ℕ) (edge : e < c.m) where
      abbrev row : ℕ → ℕ
      row k = get_or rows (16 * e + k) 0

      abbrev lower : ℕ
      lower = get_or acts (lower_end c e) 0

      abbrev upper : ℕ
      upper = get_or acts (upper_end c e) 0

      -- the round of a pair with an active choice does not lower the upper bound
      choice-rests : T (active_choice c acts rows e) → T (not (pair_lowers c w e))
      unfolding has_choice
      choice-rests t =
          let (k, p, s) = (any_below (λ k. mark lower k && has_partner (row k) upper) 8).0 t in
          let (a, r) = simp tests at s in
          let (l, q, u) = (any_below (is_partner (row k) upper) 8).0 r in
          let (b, z) = simp tests at u in
          let (f, i) = simp tests at (rw (set-has (lower_end c e) k (lower_in e edge) p) at a) in
          let (g, j) = simp tests at (rw (set-has (upper_end c e) l (upper_in e edge) q) at z) in
          let (x, y) = simp tests at (rw (row_has e k l edge p q) at b) in
          active-not-lower (coherent c.rulebook) h edge k l f g i j y.1

      takes-is : takes_pair (rules_of c) c w best acts rows e ≡ (gains c w e && not (passed_over (rules_of c) c w e))
      takes-is =
          ap (λ (x : Bool). not (active_choice c acts rows e) && x) (takes_told e edge b)
          ∙ skipped (active_choice c acts rows e) (some_choice c w e) (not (pair_leaves (rules_of c) c w e)) (pair_lowers c w e) choice-rests
          ∙ sym (ready-is (coherent c.rulebook) h edge)
        where
          skipped : (a s n l : Bool) → (T a → T (not l)) → (not a && (s && (n && l))) ≡ (s && (n && l))
          skipped false s n l f = refl
          skipped true s n true f = absurd (f tt)
          skipped true true true false f = refl
          skipped true true false false f = refl
          skipped true false n false f = refl

    pub lowest-pair-is : c.n ≤ length acts → 16 * c.m ≤ length rows
        → lowest_pair_answer (rules_of c) c w best acts rows ≡ lowest_pair (rules_of c) c w
    unfolding lowest_pair_answer
    lowest-pair-is u v =
        rw (sized, le-ltb (length best) (scope_count c) b.enough, le-ltb (length acts) c.n u, le-ltb (length rows) (16 * c.m) v)
        (ap first (those-same c.m takes-is))
