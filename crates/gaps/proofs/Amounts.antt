-- On a table that was checked, with each scope's greatest weight in `best`, the least gap is the amount of the engine's press, which is less than
-- no_gap, and no_gap where there is no amount. Assumes nothing.
use Rattle.std.specs.Prelude.{Ok, Option, Some, None}
use mathlib.Core.Path.{◌≡◌, refl, sym, ap, subst, ◌∙◌}
use mathlib.Core.Bool.{Bool, false, not}
use mathlib.Core.Logic.{◌⊎◌, inl, inr, ⊎_elim}
use mathlib.Core.List.Memᴰ
use mathlib.Core.List.{List, ◌∷◌}
use Prim.Native.Nat.{ℕ, zero, suc, ◌≤◌, ◌<◌}
use native.Mathlib.Omega.{arith}
use lib.IntN.{ℤ, pos, ◌+ℤ◌, ◌-ℤ◌}
use lib.Dec.{T, T_not, eqb, eqb→eq}
use lib.Signed.{◌≤ℤ◌, ◌<ℤ◌, lt_z}
use lib.ListN.{length, get_or}
use borrow.Author.Tests.{eq-eqb, lt-ltb, le-ltb}
use Rattle.integers.specs.Words.{any, eq_z, those}
use Rattle.integers.specs.Tests.{is_true, either, if-cases, and_left, and_right, and_intro, or_left, or_right, or_cases, eqb-iff, not-eqb-iff}
use Rattle.integers.specs.Linear.{flat, zs, ◌▸◌, ≤ℤ-trans, ≤ℤ-antisym}
use Rattle.integers.specs.Lists.{◌∈◌, those-in, in-those, below_in}
use Rattle.definitions.specs.declared.Case.{Case}
use Rattle.definitions.specs.Rules.{Rules, Coherent, coherent, rules_of}
use Rattle.definitions.proofs.RulesLaws.{rules-fit}
use Rattle.definitions.specs.Case.{scopes, scope_count, lent_length, each_tuple, weight, greatest, active, barred, barred_weight, is_barred}
use Rattle.definitions.specs.Valid.{in_working, working_weight}
use Rattle.definitions.specs.Engine.{chosen, kept_scopes, least_gap}
use Rattle.theory.proofs.Places.{IsTuple, tuple-in, in-tuples, inactive-less}
use Rattle.theory.proofs.Validity.{Handed}
use Rattle.press_theory.proofs.Trim.{chosen-some}
use Rattle.press_theory.proofs.Gaps.{no_gap as no-gap, amount-reached, amount-room, amount-most}
use Rattle.tables.specs.Scopes.{BestOf, best_at, scope_part}
use Rattle.tables.proofs.Parts.{scope-part}
use Rattle.tables.proofs.Answered.{limits-true, carry-known, greatest-working}
use Rattle.tables.proofs.Search.{not_found}
use Rattle.gaps.specs.Gaps.{no_gap, else_no_gap, limits, sets_gap, less_gaps, gap_below, least_gap_answer}
use Rattle.gaps.proofs.Lesser.{less-room, Least, least-is}

-- ---- sums

gap-low : (z r g a : ℤ) → (z +ℤ r) ≤ℤ g → a ≡ g -ℤ z → r ≤ℤ a
gap-low z r g a = simp flat (omega zs)

gap-high : (z r g a : ℤ) → (z +ℤ a) ≤ℤ g → r ≡ g -ℤ z → a ≤ℤ r
gap-high z r g a = simp flat (omega zs)

-- a weight that a table may hold sets a gap just where it is below the greatest and not barred
sets : {r : Rules} → Coherent r → (z g : ℤ) → T (working_weight r z) → z <ℤ g → T (not (is_barred z)) → T (sets_gap g z)
sets {r} coherent z g h l f = and_intro (lt_z barred_weight z) (lt_z z g)
    (⊎_elim (λ t. absurd (T_not (is_barred z) f t)) (λ t. t ▸ coherent.barred-below ▸ simp flat (omega zs)) (or_cases (is_barred z) (in_working r z) h))
    (l ▸ simp flat (omega zs))

sets-inactive : (z g : ℤ) → T (sets_gap g z) → T (not (eq_z z g))
sets-inactive z g t = and_right (lt_z barred_weight z) (lt_z z g) t ▸ simp flat (omega zs)

sets-free : (z g : ℤ) → T (sets_gap g z) → T (not (is_barred z))
sets-free z g t = and_left (lt_z barred_weight z) (lt_z z g) t ▸ simp flat (omega zs)

-- ---- an amount is less than no_gap

module _ {c : Case} {w : List ℤ} (h : Handed (rules_of c) (working_weight (rules_of c)) c w) {i : ℕ} (which : chosen c w ≡ Some i) where
  pub amount-less : {a : ℤ} → least_gap c w i ≡ Some a → a <ℤ pos no_gap
  amount-less e = amount-most c w h.shape which e (rules_of c) (coherent c.rulebook) h.in-range ▸ (rules-fit (coherent c.rulebook)).working
      ▸ simp flat (omega zs)

-- ---- the scopes one after the other

module _ {c : Case} {w best : List ℤ} (h : Handed (rules_of c) (working_weight (rules_of c)) c w) (b : BestOf c w best) (raised : List ℕ) (i : ℕ) where
  -- r is the least of no_gap and the gaps of the scopes below x that limit the amount
  record LeastBelow (x : ℕ) (r : ℤ) : Type 0 where
    most : r ≤ℤ pos no_gap
    room : (y k l : ℕ) → y < x → T (limits raised i y) → IsTuple c y k l → T (not (active c w y k l)) → T (not (barred c w y k l))
        → (weight c w y k l +ℤ r) ≤ℤ greatest c w y
    reached : (r ≡ pos no_gap) ⊎ ((y k l : ℕ) × T (limits raised i y) × IsTuple c y k l × T (not (active c w y k l)) × T (not (barred c w y k l))
        × (r ≡ greatest c w y -ℤ weight c w y k l))

  module _ {x : ℕ} {r : ℤ} (g : x < scope_count c) (p : LeastBelow x r) where
    earlier : {y : ℕ} → y < suc x → T (not (eqb y x)) → y < x
    earlier {y} g t = omega (arith, (not-eqb-iff y x).0 t)

    passed : T (not (limits raised i x)) → LeastBelow (suc x) r
    passed n = record {
      most = p.most;
      room = λ y k l g t u v f. ⊎_elim
          (λ e. absurd (T_not (limits raised i x) n (subst (λ (z : ℕ). T (limits raised i z)) (eqb→eq y x e) t)))
          (λ e. p.room y k l (earlier g e) t u v f)
          (either (eqb y x));
      reached = p.reached;
    }

    taken : {q : ℤ} → T (limits raised i x) → Least (greatest c w x) r (each_tuple c x (weight c w x)) q → LeastBelow (suc x) q
    taken {q} t s = record {
      most = ≤ℤ-trans s.most p.most;
      room = λ y k l g a u v f. ⊎_elim
          (λ e. here (eqb→eq y x e) u v f)
          (λ e. less-room (weight c w y k l) q r (greatest c w y) s.most (p.room y k l (earlier g e) a u v f))
          (either (eqb y x));
      reached = ⊎_elim
          (λ e. ⊎_elim (λ d. inl (e ∙ d)) (λ (y, k, l, a, u, v, f, d). inr (y, k, l, a, u, v, f, e ∙ d)) p.reached)
          (λ (z, m, v, d).
          let (k, l, u, e) = in-tuples c (weight c w x) x g m in
          inr (
            x,
            k,
            l,
            t,
            u,
            subst (λ (y : ℤ). T (not (eq_z y (greatest c w x)))) (sym e) (sets-inactive z (greatest c w x) v),
            subst (λ (y : ℤ). T (not (is_barred y))) (sym e) (sets-free z (greatest c w x) v),
            d ∙ ap (λ (y : ℤ). greatest c w x -ℤ y) (sym e),
          ))
          s.reached;
    }
      where
        here : {y k l : ℕ} → y ≡ x → IsTuple c y k l → T (not (active c w y k l)) → T (not (barred c w y k l)) → (weight c w y k l +ℤ q) ≤ℤ greatest c w y
        here {y} {k} {l} e u v f = subst Room (sym e) at_x u v f
          where
            Room : ℕ → Type 0
            Room y = IsTuple c y k l → T (not (active c w y k l)) → T (not (barred c w y k l)) → (weight c w y k l +ℤ q) ≤ℤ greatest c w y

            at_x : Room x
            at_x u v f = s.room (weight c w x k l) (tuple-in c (weight c w x) u)
                (sets (coherent c.rulebook) (weight c w x k l) (greatest c w x) (h.in-range x k l u) (inactive-less c w u v) f)

  -- a scope's gaps, by its greatest weight and its tuples
  scope-least : (x : ℕ) → x < scope_count c → (r : ℤ) → Least (greatest c w x) r (each_tuple c x (weight c w x)) (less_gaps (best_at best x) (scope_part c w x) r)
  scope-least x g r =
      let e = scope-part c w h.own-fits x g in
      rw (b.holds x g, ← e) (least-is (greatest c w x) (each_tuple c x (weight c w x)) r)

  least-below : (x : ℕ) → x ≤ scope_count c → LeastBelow x (gap_below c w best raised i x)
  unfolding gap_below
  least-below zero l = record { most = omega zs; room = λ y k l h. absurd (omega arith); reached = inl refl }
  least-below (suc x) l =
      let p = least-below x (omega arith) in
      if-cases (LeastBelow (suc x)) (limits raised i x) (less_gaps (best_at best x) (scope_part c w x) (gap_below c w best raised i x))
      (gap_below c w best raised i x)
      (λ t. taken (omega arith) p t (scope-least x (omega arith) (gap_below c w best raised i x))) (λ t. passed (omega arith) p t)

  -- ---- the amount
  module _ (which : chosen c w ≡ Some i) (same : those (λ x. not (eqb (get_or raised x 0) 0)) (scopes c) ≡ kept_scopes c w i) where
    abbrev is_raised : ℕ → Bool
    is_raised x = not (eqb (get_or raised x 0) 0)

    limiting-in : {y : ℕ} → y < scope_count c → T (limits raised i y) → y ∈ (i ∷ kept_scopes c w i)
    limiting-in {y} h t = ⊎_elim (λ s. Memᴰ.head (eqb→eq y i s))
        (λ s. Memᴰ.tail (subst (λ (l : List ℕ). y ∈ l) same (those-in is_raised (below_in h) s))) (or_cases (eqb y i) (is_raised y) t)

    in-limiting : {y : ℕ} → y ∈ (i ∷ kept_scopes c w i) → T (limits raised i y)
    in-limiting {y} (Memᴰ.head e) = or_left (eqb y i) (is_raised y) ((eqb-iff y i).1 e)
    in-limiting {y} (Memᴰ.tail m) =
        or_right (eqb y i) (is_raised y) (in-those is_raised (scopes c) (subst (λ (l : List ℕ). y ∈ l) (sym same) m)).1

    amount-is : gap_below c w best raised i (scope_count c) ≡ else_no_gap (least_gap c w i)
    amount-is = go (least_gap c w i) refl
      where
        r : ℤ
        r = gap_below c w best raised i (scope_count c)

        p : LeastBelow (scope_count c) r
        p = least-below (scope_count c) (omega arith)

        go : (o : Option ℤ) → least_gap c w i ≡ o → r ≡ else_no_gap o
        go None e = ⊎_elim (λ q. q)
            (λ (y, k, l, s, v, n, f, q). absurd (T_not (barred c w y k l) f (no-gap c w e (limiting-in v.scope s) v n))) p.reached
        go (Some a) e =
            let (x, k, l, m, u, t, f, d) = amount-reached c w h.shape which e in
            let low : r ≤ℤ a = gap-low (weight c w x k l) r (greatest c w x) a (p.room x k l u.scope (in-limiting m) u t f) d in
            ≤ℤ-antisym low (⊎_elim
            (λ q. absurd (q ▸ low ▸ amount-less h which e ▸ simp flat (omega zs)))
            (λ (y, k, l, s, v, n, f, q). gap-high (weight c w y k l) r (greatest c w y) a
            (amount-room c w h.shape which e (limiting-in v.scope s) v n f) q)
            p.reached)

    answered : scope_count c ≤ length raised → least_gap_answer (rules_of c) c w best raised i ≡ Ok (gap_below c w best raised i (scope_count c))
    unfolding least_gap_answer
    answered room =
        rw (
          limits-true h,
          eq-eqb (length w) (lent_length (rules_of c) c) h.long,
          le-ltb (length best) (scope_count c) b.enough,
          le-ltb (length raised) (scope_count c) room,
          lt-ltb i c.n (chosen-some c w which).0,
          carry-known h,
          ← none-outside,
        )
      where
        none-outside : false ≡ any (λ x. not (in_working (rules_of c) (best_at best x))) (scopes c)
        none-outside = not_found (λ x. not (in_working (rules_of c) (best_at best x))) (scope_count c)
            (λ x l.
            let t = subst (λ (z : ℤ). T (in_working (rules_of c) z)) (sym (b.holds x l)) (greatest-working h x l) in
            ap not (is_true (in_working (rules_of c) (best_at best x)) t))

    -- what is answered then
    pub gap-answer : scope_count c ≤ length raised → least_gap_answer (rules_of c) c w best raised i ≡ Ok (else_no_gap (least_gap c w i))
    gap-answer room = answered room ∙ ap Ok amount-is
