-- The engine's press, where it is made, keeps every active tuple active, and makes one more active: the tuple that sets the amount. And a pair
-- whose round would not lower the upper bound is such a pair after it. Assumes nothing.
use mathlib.Core.Path.{◌≡◌, sym, ap₂, subst, ◌∙◌}
use mathlib.Core.Bool.{Bool, true, false, not, ◌&&◌, ◌||◌}
use mathlib.Core.Logic.{⊎_elim}
use mathlib.Core.List.Memᴰ
use mathlib.Core.List.{List, ◌∷◌}
use Prim.Native.Nat.{ℕ, ◌+◌, ◌<◌}
use native.Mathlib.Omega.{arith}
use lib.IntN.{ℤ, pos, neg_ℤ, ◌+ℤ◌, ◌-ℤ◌}
use lib.Dec.{T, not_T, eqb, eqb→eq, eqb_refl}
use lib.Signed.{◌≤ℤ◌}
use Rattle.std.specs.Prelude.{if◌then◌else◌, Some}
use Rattle.integers.specs.Words.{all, is_in}
use Rattle.integers.specs.Tests.{either, if-true, if-false, not-or-iff, or_left, or_right}
use Rattle.integers.specs.Linear.{flat, zs, ◌▸◌, ≤ℤ-antisym}
use Rattle.integers.specs.Lists.{◌∈◌, is_in-in}
use Rattle.integers.specs.Sums.{only, only-off}
use Rattle.definitions.specs.declared.Case.{Case}
use Rattle.definitions.specs.Rules.{Rules, Coherent}
use Rattle.definitions.specs.Case.{values, lower_end, upper_end, weight, greatest, active, barred}
use Rattle.definitions.specs.Valid.{working_weight}
use Rattle.definitions.specs.Moves.{Difference, only_where, press_by, active_values, leaves_range}
use Rattle.definitions.specs.PairRounds.{three_greatest}
use Rattle.definitions.specs.Engine.{chosen, kept_scopes, least_gap}
use Rattle.theory.proofs.Places.{IsTuple, variable-tuple, edge-tuple, active-weight}
use Rattle.theory.proofs.Barred.{weight-spared, bars-kept}
use Rattle.theory.proofs.Validity.{Handed}
use Rattle.pair_theory.specs.Closed.{shifted, both_at, tuple_lowers, pair_lowers}
use Rattle.pair_theory.proofs.Gains.{shifted-free, lowers_at}
use Rattle.press_theory.proofs.Trim.{not-all, chosen-some}
use Rattle.press_theory.proofs.Gaps.{amount-some, amount-reached}
use Rattle.press_theory.proofs.Fall.{engine_pressed, BarsBelow, made-below, only-within, pressed-weight, greatest-pressed}

-- ---- pairs whose round would not lower the upper bound

-- a tuple of the edge comes to no less than the three greatest weights
abbrev pub Remains : Case → List ℤ → ℕ → Type 0
Remains c w e = (k l : ℕ) × (k < c.d) × (l < c.d) × T (not (barred c w (c.n + e) k l)) × (three_greatest c w e ≤ℤ both_at c w e k l)

module _ (c : Case) (w : List ℤ) (e : ℕ) where
  pub remains-not : Remains c w e → T (not (pair_lowers c w e))
  remains-not (k, l, p, q, f, m) = not_T (pair_lowers c w e) (λ t. absurd (lowers_at c w e t p q f ▸ m ▸ simp flat (omega zs)))

  pub not-remains : T (not (pair_lowers c w e)) → Remains c w e
  not-remains t =
      let (k, p, s) = not-all (λ k. all (tuple_lowers c w e k) (values c)) c.d t in
      let (l, q, u) = not-all (tuple_lowers c w e k) c.d s in
      let (f, m) = (not-or-iff (barred c w (c.n + e) k l) _).0 u in
      (k, l, p, q, f, m ▸ simp flat (omega zs))

-- ---- a press that is made

-- an inactive tuple of weight y: `s` says that its scope is the variable's own, `r` that it is raised, `lowered` that its value is lowered
rise-step : (s r lowered f : Bool) (y a : ℤ) → T (s || r) → (T s → lowered ≡ f) → T (not f) → pos 1 ≤ℤ a
    → ((y +ℤ a) -ℤ (if s then a else pos 0)) ≤ℤ (y +ℤ (only_where (s && lowered) (neg_ℤ a) +ℤ only_where (r && not f) a))
rise-step s r lowered true y a o e n p = absurd n
rise-step true true lowered false y a o e n p = rw (e tt) (p ▸ simp flat (omega zs))
rise-step true false lowered false y a o e n p = rw (e tt) (simp flat (omega zs))
rise-step false true lowered false y a o e n p = simp flat (omega zs)
rise-step false false lowered false y a o e n p = absurd o

module _ {r : Rules} {c : Case} {w : List ℤ} {i : ℕ} {a : ℤ} (coherent : Coherent r) (h : Handed r (working_weight r) c w) (which : chosen c w ≡ Some i)
    (least : least_gap c w i ≡ Some a) (stays : T (not (leaves_range r c w (engine_pressed c w i a)))) where
  abbrev v : List ℤ
  v = engine_pressed c w i a

  abbrev change : Difference
  change = press_by c w i (active_values c w i) (is_in (kept_scopes c w i)) a

  pub below : BarsBelow c w i a
  below = made-below c w i a coherent h which stays

  pub same-bars : {x k l : ℕ} → IsTuple c x k l → barred c v x k l ≡ barred c w x k l
  same-bars = bars-kept c w change coherent stays

  pub new-weight : {x k l : ℕ} → IsTuple c x k l → ((weight c w x k l -ℤ only i a x) ≤ℤ weight c v x k l) × (weight c v x k l ≤ℤ (greatest c w x -ℤ only i a x))
  new-weight = pressed-weight c w h.shape which least below

  own-or-raised : {x : ℕ} → x ∈ (i ∷ kept_scopes c w i) → T (eqb x i || is_in (kept_scopes c w i) x)
  own-or-raised {x} (Memᴰ.head e) = or_left (eqb x i) (is_in (kept_scopes c w i) x) (subst (λ (y : ℕ). T (eqb x y)) e (eqb_refl x))
  own-or-raised {x} (Memᴰ.tail m) = or_right (eqb x i) (is_in (kept_scopes c w i) x) ((is_in-in (kept_scopes c w i) x).1 m)

  -- in the scopes that limit the amount, inactive tuples come nearer to the greatest weight by the amount
  pub inactive-nearer : {x k l : ℕ} → x ∈ (i ∷ kept_scopes c w i) → IsTuple c x k l → T (not (active c w x k l)) → T (not (barred c w x k l))
      → ((weight c w x k l +ℤ a) -ℤ only i a x) ≤ℤ weight c v x k l
  inactive-nearer {x} {k} {l} m u n f =
      rw (weight-spared c w change u ∙ if-false _ _ (barred c w x k l) f)
      (rise-step (eqb x i) (is_in (kept_scopes c w i) x) (active c w i k 0) (active c w x k l) (weight c w x k l) a (own-or-raised m) same n
      (amount-some c w h.shape which least))
    where
      same : T (eqb x i) → active c w i k 0 ≡ active c w x k l
      same t =
          let e : x ≡ i = eqb→eq x i t in
          ap₂ (λ (x l : ℕ). active c w x k l) (sym e) (sym (u.alone (rw e (chosen-some c w which).0)))

  -- what is not below the new greatest weight is active
  reaches : {x k l : ℕ} → IsTuple c x k l → (greatest c w x -ℤ only i a x) ≤ℤ weight c v x k l → T (active c v x k l)
  reaches {x} {k} {l} u o = (active-weight c v x k l).1 (rw (greatest-pressed c w h.shape which least below x u.scope)
      (≤ℤ-antisym (new-weight u).1 o))

  pub active-kept : {x k l : ℕ} → IsTuple c x k l → T (active c w x k l) → T (active c v x k l)
  active-kept {x} {k} {l} u t = reaches u (rw ((active-weight c w x k l).0 t) at (new-weight u).0)

  pub one-more-active : (x k l : ℕ) × IsTuple c x k l × T (not (active c w x k l)) × T (active c v x k l)
  one-more-active =
      let (x, k, l, m, u, n, f, d) = amount-reached c w h.shape which least in
      (x, k, l, u, n, reaches u (inactive-nearer m u n f ▸ d ▸ simp flat (omega zs)))

  -- what is shifted of a value falls by no more than its variable's greatest weight
  shifted-kept : (j k : ℕ) → j < c.n → k < c.d → (shifted c w j k -ℤ only i a j) ≤ℤ shifted c v j k
  shifted-kept j k o p =
      let u = variable-tuple c j k o p in
      ⊎_elim
      (λ t. if-true (pos 0) (weight c w j k 0) (barred c w j k 0) t
      ▸ if-true (pos 0) (weight c v j k 0) (barred c v j k 0) (subst T (sym (same-bars u)) t)
      ▸ only-within c w h.shape which least j ▸ simp flat (omega zs))
      (λ t. shifted-free c w j k t ▸ shifted-free c v j k (subst (λ (b : Bool). T (not b)) (sym (same-bars u)) t) ▸ new-weight u ▸ simp flat (omega zs))
      (either (barred c w j k 0))

  pub remains-kept : (e : ℕ) → e < c.m → Remains c w e → Remains c v e
  remains-kept e o (k, l, p, q, f, m) =
      let up : lower_end c e < upper_end c e = h.shape.ascending e o in
      let in-n : upper_end c e < c.n = h.shape.below-n e o in
      let own = (chosen-some c w which).0 in
      let u = edge-tuple c e k l o p q in
      let g = greatest-pressed c w h.shape which least below in (
        k,
        l,
        p,
        q,
        subst (λ (b : Bool). T (not b)) (sym (same-bars u)) f,
        m ▸ g (lower_end c e) (omega arith) ▸ g (upper_end c e) (omega arith) ▸ g (c.n + e) (omega arith)
            ▸ shifted-kept (lower_end c e) k (omega arith) p ▸ shifted-kept (upper_end c e) l in-n q ▸ new-weight u
            ▸ only-off i a {x = c.n + e} (omega arith) ▸ simp flat (omega zs),
      )
