-- Number 11 never meets the engine from starting weights, and no pair is passed over for the range there. Let U be the starting limit, s the
-- number of scopes and R the sum of the scopes' spreads. Weights are those of tuples that are not barred. Early, before the first press, a
-- variable's weights are within U, and so are an edge's until its own round, which leaves them within 3·U and its variables at 0; so no round
-- meets the range, and a press comes only where no pair's round would lower the upper bound. Late, from then on, none would any more; R is
-- 2·s·U at most and falls by a press's amount, and the amounts are all that takes the variables' weights below −U. So every weight stays between
-- −(2·s + 1)·U and 3·U. Assumes nothing.
use Rattle.std.specs.Prelude.{Option, Some, None}
use mathlib.Core.Path.{◌≡◌, refl, sym, ap, subst, ◌∙◌}
use mathlib.Core.Bool.{Bool, not, ◌&&◌}
use mathlib.Core.Logic.{◌≢◌, ◌⊎◌, inl, inr, ⊎_elim}
use mathlib.Core.List.{List}
use Prim.Native.Nat.{ℕ, ◌+◌, ◌*◌, ◌≤◌, ◌<◌}
use native.Mathlib.Nat.{mul-le-mul_right, add-mul, mul_assoc, one-mul}
use native.Mathlib.Omega.{arith}
use lib.IntN.{ℤ, pos, ◌+ℤ◌, ◌-ℤ◌}
use lib.Dec.{T, T_not, not_T, eqb, eqb→eq}
use lib.Signed.{◌≤ℤ◌}
use Rattle.integers.specs.Words.{below, any, minus}
use Rattle.integers.specs.Tests.{is_true, is_false, either, if-false, if-cases, and_intro, or_left, or_right, not-eqb-iff}
use Rattle.integers.specs.Options.{some_inj, none-some, found-else}
use Rattle.integers.specs.Linear.{flat, zs, ◌▸◌, T-eq}
use Rattle.integers.specs.Lists.{any_of, first-none}
use Rattle.integers.specs.Sums.{only, only-off, Σ-most, Σ-least}
use Rattle.definitions.specs.declared.Case.{Case}
use Rattle.definitions.specs.Rules.{Rules, Coherent, scopes_at_most}
use Rattle.definitions.specs.Case.{values, lower_end, upper_end, scope_count, weight, greatest, barred_weight, barred}
use Rattle.definitions.specs.Valid.{in_working, working_weight}
use Rattle.definitions.specs.Moves.{Move, active_press, difference, leaves_range, after_moves}
use Rattle.definitions.specs.PairRounds.{is_choice, some_choice, gains, passed_over, pair_round, lowest_pair}
use Rattle.definitions.specs.Engine.{chosen, kept_scopes, least_gap, round, engine_next}
use Rattle.theory.proofs.Shape.{Shape, lower-below}
use Rattle.theory.proofs.Words.{none_below}
use Rattle.theory.proofs.Places.{IsTuple, by-tuple, variable-tuple, edge-tuple, each-cong, greatest-within, greatest-at, some-active, active-weight}
use Rattle.theory.proofs.Places.{some-active-value}
use Rattle.theory.proofs.Barred.{stays-in-range, active-free}
use Rattle.theory.proofs.Validity.{Handed, Valid, working-handed, handed-spared}
use Rattle.pair_theory.specs.Closed.{shifted, tuple_leaves, pair_leaves, pair_lowers}
use Rattle.pair_theory.proofs.Gains.{lower-tuple, upper-tuple, shifted-free}
use Rattle.pair_theory.proofs.Rounded.{pair_rounded, by-pair, rounded-edge, rounded-else}
use Rattle.pair_theory.proofs.Passing.{after-pair, rounded-handed, ready-is}
use Rattle.press_theory.proofs.Trim.{chosen-some}
use Rattle.press_theory.proofs.Gaps.{amount-some, amount-reached}
use Rattle.press_theory.proofs.Fall.{engine_pressed, BarsBelow, after-press, low_below, only-within, pressed-weight}
use Rattle.press_theory.proofs.InRange.{start-weight}
use Rattle.reach_theory.proofs.Next.{engine-next-is}
use Rattle.reach_theory.proofs.Kept.{Remains, remains-not, not-remains, same-bars, new-weight, remains-kept}
use Rattle.reach_theory.proofs.Spread.{spread, total_spread, spread-some, total-above, spread-pressed}
use Rattle.reach_theory.proofs.Shares.{Shares, only_at, shares-spread, shares-rounded, was_free, shifted-lower, shifted-upper, shifted-else}
use Rattle.reach_theory.proofs.Counts.{lowest-ready}

abbrev Within : ℕ → ℤ → Type 0
Within u z = (minus u ≤ℤ z) × (z ≤ℤ pos u)

-- the weights of edge e are within u; those of its variables are 0
abbrev EdgeWithin : Case → List ℤ → ℕ → ℕ → Type 0
EdgeWithin c w u e = (k l : ℕ) → k < c.d → l < c.d → T (not (barred c w (c.n + e) k l)) → Within u (weight c w (c.n + e) k l)

abbrev ZeroEnds : Case → List ℤ → ℕ → Type 0
ZeroEnds c w e = (k : ℕ) → k < c.d → (shifted c w (lower_end c e) k ≡ pos 0) × (shifted c w (upper_end c e) k ≡ pos 0)

-- before the edge's own round, and after it
abbrev EdgeEarly : Rules → Case → List ℤ → ℕ → Type 0
EdgeEarly r c w e = EdgeWithin c w r.starting e ⊎ (ZeroEnds c w e × EdgeWithin c w (3 * r.starting) e)

-- 2·s·U
abbrev widest : Rules → Case → ℕ
widest r c = 2 * (scope_count c * r.starting)

-- before the first press, and from then on
pub record Early (r : Rules) (c : Case) (w : List ℤ) : Type 0 where
  pub variables : (i k : ℕ) → i < c.n → k < c.d → Within r.starting (shifted c w i k)
  pub edges : (e : ℕ) → e < c.m → EdgeEarly r c w e
  pub shares : Shares c w (widest r c)

pub record Late (r : Rules) (c : Case) (w : List ℤ) : Type 0 where
  pub remains : (e : ℕ) → e < c.m → T (some_choice c w e) → Remains c w e
  pub variables-least : (i k : ℕ) → i < c.n → k < c.d → T (not (barred c w i k 0))
      → ((minus r.starting -ℤ pos (widest r c)) +ℤ total_spread c w) ≤ℤ weight c w i k 0
  pub variables-most : (i k : ℕ) → i < c.n → k < c.d → T (not (barred c w i k 0)) → weight c w i k 0 ≤ℤ pos r.starting
  pub edges : (e : ℕ) → e < c.m → EdgeWithin c w (3 * r.starting) e
  pub narrow : total_spread c w ≤ℤ pos (widest r c)

-- what the engine's rounds reach from starting weights
pub record EngineReached (r : Rules) (c : Case) (w : List ℤ) : Type 0 where
  pub handed : Handed r (working_weight r) c w
  pub phase : Early r c w ⊎ Late r c w

-- ---- a pair's round, early

module _ {r : Rules} {c : Case} {w : List ℤ} (coherent : Coherent r) (h : Handed r (working_weight r) c w) where
  abbrev shape : Shape c
  shape = h.shape

  -- no weight of a variable that is shifted whole passes what is shifted of its values
  greatest-shifted : (i : ℕ) → i < c.n → ((k : ℕ) → k < c.d → shifted c w i k ≡ pos 0) → greatest c w i ≤ℤ pos 0
  greatest-shifted i o zero = greatest-within c w (variable-tuple c i 0 o shape.some-value) (λ k l t. rw (t.alone o) (⊎_elim
      (λ b. (T-eq (weight c w i k 0) barred_weight).0 b ▸ simp flat (omega zs))
      (λ b. shifted-free c w i k b ▸ zero k t.one ▸ simp flat (omega zs)) (either (barred c w i k 0))))

  zero-ends : (e : ℕ) → e < c.m → ZeroEnds c w e → Remains c w e
  zero-ends e o zero =
      let in-n : upper_end c e < c.n = shape.below-n e o in
      let (k, l, u, a) = some-active c w (edge-tuple c e 0 0 o shape.some-value shape.some-value) in (
        k,
        l,
        u.one,
        u.two,
        active-free c coherent w h.in-range (c.n + e) u.scope (h.some-free (c.n + e) u.scope) k l a,
        (active-weight c w (c.n + e) k l).0 a ▸ (zero k u.one).0 ▸ (zero l u.two).1
            ▸ greatest-shifted (lower_end c e) (omega (arith, shape.ascending e o)) (λ k p. (zero k p).0)
            ▸ greatest-shifted (upper_end c e) in-n (λ k p. (zero k p).1) ▸ simp flat (omega zs),
      )

  module _ (early : Early r c w) (e : ℕ) (o : e < c.m) (t : T (pair_lowers c w e)) where
    lower-within : (k : ℕ) → k < c.d → Within r.starting (shifted c w (lower_end c e) k)
    lower-within k p = early.variables (lower_end c e) k (lower-below shape e o) p

    upper-within : (k : ℕ) → k < c.d → Within r.starting (shifted c w (upper_end c e) k)
    upper-within k p = early.variables (upper_end c e) k (shape.below-n e o) p

    edge-within : EdgeWithin c w r.starting e
    edge-within = ⊎_elim (λ near. near) (λ (zero, far). absurd (T_not (pair_lowers c w e) (remains-not c w e (zero-ends e o zero)) t)) (early.edges e o)

    -- the range is not met
    early-stays : 3 * r.starting ≤ r.working → T (not (pair_leaves r c w e))
    early-stays room = (none_below (λ k. any (tuple_leaves r c w e k) (values c)) c.d).1 (λ k p.
        (none_below (tuple_leaves r c w e k) c.d).1 (λ l q. ⊎_elim
        (λ b. rw (is_true (barred c w (c.n + e) k l) b) tt)
        (λ b. rw (is_false (barred c w (c.n + e) k l) b)
        (lower-within k p ▸ upper-within l q ▸ edge-within k l p q b ▸ simp flat (omega zs))) (either (barred c w (c.n + e) k l))))

    -- afterwards
    zeros-stay : (x k : ℕ) → x < c.n → k < c.d → shifted c w x k ≡ pos 0 → shifted c (pair_rounded c w e) x k ≡ pos 0
    zeros-stay x k n p = by-pair c e (λ x. x < c.n → shifted c w x k ≡ pos 0 → shifted c (pair_rounded c w e) x k ≡ pos 0)
        (λ n z. shifted-lower c w e shape o k p) (λ n z. shifted-upper c w e shape o k p) (λ n z. absurd (omega arith))
        (λ x a b g n z. shifted-else c w e shape o x k n p a b ∙ z) x n

    other_edge : (f u : ℕ) → f < c.m → f ≢ e → EdgeWithin c w u f → EdgeWithin c (pair_rounded c w e) u f
    other_edge f u n d near k l p q b =
        let a : lower_end c e < upper_end c e = shape.ascending e o in
        let g : upper_end c e < c.n = shape.below-n e o in
        let v = edge-tuple c f k l n p q in
        rounded-else c w e v (omega arith) (omega arith) (omega arith) ▸ near k l p q (was_free c w e shape o v b) ▸ simp flat (omega zs)

    edges-rounded : (f : ℕ) → f < c.m → EdgeEarly r c (pair_rounded c w e) f
    edges-rounded f n = go (either (eqb f e)) (early.edges f n)
      where
        go : T (eqb f e) ⊎ T (not (eqb f e)) → EdgeEarly r c w f → EdgeEarly r c (pair_rounded c w e) f
        go (inl s) p = subst (λ (f : ℕ). EdgeEarly r c (pair_rounded c w e) f) (sym (eqb→eq f e s)) (inr (
          λ k p. (shifted-lower c w e shape o k p, shifted-upper c w e shape o k p),
          λ k l p q b.
              let free = was_free c w e shape o (edge-tuple c e k l o p q) b in
              rounded-edge c w e shape o k l p q free ▸ lower-within k p ▸ upper-within l q ▸ edge-within k l p q free ▸ simp flat (omega zs),
        ))
        go (inr s) (inl near) = inl (other_edge f r.starting n ((not-eqb-iff f e).0 s) near)
        go (inr s) (inr (zero, far)) = inr (
          λ k p. (
            zeros-stay (lower_end c f) k (lower-below shape f n) p (zero k p).0,
            zeros-stay (upper_end c f) k (shape.below-n f n) p (zero k p).1,
          ),
          other_edge f (3 * r.starting) n ((not-eqb-iff f e).0 s) far,
        )

    early-rounded : Early r c (pair_rounded c w e)
    early-rounded = record {
      variables = λ i k n p. by-pair c e (λ i. i < c.n → Within r.starting (shifted c (pair_rounded c w e) i k))
          (λ n. shifted-lower c w e shape o k p ▸ simp flat (omega zs))
          (λ n. shifted-upper c w e shape o k p ▸ simp flat (omega zs))
          (λ n. absurd (omega arith))
          (λ i a b g n. shifted-else c w e shape o i k n p a b ▸ early.variables i k n p ▸ simp flat (omega zs)) i n;
      edges = edges-rounded;
      shares = shares-rounded c w e shape o early.shares;
    }

-- ---- both phases

three-fit : (s u : ℕ) → 0 < s → 3 * u ≤ (2 * s + 1) * u
three-fit s u h = mul-le-mul_right {m = 3} {n = 2 * s + 1} u (omega arith)

lowest-is : (s u : ℕ) → (2 * s + 1) * u ≡ 2 * (s * u) + u
lowest-is s u = simp (add-mul, mul_assoc, one-mul)

abbrev Between : Rules → Case → ℤ → Type 0
Between r c z = (minus ((2 * scope_count c + 1) * r.starting) ≤ℤ z) × (z ≤ℤ pos (3 * r.starting))

module _ (r : Rules) (c : Case) (w : List ℤ) (shape : Shape c) where
  total-some : pos 0 ≤ℤ total_spread c w
  total-some = Σ-least (spread c w) 0 0 (scope_count c)
      (λ x l u. spread-some c w shape x (omega arith)) ▸ simp flat (omega zs)

  late-weight : Late r c w → {x k l : ℕ} → IsTuple c x k l → T (not (barred c w x k l)) → Between r c (weight c w x k l)
  late-weight late {x} {k} {l} =
      let o : 3 * r.starting ≤ (2 * scope_count c + 1) * r.starting = three-fit (scope_count c) r.starting (omega (arith, shape.some-variable)) in
      let q : (2 * scope_count c + 1) * r.starting ≡ 2 * (scope_count c * r.starting) + r.starting = lowest-is (scope_count c) r.starting in
      by-tuple c (λ x k l. T (not (barred c w x k l)) → Between r c (weight c w x k l))
      (λ i k h p f. late.variables-least i k h p f ▸ late.variables-most i k h p f ▸ total-some ▸ simp flat (omega zs))
      (λ e k l h p q f. late.edges e h k l p q f ▸ simp flat (omega zs))

  phase-weight : Early r c w ⊎ Late r c w → {x k l : ℕ} → IsTuple c x k l → T (not (barred c w x k l)) → Between r c (weight c w x k l)
  phase-weight (inr late) u = late-weight late u
  phase-weight (inl early) u =
      let o : 3 * r.starting ≤ (2 * scope_count c + 1) * r.starting = three-fit (scope_count c) r.starting (omega (arith, shape.some-variable)) in
      by-tuple c (λ x k l. T (not (barred c w x k l)) → Between r c (weight c w x k l))
      (λ i k h p f. early.variables i k h p ▸ shifted-free c w i k f ▸ simp flat (omega zs))
      (λ e k l h p q f. ⊎_elim (λ near. near k l p q f ▸ simp flat (omega zs)) (λ (zero, far). far k l p q f ▸ simp flat (omega zs)) (early.edges e h)) u

room_for : {r : Rules} {c : Case} {w : List ℤ} {range : ℤ → Bool} → Coherent r → Handed r range c w
    → ((2 * scope_count c + 1) * r.starting ≤ r.working) × (3 * r.starting ≤ r.working)
room_for {r} {c} coherent k =
    let m : (2 * scope_count c + 1) * r.starting ≤ (2 * scopes_at_most r + 1) * r.starting =
    mul-le-mul_right r.starting (omega (arith, k.variables-most, k.edges_most)) in
    let o : (2 * scopes_at_most r + 1) * r.starting ≤ r.working = coherent.room in
    let p = three-fit (scope_count c) r.starting (omega (arith, k.shape.some-variable)) in
    (omega arith, omega arith)

-- ---- a press, late

-- the same choices
choice-same : (c : Case) (w v : List ℤ) → Shape c → ((x k l : ℕ) → IsTuple c x k l → barred c v x k l ≡ barred c w x k l) → (e : ℕ) → e < c.m
    → some_choice c v e ≡ some_choice c w e
choice-same c w v s bars e h = ap (any (λ b. b)) (each-cong c {f = is_choice c v e} {g = is_choice c w e} (c.n + e) (omega arith) (λ k l t.
    rw (bars _ _ _ (lower-tuple c s e h t.one), bars _ _ _ (upper-tuple c s e h t.two), bars _ _ _ t)))

module _ {r : Rules} {c : Case} {w : List ℤ} {i : ℕ} {a : ℤ} (coherent : Coherent r) (h : Handed r (working_weight r) c w) (which : chosen c w ≡ Some i)
    (least : least_gap c w i ≡ Some a) (late : Late r c w) where
  abbrev v : List ℤ
  v = engine_pressed c w i a

  own : i < c.n
  own = (chosen-some c w which).0

  -- the amount is at most the sum of the spreads
  amount-spread : a ≤ℤ total_spread c w
  amount-spread =
      let (x, k, l, m, u, n, f, d) = amount-reached c w h.shape which least in
      total-above c w h.shape u f ▸ d ▸ simp flat (omega zs)

  -- so each weight stays in the range
  least-after : {x k l : ℕ} → IsTuple c x k l → T (not (barred c w x k l))
      → minus ((2 * scope_count c + 1) * r.starting) ≤ℤ (weight c w x k l -ℤ only i a x)
  least-after {x} {k} {l} =
      let o : 3 * r.starting ≤ (2 * scope_count c + 1) * r.starting = three-fit (scope_count c) r.starting (omega (arith, h.shape.some-variable)) in
      let q : (2 * scope_count c + 1) * r.starting ≡ 2 * (scope_count c * r.starting) + r.starting = lowest-is (scope_count c) r.starting in
      let g = own in
      by-tuple c (λ x k l. T (not (barred c w x k l))
      → minus ((2 * scope_count c + 1) * r.starting) ≤ℤ (weight c w x k l -ℤ only i a x))
      (λ j k n p f. late.variables-least j k n p f ▸ only-within c w h.shape which least j ▸ amount-spread ▸ simp flat (omega zs))
      (λ e k l n p q f. late.edges e n k l p q f ▸ only-off i a {x = c.n + e} (omega arith) ▸ simp flat (omega zs))

  press-stays : T (not (leaves_range r c w v))
  press-stays = (stays-in-range c r w v).1 (λ x k l u. ⊎_elim
      (λ b. or_left (barred c w x k l) (in_working r (weight c v x k l)) b)
      (λ b. or_right (barred c w x k l) (in_working r (weight c v x k l))
      (let room = room_for coherent h in
      let (k', l', u', g) = greatest-at c w u in
      let f = active-free c coherent w h.in-range x u.scope (h.some-free x u.scope) k' l' ((active-weight c w x k' l').1 g) in
      pressed-weight c w h.shape which least below u ▸ least-after u b ▸ late-weight r c w h.shape late u' f ▸ g
      ▸ only-within c w h.shape which least x ▸ simp flat (omega zs)))
      (either (barred c w x k l)))
    where
      below : BarsBelow c w i a
      below =
          let room = room_for coherent h in
          let o = own in
          let (k, p, t) = some-active-value c w h.shape.some-value i own in
          let u = variable-tuple c i k own p in
          let f = active-free c coherent w h.in-range i u.scope (h.some-free i u.scope) k 0 t in
          low_below c w i a ((active-weight c w i k 0).0 t ▸ least-after u f ▸ only_at i a
          ▸ coherent.barred-below ▸ simp flat (omega zs))

  bars : {x k l : ℕ} → IsTuple c x k l → barred c v x k l ≡ barred c w x k l
  bars = same-bars coherent h which least press-stays

  still : {x k l : ℕ} → IsTuple c x k l → T (not (barred c v x k l)) → T (not (barred c w x k l))
  still u = subst (λ (b : Bool). T (not b)) (bars u)

  late-pressed : Late r c v
  late-pressed = record {
    remains = λ e o t. remains-kept coherent h which least press-stays e o
        (late.remains e o (subst T (choice-same c w v h.shape (λ x k l u. bars u) e o) t));
    variables-least = λ j k o p f.
        let u = variable-tuple c j k o p in
        late.variables-least j k o p (still u f) ▸ new-weight coherent h which least press-stays u ▸ only-within c w h.shape which least j
        ▸ spread-pressed coherent h which least press-stays ▸ simp flat (omega zs);
    variables-most = λ j k o p f.
        let u = variable-tuple c j k o p in
        let (k', l', u', g) = greatest-at c w u in
        let e = u'.alone o in
        let b = active-free c coherent w h.in-range j u.scope (h.some-free j u.scope) k' l' ((active-weight c w j k' l').1 g) in
        new-weight coherent h which least press-stays u ▸ only-within c w h.shape which least j ▸ g ▸ ap (weight c w j k') e
        ▸ late.variables-most j k' o u'.one (rw e at b) ▸ simp flat (omega zs);
    edges = λ e o k l p q f.
        let u = edge-tuple c e k l o p q in
        let (k', l', u', g) = greatest-at c w u in
        let b = active-free c coherent w h.in-range (c.n + e) u.scope (h.some-free (c.n + e) u.scope) k' l' ((active-weight c w (c.n + e) k' l').1 g) in
        let n = own in
        new-weight coherent h which least press-stays u ▸ only-off i a {x = c.n + e} (omega arith) ▸ g
        ▸ late.edges e o k' l' u'.one u'.two b ▸ late.edges e o k l p q (still u f) ▸ simp flat (omega zs);
    narrow = spread-pressed coherent h which least press-stays ▸ amount-some c w h.shape which least ▸ late.narrow ▸ simp flat (omega zs);
  }

  pressed-reached : EngineReached r c v
  pressed-reached = record {
    handed = handed-spared coherent (difference c w (active_press c w i (kept_scopes c w i) a)) h press-stays;
    phase = inr late-pressed;
  }

-- ---- from starting weights

pub reached-within : {r : Rules} {c : Case} {w : List ℤ} → EngineReached r c w → {x k l : ℕ} → IsTuple c x k l → T (not (barred c w x k l))
    → (minus ((2 * scope_count c + 1) * r.starting) ≤ℤ weight c w x k l) × (weight c w x k l ≤ℤ pos (3 * r.starting))
reached-within {r} {c} {w} reached = phase-weight r c w reached.handed.shape reached.phase

module _ {r : Rules} {c : Case} (coherent : Coherent r) where
  pub reached-first : {w : List ℤ} → Valid r c w → EngineReached r c w
  reached-first {w} valid = record {
    handed = working-handed coherent valid;
    phase = inl (record {
      variables = λ i k h p. start-shifted i k h p;
      edges = λ e h. inl (λ k l p q f. start (edge-tuple c e k l h p q) f);
      shares = record {
        share = λ x. pos (2 * r.starting);
        least = λ x h. simp flat (omega zs);
        total = Σ-most (λ x. pos (2 * r.starting)) (2 * r.starting) 0 (scope_count c) (λ x l u. simp flat (omega zs)) ▸ simp flat (omega zs);
        variables = λ i k l h p q. start-shifted i k h p ▸ start-shifted i l h q ▸ simp flat (omega zs);
        edges = λ e k l k' l' t t' h f f'. start t f ▸ start t' f' ▸ simp flat (omega zs);
      };
    });
  }
    where
      start : {x k l : ℕ} → IsTuple c x k l → T (not (barred c w x k l)) → Within r.starting (weight c w x k l)
      start = start-weight coherent valid

      start-shifted : (i k : ℕ) → i < c.n → k < c.d → Within r.starting (shifted c w i k)
      start-shifted i k h p = if-cases (Within r.starting) (barred c w i k 0) (pos 0) (weight c w i k 0)
          (λ t. (simp flat (omega zs), simp flat (omega zs))) (start (variable-tuple c i k h p))

  module _ {w : List ℤ} (reached : EngineReached r c w) where
    abbrev taken : Handed r (working_weight r) c w
    taken = reached.handed

    -- a pair whose round would lower the upper bound stays in the range, and comes early
    module _ (e : ℕ) (h : e < c.m) (s : T (some_choice c w e)) (t : T (pair_lowers c w e)) where
      is-early : Early r c w
      is-early = ⊎_elim (λ early. early) (λ late. absurd (T_not (pair_lowers c w e) (remains-not c w e (late.remains e h s)) t)) reached.phase

      pub reached-passes-none : T (not (pair_leaves r c w e))
      reached-passes-none = early-stays coherent taken is-early e h t (room_for coherent taken).1

      pair_made : after_moves r c (pair_round c w e) w ≡ Some (pair_rounded c w e)
      pair_made = after-pair coherent taken h ∙ if-false None (Some (pair_rounded c w e)) (pair_leaves r c w e) reached-passes-none

      pair-reached : EngineReached r c (pair_rounded c w e)
      pair-reached = record {
        handed = rounded-handed coherent taken h reached-passes-none;
        phase = inl (early-rounded coherent taken is-early e h t);
      }

    -- where no pair is left, none would lower the upper bound: from then on only presses and void lines come
    pub reached-late : lowest_pair r c w ≡ None → Late r c w
    reached-late o = ⊎_elim
        (λ early. record {
          remains = λ e h s. not-remains c w e (not_T (pair_lowers c w e) (λ t.
              T_not (any (λ e. gains c w e && not (passed_over r c w e)) (below c.m))
              (first-none (λ e. gains c w e && not (passed_over r c w e)) (below c.m) o)
              (any_of (λ e. gains c w e && not (passed_over r c w e)) c.m h (subst T (sym (ready-is coherent taken h))
              (and_intro (some_choice c w e) (not (pair_leaves r c w e) && pair_lowers c w e) s
              (and_intro (not (pair_leaves r c w e)) (pair_lowers c w e) (reached-passes-none e h s t) t))))));
          variables-least = λ i k h p f. early.variables i k h p ▸ shifted-free c w i k f ▸ shares-spread coherent taken early.shares ▸ simp flat (omega zs);
          variables-most = λ i k h p f. early.variables i k h p ▸ shifted-free c w i k f ▸ simp flat (omega zs);
          edges = λ e h. ⊎_elim (λ near k l p q f. near k l p q f ▸ simp flat (omega zs)) (λ (zero, far). far) (early.edges e h);
          narrow = shares-spread coherent taken early.shares;
        })
        (λ late. late) reached.phase

    -- number 11 never meets the next round
    pub reached-next : {moves : List Move} → engine_next r c w ≡ round moves → (v : List ℤ) × (after_moves r c moves w ≡ Some v) × EngineReached r c v
    reached-next {moves} d = ⊎_elim
        (λ (e, o, q).
        let (h, s, n, t) = lowest-ready coherent taken o in
        (pair_rounded c w e, ap (λ l. after_moves r c l w) q ∙ pair_made e h s t, pair-reached e h s t))
        (λ (o, i, a, f, g, q).
        let late = reached-late o in
        let v : List ℤ = engine_pressed c w i a in (
          v,
          ap (λ l. after_moves r c l w) q ∙ after-press c w i a r ∙ if-false None (Some v) (leaves_range r c w v) (press-stays coherent taken f g late),
          pressed-reached coherent taken f g late,
        ))
        (engine-next-is r c w d)

    -- ---- pair rounds come first: late there is none, and late stays late
    module _ (late : Late r c w) where
      pub late-no-pair : lowest_pair r c w ≡ None
      late-no-pair = go (lowest_pair r c w) refl
        where
          go : (o : Option ℕ) → lowest_pair r c w ≡ o → o ≡ None
          go None e = refl
          go (Some x) e =
              let (h, s, n, t) = lowest-ready coherent taken e in
              absurd (T_not (pair_lowers c w x) (remains-not c w x (late.remains x h s)) t)

      pub late-stays : {moves : List Move} {v : List ℤ} → engine_next r c w ≡ round moves → after_moves r c moves w ≡ Some v → Late r c v
      late-stays d to = ⊎_elim
          (λ (e, o, q). absurd (none-some (sym late-no-pair ∙ o)))
          (λ (o, i, a, f, g, q).
          let (s, e) = found-else (leaves_range r c w (engine_pressed c w i a)) (Some (engine_pressed c w i a))
          (sym (after-press c w i a r) ∙ sym (ap (λ l. after_moves r c l w) q) ∙ to) in
          subst (λ (v : List ℤ). Late r c v) (some_inj e) (late-pressed coherent taken f g late))
          (engine-next-is r c w d)
