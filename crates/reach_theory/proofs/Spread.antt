-- The spread of a scope, its greatest weight less its least that is not barred, and the sum of all scopes' spreads: the engine's press, where it
-- is made, lowers the sum by at least its amount. Assumes nothing.
use mathlib.Core.Path.{◌≡◌, sym, subst}
use mathlib.Core.Bool.{Bool, not}
use mathlib.Core.Logic.{⊎_elim}
use mathlib.Core.List.{List}
use Prim.Native.Nat.{ℕ, ◌<◌}
use native.Mathlib.Omega.{arith}
use lib.IntN.{ℤ, pos, ◌-ℤ◌}
use lib.Dec.{T, eqb, eqb→eq}
use lib.Signed.{◌≤ℤ◌}
use Rattle.std.specs.Prelude.{if◌then◌else◌, Some}
use Rattle.integers.specs.Words.{greatest_of}
use Rattle.integers.specs.Tests.{either, if-false, if-cases}
use Rattle.integers.specs.Linear.{flat, zs, ◌▸◌}
use Rattle.integers.specs.Maxima.{greatest-above, greatest-attained}
use Rattle.integers.specs.Sums.{Σ, Σ-mono, Σ-sub, Σ-only, only}
use Rattle.definitions.specs.declared.Case.{Case}
use Rattle.definitions.specs.Rules.{Rules, Coherent}
use Rattle.definitions.specs.Case.{scope_count, each_tuple, weight, greatest, active, barred}
use Rattle.definitions.specs.Valid.{working_weight}
use Rattle.definitions.specs.Moves.{leaves_range}
use Rattle.definitions.specs.Engine.{chosen, least_gap}
use Rattle.theory.proofs.Shape.{Shape}
use Rattle.theory.proofs.Words.{sum-above}
use Rattle.theory.proofs.Places.{IsTuple, first-tuple, tuple-in, in-tuples, weight-most, active-weight}
use Rattle.theory.proofs.Validity.{Handed}
use Rattle.press_theory.proofs.Gaps.{amount-reached}
use Rattle.press_theory.proofs.Fall.{engine_pressed, greatest-pressed}
use Rattle.reach_theory.proofs.Kept.{below, same-bars, new-weight, active-kept, inactive-nearer}

-- how far a tuple is below its scope's greatest weight, if it is not barred
abbrev pub lack : Case → List ℤ → ℕ → ℕ → ℕ → ℤ
lack c w x k l = if barred c w x k l then pos 0 else greatest c w x -ℤ weight c w x k l

abbrev pub spread : Case → List ℤ → ℕ → ℤ
spread c w x = greatest_of (each_tuple c x (lack c w x))

abbrev pub total_spread : Case → List ℤ → ℤ
total_spread c w = Σ (spread c w) 0 (scope_count c)

module _ (c : Case) (w : List ℤ) where
  spread-above : {x k l : ℕ} → IsTuple c x k l → T (not (barred c w x k l)) → (greatest c w x -ℤ weight c w x k l) ≤ℤ spread c w x
  spread-above {x} {k} {l} u f = subst (λ (z : ℤ). z ≤ℤ spread c w x) (if-false (pos 0) (greatest c w x -ℤ weight c w x k l) (barred c w x k l) f)
      (greatest-above (each_tuple c x (lack c w x)) (tuple-in c (lack c w x) u))

  module _ (shape : Shape c) where
    spread_at : {x : ℕ} → x < scope_count c → (k l : ℕ) × IsTuple c x k l × (lack c w x k l ≡ spread c w x)
    spread_at {x} h = in-tuples c (lack c w x) x h
        (greatest-attained (each_tuple c x (lack c w x)) (tuple-in c (lack c w x) (first-tuple c shape.some-value x h)))

    pub spread-within : {x : ℕ} → x < scope_count c → {z : ℤ} → pos 0 ≤ℤ z
        → ((k l : ℕ) → IsTuple c x k l → T (not (barred c w x k l)) → (greatest c w x -ℤ weight c w x k l) ≤ℤ z) → spread c w x ≤ℤ z
    spread-within {x} h {z} least under =
        let (k, l, u, e) = spread_at h in
        subst (λ (y : ℤ). y ≤ℤ z) e (if-cases (λ y. y ≤ℤ z) (barred c w x k l) (pos 0) (greatest c w x -ℤ weight c w x k l) (λ t. least) (under k l u))

    pub spread-some : (x : ℕ) → x < scope_count c → pos 0 ≤ℤ spread c w x
    spread-some x h =
        let (k, l, u, e) = spread_at h in
        subst (λ (y : ℤ). pos 0 ≤ℤ y) e (if-cases (λ y. pos 0 ≤ℤ y) (barred c w x k l) (pos 0) (greatest c w x -ℤ weight c w x k l)
        (λ t. omega zs) (λ t. weight-most c w u ▸ simp flat (omega zs)))

    -- no tuple lacks more than the sum
    pub total-above : {x k l : ℕ} → IsTuple c x k l → T (not (barred c w x k l)) → (greatest c w x -ℤ weight c w x k l) ≤ℤ total_spread c w
    total-above {x} u f = spread-above u f ▸ sum-above (spread c w) (scope_count c) {i = x} u.scope spread-some ▸ simp flat (omega zs)

module _ {r : Rules} {c : Case} {w : List ℤ} {i : ℕ} {a : ℤ} (coherent : Coherent r) (h : Handed r (working_weight r) c w) (which : chosen c w ≡ Some i)
    (least : least_gap c w i ≡ Some a) (stays : T (not (leaves_range r c w (engine_pressed c w i a)))) where
  abbrev v : List ℤ
  v = engine_pressed c w i a

  still-free : {x k l : ℕ} → IsTuple c x k l → T (not (barred c v x k l)) → T (not (barred c w x k l))
  still-free u = subst (λ (b : Bool). T (not b)) (same-bars coherent h which least stays u)

  new-greatest : (x : ℕ) → x < scope_count c → greatest c v x ≡ greatest c w x -ℤ only i a x
  new-greatest = greatest-pressed c w h.shape which least (below coherent h which least stays)

  -- no scope's spread rises
  spread-kept : (x : ℕ) → x < scope_count c → spread c v x ≤ℤ spread c w x
  spread-kept x o = spread-within c v h.shape o (spread-some c w h.shape x o) (λ k l u f.
      new-greatest x o ▸ new-weight coherent h which least stays u ▸ spread-above c w u (still-free u f) ▸ simp flat (omega zs))

  -- that of one falls by the amount
  spread-lower : (x : ℕ) × (x < scope_count c) × (spread c v x ≤ℤ (spread c w x -ℤ a))
  spread-lower =
      let (x, k, l, m, u, n, f, d) = amount-reached c w h.shape which least in (
        x,
        u.scope,
        spread-within c v h.shape u.scope (spread-above c w u f ▸ d ▸ simp flat (omega zs)) (λ k' l' u' f'.
            ⊎_elim
            (λ t. (active-weight c v x k' l').0 (active-kept coherent h which least stays u' t) ▸ spread-above c w u f ▸ d ▸ simp flat (omega zs))
            (λ t. new-greatest x u.scope ▸ inactive-nearer coherent h which least stays m u' t (still-free u' f')
            ▸ spread-above c w u' (still-free u' f') ▸ simp flat (omega zs))
            (either (active c w x k' l'))),
      )

  pub spread-pressed : total_spread c v ≤ℤ (total_spread c w -ℤ a)
  spread-pressed =
      let (y, o, f) = spread-lower in
      Σ-mono (spread c v) (λ x. spread c w x -ℤ only y a x) 0 (scope_count c) (λ x l u.
      if-cases (λ z. spread c v x ≤ℤ (spread c w x -ℤ z)) (eqb x y) a (pos 0)
      (λ t. subst (λ (x : ℕ). spread c v x ≤ℤ (spread c w x -ℤ a)) (sym (eqb→eq x y t)) f)
      (λ t. spread-kept x (omega arith) ▸ simp flat (omega zs)))
      ▸ Σ-sub (spread c w) (only y a) 0 (scope_count c)
      ▸ Σ-only y a 0 (scope_count c) (omega arith) (omega arith) ▸ simp flat (omega zs)
