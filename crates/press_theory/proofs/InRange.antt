-- Number 11 never meets an engine press made from starting weights, no tuple barred. Over the tables that engine presses reach from a first
-- one: no scope's greatest weight rises, no weight falls by more than the upper bound has, and no objective falls. With starting weights of at
-- most U on either side of 0 the upper bound begins at s·U at most and never passes below an objective, which is −s·U at least; so it falls by
-- 2·s·U at most, and each weight stays between −(2·s + 1)·U and U. Assumes nothing.
use Rattle.std.specs.Prelude.{Some, None}
use mathlib.Core.Path.{◌≡◌, ap, ◌∙◌}
use mathlib.Core.Bool.{not}
use mathlib.Core.Logic.{⊎_elim}
use mathlib.Core.List.{List, map}
use Prim.Native.Nat.{ℕ, ◌+◌, ◌*◌, ◌≤◌, ◌<◌}
use native.Mathlib.Nat.{mul-le-mul_right, add-mul, mul_assoc, one-mul}
use native.Mathlib.Omega.{arith}
use lib.IntN.{ℤ, pos, ◌+ℤ◌, ◌-ℤ◌}
use lib.Dec.{T, T_not, ltb, eqb}
use lib.Signed.{◌≤ℤ◌, ◌<ℤ◌}
use lib.ListN.{length}
use Rattle.integers.specs.Words.{below, all, minus}
use Rattle.integers.specs.Tests.{tests, if-false, and_intro, or_right, or_cases}
use Rattle.integers.specs.Linear.{flat, zs, ◌▸◌, ≤ℤ-trans}
use Rattle.integers.specs.Lists.{all_map, all_of}
use Rattle.integers.specs.Tables.{length-tab}
use Rattle.integers.specs.Sums.{only, Σ-most, Σ-least}
use Rattle.definitions.specs.declared.Case.{Case}
use Rattle.definitions.specs.Rules.{Rules, Coherent, scopes_at_most}
use Rattle.definitions.proofs.RulesLaws.{rules-fit}
use Rattle.definitions.specs.Case.{scope_count, weight, is_assignment, at_used, objective, greatest, upper_bound, barred}
use Rattle.definitions.specs.Valid.{in_starting, in_working}
use Rattle.definitions.specs.Moves.{Move, leaves_range, active_values, after_moves}
use Rattle.definitions.specs.Engine.{chosen, kept_scopes, least_gap, round, presses_next}
use Rattle.theory.proofs.Shape.{Shape}
use Rattle.theory.proofs.Places.{IsTuple, first-tuple, weight-most, greatest-within}
use Rattle.theory.proofs.Totals.{at-used-holds, bound-above}
use Rattle.theory.proofs.Barred.{Free, in-range-free, stays-in-range, free-lawful}
use Rattle.theory.proofs.Presses.{press-moves}
use Rattle.theory.proofs.Validity.{Valid}
use Rattle.press_theory.proofs.Trim.{chosen-some, kept-refuted}
use Rattle.press_theory.proofs.Gaps.{amount-some, next-round}
use Rattle.press_theory.proofs.Fall.{engine_pressed, free-below, after-press, only-within, pressed-weight, no-rise, fall}

-- reached from w₀ by engine presses, of tables with no barred tuple
pub data Reached (c : Case) (w₀ : List ℤ) : List ℤ → Type 0 where
  start : Reached c w₀ w₀
  pressed : {w : List ℤ} {i : ℕ} {a : ℤ} → Reached c w₀ w → Free c w → chosen c w ≡ Some i → least_gap c w i ≡ Some a → Reached c w₀ (engine_pressed c w i a)

low_step : (y₀ y z b₀ b d o a : ℤ) → (y₀ -ℤ (b₀ -ℤ b)) ≤ℤ y → (y -ℤ o) ≤ℤ z → o ≤ℤ a → d ≡ b -ℤ a → (y₀ -ℤ (b₀ -ℤ d)) ≤ℤ z
low_step y₀ y z b₀ b d o a = simp flat (omega zs)

low-start : (y b : ℤ) → (y -ℤ (b -ℤ b)) ≤ℤ y
low-start y b = simp flat (omega zs)

above_zero : (a : ℤ) → pos 1 ≤ℤ a → pos 0 ≤ℤ a
above_zero a h = omega zs

module _ {c : Case} {w₀ : List ℤ} (shape : Shape c) where
  -- no scope's greatest weight rises
  pub reached-high : {w : List ℤ} → Reached c w₀ w → (x : ℕ) → x < scope_count c → greatest c w x ≤ℤ greatest c w₀ x
  reached-high start x h = omega zs
  reached-high (pressed {w = w} {i = i} {a = a} r free e g) x h = ≤ℤ-trans (no-rise c w shape e g (free-below c w i a free) x h) (reached-high r x h)

  -- no weight falls by more than the upper bound has
  pub reached-low : {w : List ℤ} → Reached c w₀ w → {x k l : ℕ} → IsTuple c x k l
      → (weight c w₀ x k l -ℤ (upper_bound c w₀ -ℤ upper_bound c w)) ≤ℤ weight c w x k l
  reached-low start {x} {k} {l} t = low-start (weight c w₀ x k l) (upper_bound c w₀)
  reached-low (pressed {w = w} {i = i} {a = a} r free e g) {x} {k} {l} t =
      low_step (weight c w₀ x k l) (weight c w x k l) (weight c (engine_pressed c w i a) x k l) (upper_bound c w₀) (upper_bound c w)
      (upper_bound c (engine_pressed c w i a)) (only i a x) a
      (reached-low r t) (pressed-weight c w shape e g (free-below c w i a free) t).0 (only-within c w shape e g x).1
      (fall c w shape e g (free-below c w i a free))

  -- no objective falls, so the upper bound never passes below a first one
  module _ (p : List ℕ) (assigned : T (is_assignment c p)) where
    pub reached-objective : {w : List ℤ} → Reached c w₀ w → objective c w₀ p ≤ℤ objective c w p
    reached-objective start = omega zs
    reached-objective (pressed {w = w} {i = i} {a = a} r free e g) =
        let (h, t, l) = chosen-some c w e in
        ≤ℤ-trans (reached-objective r)
        (press-moves shape p w (free-lawful c w free shape p assigned) i h (active_values c w i) (kept_scopes c w i) (kept-refuted c w i t) a
        (above_zero a (amount-some c w shape e g)))

    pub reached-bound : {w : List ℤ} → Reached c w₀ w → (objective c w₀ p +ℤ c.carry) ≤ℤ upper_bound c w
    reached-bound {w} r = reached-objective r ▸ bound-above shape p assigned w ▸ simp flat (omega zs)

-- ---- from starting weights

spread : (s u : ℕ) → (2 * s + 1) * u ≡ 2 * (s * u) + u
spread s u = simp (add-mul, mul_assoc, one-mul)

-- the assignment of value 0 to each variable
zeros : Case → List ℕ
zeros c = map (λ j. 0) (below c.n)

zeros-assigned : (c : Case) → Shape c → T (is_assignment c (zeros c))
unfolding zeros
zeros-assigned c shape = and_intro (eqb (length (zeros c)) c.n) (all (λ k. ltb k c.d) (zeros c))
    (simp tests (length-tab (λ j. 0) 0 c.n))
    (rw (all_map (λ k. ltb k c.d) (λ (j : ℕ). 0) (below c.n)) (all_of (λ j. ltb 0 c.d) c.n (λ j h. simp tests shape.some-value)))

module _ {r : Rules} {c : Case} {w₀ : List ℤ} (coherent : Coherent r) (valid : Valid r c w₀) where
  pub start-weight : {x k l : ℕ} → IsTuple c x k l → T (not (barred c w₀ x k l))
      → (minus r.starting ≤ℤ weight c w₀ x k l) × (weight c w₀ x k l ≤ℤ pos r.starting)
  start-weight {x} {k} {l} t f = ⊎_elim (λ s. absurd (T_not (barred c w₀ x k l) f s)) (λ s. s ▸ simp flat (omega zs))
      (or_cases (barred c w₀ x k l) (in_starting r (weight c w₀ x k l)) (valid.in-range x k l t))

module _ {r : Rules} {c : Case} {w₀ : List ℤ} (coherent : Coherent r) (valid : Valid r c w₀) (free : Free c w₀) where
  shape : Shape c
  shape = valid.shape

  free-weight : {x k l : ℕ} → IsTuple c x k l → (minus r.starting ≤ℤ weight c w₀ x k l) × (weight c w₀ x k l ≤ℤ pos r.starting)
  free-weight {x} {k} {l} t = start-weight coherent valid t (free x k l t)

  start-greatest : (x : ℕ) → x < scope_count c → greatest c w₀ x ≤ℤ pos r.starting
  start-greatest x h = greatest-within c w₀ (first-tuple c shape.some-value x h) (λ k l t. (free-weight t).1)

  -- what lies above every objective lies at most 2·s·U below the upper bound
  pub bound-spread : (z : ℤ) → ((p : List ℕ) → T (is_assignment c p) → (objective c w₀ p +ℤ c.carry) ≤ℤ z)
      → upper_bound c w₀ ≤ℤ (pos (2 * (scope_count c * r.starting)) +ℤ z)
  bound-spread z above =
      Σ-most (greatest c w₀) r.starting 0 (scope_count c) (λ x l u. start-greatest x (omega arith))
      ▸ Σ-least (λ x. at_used c (zeros c) x (weight c w₀ x)) r.starting 0 (scope_count c)
      (λ x l u. at-used-holds shape (zeros c) (zeros-assigned c shape) (λ z. minus r.starting ≤ℤ z) x (omega arith) (weight c w₀ x)
      (λ k l t. (free-weight t).0))
      ▸ above (zeros c) (zeros-assigned c shape) ▸ simp flat (omega zs)

  -- so it falls by 2·s·U at most
  pub reached-fall : {w : List ℤ} → Reached c w₀ w → (upper_bound c w₀ -ℤ upper_bound c w) ≤ℤ pos (2 * (scope_count c * r.starting))
  reached-fall {w} h = bound-spread (upper_bound c w) (λ p a. reached-bound shape p a h) ▸ simp flat (omega zs)

  pub reached-weight : {w : List ℤ} → Reached c w₀ w → {x k l : ℕ} → IsTuple c x k l
      → (minus ((2 * scope_count c + 1) * r.starting) ≤ℤ weight c w x k l) × (weight c w x k l ≤ℤ pos r.starting)
  reached-weight {w} h {x} {k} {l} t =
      let e : (2 * scope_count c + 1) * r.starting ≡ 2 * (scope_count c * r.starting) + r.starting = spread (scope_count c) r.starting in
      (free-weight t).0 ▸ reached-low shape h t ▸ reached-fall h ▸ weight-most c w t ▸ reached-high shape h x t.scope ▸ start-greatest x t.scope
      ▸ simp flat (omega zs)

  pub reached-working : {w : List ℤ} → Reached c w₀ w → {x k l : ℕ} → IsTuple c x k l → T (in_working r (weight c w x k l))
  reached-working h t =
      let m : (2 * scope_count c + 1) * r.starting ≤ (2 * scopes_at_most r + 1) * r.starting = mul-le-mul_right r.starting (omega arith) in
      let o : (2 * scopes_at_most r + 1) * r.starting ≤ r.working = coherent.room in
      let q : r.starting ≤ r.working = (rules-fit coherent).starting in
      reached-weight h t ▸ simp flat (omega zs)

  pub reached-free : {w : List ℤ} → Reached c w₀ w → Free c w
  reached-free {w} h x k l t = in-range-free coherent (weight c w x k l) (reached-working h t)

  -- number 11 never meets the next engine press
  pub never-leaves : {w : List ℤ} {i : ℕ} {a : ℤ} → Reached c w₀ w → chosen c w ≡ Some i → least_gap c w i ≡ Some a
      → T (not (leaves_range r c w (engine_pressed c w i a)))
  never-leaves {w} {i} {a} h e g = (stays-in-range c r w (engine_pressed c w i a)).1 (λ x k l t.
      or_right (barred c w x k l) (in_working r (weight c (engine_pressed c w i a) x k l)) (reached-working (pressed h (reached-free h) e g) t))

  -- so the round of presses only is made, and the upper bound is lower after it
  pub next-made : {w : List ℤ} {moves : List Move} → Reached c w₀ w → presses_next r c w ≡ round moves
      → (v : List ℤ) × (after_moves r c moves w ≡ Some v) × Reached c w₀ v × (upper_bound c v <ℤ upper_bound c w)
  next-made {w} h d =
      let (i, a, e, g, q) = next-round r c w d in
      let v : List ℤ = engine_pressed c w i a in (
        v,
        ap (λ l. after_moves r c l w) q ∙ after-press c w i a r ∙ if-false None (Some v) (leaves_range r c w v) (never-leaves h e g),
        pressed h (reached-free h) e g,
        fall c w shape e g (free-below c w i a (reached-free h)) ▸ amount-some c w shape e g ▸ simp flat (omega zs),
      )
