-- What the engine's press does to the table: the variable's own greatest weight falls by the amount, no other scope's changes, and so the
-- upper bound falls by exactly the amount. No weight falls by more, and none passes its scope's new greatest weight. A barred tuple keeps its
-- number, which the new greatest weight must not pass below: it does not where the press is made. Assumes nothing.
use mathlib.Core.Path.{◌≡◌, refl, sym, ap, ap₂, subst, ◌∙◌}
use mathlib.Core.Bool.{Bool, true, false, not, ◌&&◌, ◌||◌}
use mathlib.Core.Logic.{⊎_elim}
use mathlib.Core.List.Memᴰ
use mathlib.Core.List.{List, [], ◌∷◌}
use Prim.Native.Nat.{ℕ, ◌<◌}
use native.Mathlib.Omega.{arith}
use lib.IntN.{ℤ, pos, neg_ℤ, ◌+ℤ◌, ◌-ℤ◌}
use lib.Dec.{T, T_not, eqb, eqb→eq, eqb_refl}
use lib.Signed.{◌≤ℤ◌}
use Rattle.std.specs.Prelude.{if◌then◌else◌, Some, None}
use Rattle.integers.specs.Words.{is_in, minus}
use Rattle.integers.specs.Tests.{is_true, or_cases, if-false, if-cases}
use Rattle.integers.specs.Linear.{flat, zs, ◌▸◌, ≤ℤ-antisym, T-eq}
use Rattle.integers.specs.Lists.{◌∈◌, is_in-in}
use Rattle.integers.specs.Sums.{Σ-cong, Σ-sub, Σ-only, only}
use Rattle.definitions.specs.declared.Case.{Case}
use Rattle.definitions.specs.Case.{scope_count, weight, greatest, sum_of_greatest, upper_bound, active, barred, barred_weight}
use Rattle.definitions.specs.Rules.{Rules, Coherent, barring}
use Rattle.definitions.specs.Valid.{in_working, working_weight}
use Rattle.definitions.specs.Moves.{Difference, only_where, active_press, moved, press_by, active_values, leaves_range, after_moves}
use Rattle.definitions.specs.Engine.{chosen, kept_scopes, least_gap}
use Rattle.theory.proofs.Shape.{Shape}
use Rattle.theory.proofs.Places.{IsTuple, first-tuple, variable-tuple, weight-most, active-weight, greatest-at, greatest-there, some-active-value}
use Rattle.theory.proofs.Barred.{Free, weight-spared, active-free, stays-in-range}
use Rattle.theory.proofs.Validity.{Handed}
use Rattle.press_theory.proofs.Trim.{chosen-some, kept-scopes}
use Rattle.press_theory.proofs.Gaps.{amount-some, amount-room}

-- a tuple of weight y in a scope of greatest weight g: `s` says that the scope is the variable's own, `r` that it is raised, `f` that the tuple is active
press-step : (s r f : Bool) (y g a : ℤ) → (T s → T r → ⊥) → pos 1 ≤ℤ a → y ≤ℤ g → (T (s || r) → T (not f) → (y +ℤ a) ≤ℤ g)
    → ((y -ℤ (if s then a else pos 0)) ≤ℤ (y +ℤ (only_where (s && f) (neg_ℤ a) +ℤ only_where (r && not f) a)))
    × ((y +ℤ (only_where (s && f) (neg_ℤ a) +ℤ only_where (r && not f) a)) ≤ℤ (g -ℤ (if s then a else pos 0)))
press-step true true f y g a n p h k = absurd (n tt tt)
press-step true false true y g a n p h k = h ▸ p ▸ simp flat (omega zs)
press-step true false false y g a n p h k = k tt tt ▸ p ▸ simp flat (omega zs)
press-step false true true y g a n p h k = h ▸ p ▸ simp flat (omega zs)
press-step false true false y g a n p h k = k tt tt ▸ p ▸ simp flat (omega zs)
press-step false false f y g a n p h k = h ▸ p ▸ simp flat (omega zs)

and_same : (s : Bool) {f g : Bool} → (T s → f ≡ g) → (s && f) ≡ (s && g)
and_same true h = h tt
and_same false h = refl

-- an active value that is pressed
press-active : (r : Bool) (y a : ℤ) → y +ℤ (neg_ℤ a +ℤ only_where (r && false) a) ≡ y -ℤ a
press-active true y a = simp flat (omega zs)
press-active false y a = simp flat (omega zs)

-- the table after it
abbrev pub engine_pressed : Case → List ℤ → ℕ → ℤ → List ℤ
engine_pressed c w i a = moved c (active_press c w i (kept_scopes c w i) a) w

-- no barred tuple lies above its scope's new greatest weight
abbrev pub BarsBelow : Case → List ℤ → ℕ → ℤ → Type 0
BarsBelow c w i a = (x k l : ℕ) → IsTuple c x k l → T (barred c w x k l) → weight c w x k l ≤ℤ (greatest c w x -ℤ only i a x)

module _ (c : Case) (w : List ℤ) (i : ℕ) (a : ℤ) where
  pub after-press : (r : Rules) → after_moves r c (active_press c w i (kept_scopes c w i) a ∷ []) w
      ≡ (if leaves_range r c w (engine_pressed c w i a) then None else Some (engine_pressed c w i a))
  after-press r = refl

  abbrev change : Difference
  change = press_by c w i (active_values c w i) (is_in (kept_scopes c w i)) a

  -- where the variable's new greatest weight is not below the barred tuples' number
  pub low_below : minus barring ≤ℤ (greatest c w i -ℤ a) → BarsBelow c w i a
  low_below low x k l u t = if-cases (λ z. weight c w x k l ≤ℤ (greatest c w x -ℤ z)) (eqb x i) a (pos 0)
      (λ s. subst (λ (y : ℕ). weight c w x k l ≤ℤ (greatest c w y -ℤ a)) (sym (eqb→eq x i s))
      ((T-eq (weight c w x k l) barred_weight).0 t ▸ low ▸ simp flat (omega zs)))
      (λ s. weight-most c w u ▸ simp flat (omega zs))

  pub free-below : Free c w → BarsBelow c w i a
  free-below free x k l u t = absurd (T_not (barred c w x k l) (free x k l u) t)

  -- where the press is made: an active value keeps the range
  pub made-below : {r : Rules} → Coherent r → Handed r (working_weight r) c w → chosen c w ≡ Some i
      → T (not (leaves_range r c w (engine_pressed c w i a))) → BarsBelow c w i a
  made-below {r} coherent h which n =
      let own = (chosen-some c w which).0 in
      let (k, g, t) = some-active-value c w h.shape.some-value i own in
      let u = variable-tuple c i k own g in
      let f = active-free c coherent w h.in-range i (omega arith) (h.some-free i (omega arith)) k 0 t in
      let e = weight-spared c w change u ∙ if-false _ _ (barred c w i k 0) f in
      let within : T (in_working r (weight c (engine_pressed c w i a) i k 0)) = ⊎_elim (λ s. absurd (T_not (barred c w i k 0) f s)) (λ s. s)
      (or_cases (barred c w i k 0) (in_working r (weight c (engine_pressed c w i a) i k 0)) ((stays-in-range c r w (engine_pressed c w i a)).0 n i k 0 u)) in
      low_below ((active-weight c w i k 0).0 t ▸ press-active (is_in (kept_scopes c w i) i) (weight c w i k 0) a
      ▸ (rw (is_true (eqb i i) (eqb_refl i), is_true (active c w i k 0) t) at e) ▸ within ▸ coherent.barred-below ▸ simp flat (omega zs))

module _ (c : Case) (w : List ℤ) {i : ℕ} {a : ℤ} (shape : Shape c) (which : chosen c w ≡ Some i) (least : least_gap c w i ≡ Some a) where
  limits : (x : ℕ) → T (eqb x i || is_in (kept_scopes c w i) x) → x ∈ (i ∷ kept_scopes c w i)
  limits x t = ⊎_elim (λ s. Memᴰ.head (eqb→eq x i s)) (λ s. Memᴰ.tail ((is_in-in (kept_scopes c w i) x).0 s))
      (or_cases (eqb x i) (is_in (kept_scopes c w i) x) t)

  own-active : {x k l : ℕ} → IsTuple c x k l → T (eqb x i) → active c w i k 0 ≡ active c w x k l
  own-active {x} {k} {l} u t =
      let e : x ≡ i = eqb→eq x i t in
      ap₂ (λ (x l : ℕ). active c w x k l) (sym e) (sym (u.alone (rw e (chosen-some c w which).0)))

  pub only-within : (x : ℕ) → (pos 0 ≤ℤ only i a x) × (only i a x ≤ℤ a)
  only-within x =
      let p = amount-some c w shape which least in
      if-cases (λ z. (pos 0 ≤ℤ z) × (z ≤ℤ a)) (eqb x i) a (pos 0) (λ t. (omega zs, omega zs)) (λ t. (omega zs, omega zs))

  module _ (below : BarsBelow c w i a) where
    pub pressed-weight : {x k l : ℕ} → IsTuple c x k l
        → ((weight c w x k l -ℤ only i a x) ≤ℤ weight c (engine_pressed c w i a) x k l)
        × (weight c (engine_pressed c w i a) x k l ≤ℤ (greatest c w x -ℤ only i a x))
    pressed-weight {x} {k} {l} u =
        rw (weight-spared c w (change c w i a) u, and_same (eqb x i) (own-active u))
        (if-cases (λ z. ((weight c w x k l -ℤ only i a x) ≤ℤ z) × (z ≤ℤ (greatest c w x -ℤ only i a x))) (barred c w x k l) _ _
        (λ t. (only-within x ▸ simp flat (omega zs), below x k l u t))
        (λ f. press-step (eqb x i) (is_in (kept_scopes c w i) x) (active c w x k l) (weight c w x k l) (greatest c w x) a
        (λ s r. (kept-scopes c w i ((is_in-in (kept_scopes c w i) x).0 r)).1 (eqb→eq x i s))
        (amount-some c w shape which least) (weight-most c w u) (λ s t. amount-room c w shape which least (limits x s) u t f)))

    pub greatest-pressed : (x : ℕ) → x < scope_count c → greatest c (engine_pressed c w i a) x ≡ greatest c w x -ℤ only i a x
    greatest-pressed x h =
        let (k, l, u, e) = greatest-at c w (first-tuple c shape.some-value x h) in
        let (p, q) = pressed-weight u in
        let d : weight c (engine_pressed c w i a) x k l ≡ greatest c w x -ℤ only i a x = ≤ℤ-antisym q (rw e at p) in
        greatest-there c (engine_pressed c w i a) u (λ k l v. rw d (pressed-weight v).1) ∙ d

    pub no-rise : (x : ℕ) → x < scope_count c → greatest c (engine_pressed c w i a) x ≤ℤ greatest c w x
    no-rise x h = greatest-pressed x h ▸ only-within x ▸ simp flat (omega zs)

    pub fall : upper_bound c (engine_pressed c w i a) ≡ upper_bound c w -ℤ a
    fall =
        let e : sum_of_greatest c (engine_pressed c w i a) ≡ sum_of_greatest c w -ℤ a =
        Σ-cong (greatest c (engine_pressed c w i a)) (λ x. greatest c w x -ℤ only i a x) 0 (scope_count c) (λ x l u. greatest-pressed x (omega arith))
        ∙ Σ-sub (greatest c w) (only i a) 0 (scope_count c)
        ∙ ap (λ (z : ℤ). sum_of_greatest c w -ℤ z) (Σ-only i a 0 (scope_count c) (omega arith) (omega (arith, (chosen-some c w which).0))) in
        e ▸ simp flat (omega zs)
