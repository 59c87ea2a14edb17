-- The amount of the engine's press: it is at least 1, it is the gap of one tuple of the kept scopes or of the variable's own scope, and it takes
-- no inactive tuple of these above its scope's greatest weight, barred ones left out. So where weights are in the working range it is at most
-- twice that. Where there is no amount, all inactive tuples of these scopes are barred, which is what a void line asks. Of presses and void lines
-- only, the press of that amount comes next, the void line where there is none, and nothing where no variable is chosen. Assumes nothing.
use mathlib.Core.Path.{◌≡◌, refl, sym, ap, subst, ◌∙◌}
use mathlib.Core.Bool.{Bool, true, false, not, ◌||◌}
use mathlib.Core.Logic.{◌↔◌, ⊎_elim}
use mathlib.Core.List.Memᴰ
use mathlib.Core.List.{List, [], ◌∷◌, map}
use Prim.Native.Nat.{ℕ, ◌*◌, ◌<◌}
use native.Mathlib.Omega.{arith}
use lib.IntN.{ℤ, pos, ◌+ℤ◌, ◌-ℤ◌}
use lib.Dec.{T, T_not}
use lib.Signed.{◌≤ℤ◌}
use Rattle.std.specs.Prelude.{if◌then◌else◌, Option, Some, None}
use Rattle.integers.specs.Words.{all, is_in, joined, greatest_of, ◌⇒◌}
use Rattle.integers.specs.Tests.{if-false, either, not-or-iff, and_left, and_right, and_intro, imp_intro, or_cases}
use Rattle.integers.specs.Linear.{flat, zs, ◌▸◌}
use Rattle.integers.specs.Lists.{◌∈◌, joined_in, in-joined, is_in-in, all_of}
use Rattle.integers.specs.Maxima.{greatest-above, greatest-attained, least-below, least-attained, least-none}
use Rattle.definitions.specs.declared.Case.{Case}
use Rattle.definitions.specs.Rules.{Rules, Coherent}
use Rattle.definitions.specs.Case.{values, scopes, scope_count, each_tuple, weight, greatest, active, barred}
use Rattle.definitions.specs.Valid.{in_working, working_weight}
use Rattle.definitions.specs.Consistency.{forbidden}
use Rattle.definitions.specs.Moves.{Move, active_press, active_values}
use Rattle.definitions.specs.Engine.{chosen, kept_scopes, inactive_weights, gap_above, gap, least_gap}
use Rattle.definitions.specs.Engine.{nothing, round, void, presses_next, press_next, press_round}
use Rattle.definitions.specs.Replay.{all_barred}
use Rattle.theory.proofs.Shape.{Shape}
use Rattle.theory.proofs.Places.{IsTuple, variable-tuple, tuple-in, in-tuples, inactive-less, greatest-at}
use Rattle.theory.proofs.Barred.{each_all, working-bounds}
use Rattle.press_theory.proofs.Trim.{chosen-some, kept-scopes}

-- ---- the gap of a scope

-- z is so far below g
above_in : (g : ℤ) {z : ℤ} (l : List ℤ) → z ∈ l → (y : ℤ) × y ∈ gap_above g l × ((z +ℤ y) ≤ℤ g)
above_in g [] m = absurd (Memᴰ.not-nil m)
above_in g (x ∷ l) m = (g -ℤ greatest_of (x ∷ l), Memᴰ.head refl, greatest-above (x ∷ l) m ▸ simp flat (omega zs))

in-above : (g : ℤ) {y : ℤ} (l : List ℤ) → y ∈ gap_above g l → (z : ℤ) × z ∈ l × (y ≡ g -ℤ z)
in-above g [] m = absurd (Memᴰ.not-nil m)
in-above g (x ∷ l) m = (greatest_of (x ∷ l), greatest-attained (x ∷ l) (Memᴰ.head refl), Memᴰ.eq_of_singleton m)

in-unless : (b : Bool) (y : ℤ) {z : ℤ} → z ∈ (if b then [] else y ∷ []) → T (not b) × (z ≡ y)
in-unless true y m = absurd (Memᴰ.not-nil m)
in-unless false y m = (tt, Memᴰ.eq_of_singleton m)

module _ (c : Case) (w : List ℤ) {x : ℕ} where
  -- each inactive tuple that is not barred is at least the gap below the greatest weight, and one is the gap below it
  gap-in : {k l : ℕ} → IsTuple c x k l → T (not (active c w x k l)) → T (not (barred c w x k l))
      → (y : ℤ) × y ∈ gap c w x × ((weight c w x k l +ℤ y) ≤ℤ greatest c w x)
  gap-in {k} {l} u t f = above_in (greatest c w x) {z = weight c w x k l} (inactive_weights c w x)
      (joined_in {l = if active c w x k l || barred c w x k l then [] else weight c w x k l ∷ []}
      (rw (if-false [] (weight c w x k l ∷ []) (active c w x k l || barred c w x k l) ((not-or-iff (active c w x k l) (barred c w x k l)).1 (t, f)))
      (Memᴰ.head refl))
      (tuple-in c (λ k l. if active c w x k l || barred c w x k l then [] else weight c w x k l ∷ []) u))

  in-gap : x < scope_count c → {y : ℤ} → y ∈ gap c w x
      → (k l : ℕ) × IsTuple c x k l × T (not (active c w x k l)) × T (not (barred c w x k l)) × (y ≡ greatest c w x -ℤ weight c w x k l)
  in-gap h {y} m =
      let (z, n, d) = in-above (greatest c w x) (inactive_weights c w x) m in
      let (s, o, p) = in-joined _ n in
      let (k, l, u, e) = in-tuples c (λ k l. if active c w x k l || barred c w x k l then [] else weight c w x k l ∷ []) x h o in
      let (t, g) = in-unless (active c w x k l || barred c w x k l) (weight c w x k l) (subst (λ (s : List ℤ). z ∈ s) (sym e) p) in
      let (a, f) = (not-or-iff (active c w x k l) (barred c w x k l)).0 t in
      (k, l, u, a, f, d ∙ ap (λ (z : ℤ). greatest c w x -ℤ z) g)

-- ---- the amount

abbrev gaps : Case → List ℤ → ℕ → List ℤ
gaps c w i = joined (map (gap c w) (i ∷ kept_scopes c w i))

module _ (c : Case) (w : List ℤ) {i : ℕ} where
  gaps-in : {x : ℕ} → x ∈ (i ∷ kept_scopes c w i) → {y : ℤ} → y ∈ gap c w x → y ∈ gaps c w i
  gaps-in {x} m n = joined_in n (Memᴰ.map (gap c w) m)

  -- where nothing sets a gap, all inactive tuples are barred
  pub no_gap : least_gap c w i ≡ None → {x k l : ℕ} → x ∈ (i ∷ kept_scopes c w i) → IsTuple c x k l → T (not (active c w x k l)) → T (barred c w x k l)
  no_gap e {x} {k} {l} m u t = ⊎_elim (λ b. b)
      (λ f. let (y, n, h) = gap-in c w u t f in absurd (Memᴰ.not-nil (subst (λ (s : List ℤ). y ∈ s) ((least-none (gaps c w i)).0 e) (gaps-in m n))))
      (either (barred c w x k l))

  -- and so a void line's barring condition holds
  pub void-bars : least_gap c w i ≡ None → chosen c w ≡ Some i → T (all_barred c w i (active_values c w i) (is_in (kept_scopes c w i)))
  void-bars e which = and_intro (all own (values c)) (all raised (scopes c))
      (all_of own c.d (λ k h. imp_intro (not (active c w i k 0)) (barred c w i k 0) (λ t.
      no_gap e (Memᴰ.head refl) (variable-tuple c i k (chosen-some c w which).0 h) t)))
      (all_of raised (scope_count c) (λ x h. (each_all c (λ k l. forbidden c w R x k l ⇒ barred c w x k l) x h).1 (λ k l u.
      imp_intro (forbidden c w R x k l) (barred c w x k l) (λ t.
      no_gap e (Memᴰ.tail ((is_in-in (kept_scopes c w i) x).0 (and_left (R x) (not (active c w x k l)) t))) u
      (and_right (R x) (not (active c w x k l)) t)))))
    where
      R : ℕ → Bool
      R = is_in (kept_scopes c w i)

      own : ℕ → Bool
      own k = not (active c w i k 0) ⇒ barred c w i k 0

      raised : ℕ → Bool
      raised x = all (λ b. b) (each_tuple c x (λ k l. forbidden c w R x k l ⇒ barred c w x k l))

module _ (c : Case) (w : List ℤ) {i : ℕ} (shape : Shape c) (which : chosen c w ≡ Some i) where
  -- the scopes that set a limit to it
  pub limiting : {x : ℕ} → x ∈ (i ∷ kept_scopes c w i) → x < scope_count c
  limiting (Memᴰ.head e) = let h = (chosen-some c w which).0 in omega arith
  limiting (Memᴰ.tail m) = (kept-scopes c w i m).0

  module _ {a : ℤ} (e : least_gap c w i ≡ Some a) where
    pub amount-reached : (x k l : ℕ) × x ∈ (i ∷ kept_scopes c w i) × IsTuple c x k l × T (not (active c w x k l)) × T (not (barred c w x k l))
        × (a ≡ greatest c w x -ℤ weight c w x k l)
    amount-reached =
        let (s, o, p) = in-joined (map (gap c w) (i ∷ kept_scopes c w i)) (least-attained (gaps c w i) e) in
        let (x, m, q) = Memᴰ.of_map (gap c w) (i ∷ kept_scopes c w i) o in
        let (k, l, u, t, f, d) = in-gap c w (limiting m) (subst (λ (s : List ℤ). a ∈ s) (sym q) p) in
        (x, k, l, m, u, t, f, d)

    pub amount-some : pos 1 ≤ℤ a
    amount-some = let (x, k, l, m, u, t, f, d) = amount-reached in inactive-less c w u t ▸ d ▸ simp flat (omega zs)

    -- no inactive tuple of these scopes passes the greatest weight
    pub amount-room : {x k l : ℕ} → x ∈ (i ∷ kept_scopes c w i) → IsTuple c x k l → T (not (active c w x k l)) → T (not (barred c w x k l))
        → (weight c w x k l +ℤ a) ≤ℤ greatest c w x
    amount-room m u t f = let (y, n, h) = gap-in c w u t f in least-below (gaps c w i) e (gaps-in c w m n) ▸ h ▸ simp flat (omega zs)

    pub amount-most : (r : Rules) → Coherent r → ((x k l : ℕ) → IsTuple c x k l → T (working_weight r (weight c w x k l))) → a ≤ℤ pos (2 * r.working)
    amount-most r coherent within =
        let (x, k, l, m, u, q, f, d) = amount-reached in
        let (k', l', v, g) = greatest-at c w u in
        let low : T (in_working r (weight c w x k l)) = ⊎_elim (λ t. absurd (T_not (barred c w x k l) f t)) (λ t. t)
        (or_cases (barred c w x k l) (in_working r (weight c w x k l)) (within x k l u)) in
        low ▸ (working-bounds coherent (weight c w x k' l') (within x k' l' v)).1 ▸ d ▸ g ▸ simp flat (omega zs)

-- ---- what comes next of presses and void lines only

module _ (r : Rules) (c : Case) (w : List ℤ) where
  pub next-press : {i : ℕ} {a : ℤ} → chosen c w ≡ Some i → least_gap c w i ≡ Some a → presses_next r c w ≡ round (active_press c w i (kept_scopes c w i) a ∷ [])
  next-press {i} e g = ap (press_next c w) e ∙ ap (press_round c w i) g

  pub next-void : {i : ℕ} → chosen c w ≡ Some i → least_gap c w i ≡ None → presses_next r c w ≡ void i (kept_scopes c w i)
  next-void {i} e g = ap (press_next c w) e ∙ ap (press_round c w i) g

  pub next-nothing : presses_next r c w ≡ nothing ↔ chosen c w ≡ None
  next-nothing = (go (chosen c w), ap (press_next c w))
    where
      never : (i : ℕ) (o : Option ℤ) → press_round c w i o ≡ nothing → ⊥
      never i None d = let z : ◌≡◌ {A = ℕ} 0 1 = cc in omega arith
      never i (Some a) d = let z : ◌≡◌ {A = ℕ} 0 1 = cc in omega arith

      go : (o : Option ℕ) → press_next c w o ≡ nothing → o ≡ None
      go None d = refl
      go (Some i) d = absurd (never i (least_gap c w i) d)

  pub next-round : {moves : List Move} → presses_next r c w ≡ round moves
      → (i : ℕ) × (a : ℤ) × (chosen c w ≡ Some i) × (least_gap c w i ≡ Some a) × (moves ≡ active_press c w i (kept_scopes c w i) a ∷ [])
  next-round {moves} d = go (chosen c w) refl d
    where
      Pressed : Type 0
      Pressed = (i : ℕ) × (a : ℤ) × (chosen c w ≡ Some i) × (least_gap c w i ≡ Some a) × (moves ≡ active_press c w i (kept_scopes c w i) a ∷ [])

      with-gap : (i : ℕ) → chosen c w ≡ Some i → (o : Option ℤ) → least_gap c w i ≡ o → press_round c w i o ≡ round moves → Pressed
      with-gap i e None g d = let z : ◌≡◌ {A = ℕ} 0 1 = cc in absurd (omega arith)
      with-gap i e (Some a) g d = (i, a, e, g, cc)

      go : (o : Option ℕ) → chosen c w ≡ o → press_next c w o ≡ round moves → Pressed
      go None e d = let z : ◌≡◌ {A = ℕ} 0 1 = cc in absurd (omega arith)
      go (Some i) e d = with-gap i e (least_gap c w i) refl d

  pub next-voided : {i : ℕ} {raised : List ℕ} → presses_next r c w ≡ void i raised
      → (chosen c w ≡ Some i) × (least_gap c w i ≡ None) × (raised ≡ kept_scopes c w i)
  next-voided {i} {raised} d = go (chosen c w) refl d
    where
      Voided : Type 0
      Voided = (chosen c w ≡ Some i) × (least_gap c w i ≡ None) × (raised ≡ kept_scopes c w i)

      with-gap : (j : ℕ) → chosen c w ≡ Some j → (o : Option ℤ) → least_gap c w j ≡ o → press_round c w j o ≡ void i raised → Voided
      with-gap j e None g d = let q : j ≡ i = cc in (cc, cc, cc)
      with-gap j e (Some a) g d = let z : ◌≡◌ {A = ℕ} 0 1 = cc in absurd (omega arith)

      go : (o : Option ℕ) → chosen c w ≡ o → press_next c w o ≡ void i raised → Voided
      go None e d = let z : ◌≡◌ {A = ℕ} 0 1 = cc in absurd (omega arith)
      go (Some j) e d = with-gap j e (least_gap c w j) refl d
