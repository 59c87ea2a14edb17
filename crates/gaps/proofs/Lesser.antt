-- The least gap of a list of weights: one weight after the other, by a floor, its bounds, and what it says. Assumes nothing.
use mathlib.Core.Path.{◌≡◌, refl, sym, ap, subst, ◌∙◌}
use mathlib.Core.Bool.{not}
use mathlib.Core.Logic.{◌⊎◌, inl, inr, ⊎_elim}
use mathlib.Core.List.Memᴰ
use mathlib.Core.List.{List, [], ◌∷◌}
use Prim.Native.Nat.{ℕ, zero, suc, ◌+◌, ◌≤◌, ◌<◌}
use native.Mathlib.Numerals.{add-one}
use lib.IntN.{ℤ, pos, ◌+ℤ◌, ◌-ℤ◌}
use lib.Dec.{T, not_T}
use lib.Signed.{◌≤ℤ◌, le_z, lt_z}
use lib.ListN.{length, get_or, drop, drop_of_length-le}
use lib.Seq.{drop-cons}
use mir.Syntax.{w64}
use mir.Val.{SFits}
use Rattle.std.specs.Prelude.{if◌then◌else◌}
use Rattle.integers.specs.Words.{max_z, min_z}
use Rattle.integers.specs.Tests.{either, if-cases, if-true, if-false, and_left, and_right, and_intro}
use Rattle.integers.specs.Linear.{flat, zs, ◌▸◌, ≤ℤ-trans}
use Rattle.integers.specs.Maxima.{max-left, max-right, min-left, min-right, min_cases}
use Rattle.integers.specs.Lists.{◌∈◌}
use Rattle.definitions.specs.declared.Case.{Case}
use Rattle.definitions.specs.Rules.{Rules, Coherent}
use Rattle.definitions.proofs.RulesLaws.{rules-fit}
use Rattle.definitions.specs.Case.{barred_weight}
use Rattle.definitions.specs.Valid.{in_working}
use Rattle.tables.specs.Scopes.{scope_part, best_at}
use Rattle.gaps.specs.Gaps.{no_gap, small_weight, IsGap, limits, sets_gap, lesser_gap, less_gaps, higher_floor, gap_below}

-- ---- sums

below-best : (z r best m : ℤ) → r ≡ m → m ≤ℤ (best -ℤ z) → (z +ℤ r) ≤ℤ best
below-best z r best m = simp flat (omega zs)

pub less-room : (z q r g : ℤ) → q ≤ℤ r → (z +ℤ r) ≤ℤ g → (z +ℤ q) ≤ℤ g
less-room z q r g = simp flat (omega zs)

above_zero : (r best z : ℤ) → T (sets_gap best z) → r ≡ best -ℤ z → pos 0 ≤ℤ r
above_zero r best z = simp flat (omega zs)

pub working-small : {r : Rules} → Coherent r → (z : ℤ) → T (in_working r z) → T (small_weight z)
working-small coherent z h = h ▸ (rules-fit coherent).working ▸ simp flat (omega zs)

pub floor-fits : (best limit : ℤ) → T (small_weight best) → IsGap limit → SFits w64 (best -ℤ limit)
floor-fits best limit h g = h ▸ g.0 ▸ g.1 ▸ simp flat (omega zs)

pub gap-fits : {z : ℤ} → IsGap z → SFits w64 z
gap-fits {z} g = g.0 ▸ g.1 ▸ simp flat (omega zs)

-- ---- one weight, by the floor that the least gap so far gives

-- the floor is at least a barred tuple's number, and the gap of what lies above it is less than the limit
pub record Floor (best limit floor : ℤ) : Type 0 where
  pub barred : barred_weight ≤ℤ floor
  pub limited : (best -ℤ limit) ≤ℤ floor

-- the least gap so far, by the floor
abbrev pub floor_gap : ℤ → ℤ → ℤ → ℤ
floor_gap best limit floor = if le_z floor barred_weight then limit else best -ℤ floor

module _ (best limit : ℤ) where
  pub floor-first : Floor best limit (max_z (best -ℤ limit) barred_weight)
  floor-first = record { barred = max-right (best -ℤ limit) barred_weight; limited = max-left (best -ℤ limit) barred_weight }

  pub gap-first : floor_gap best limit (max_z (best -ℤ limit) barred_weight) ≡ limit
  gap-first = if-cases (λ f. floor_gap best limit f ≡ limit) (le_z (best -ℤ limit) barred_weight) barred_weight (best -ℤ limit) (λ t. refl)
      (λ t. if-false limit (best -ℤ (best -ℤ limit)) (le_z (best -ℤ limit) barred_weight) t ∙ simp flat (omega zs))

  module _ {floor : ℤ} (f : Floor best limit floor) (z : ℤ) where
    pub floor-next : Floor best limit (higher_floor best z floor)
    floor-next = if-cases (Floor best limit) (le_z best z) floor (if le_z z floor then floor else z) (λ t. f)
        (λ t. if-cases (Floor best limit) (le_z z floor) floor z (λ s. f)
        (λ s. record { barred = f.barred ▸ s ▸ simp flat (omega zs); limited = f.limited ▸ s ▸ simp flat (omega zs) }))

    stays : T (le_z z floor) → floor_gap best limit floor ≡ lesser_gap best z (floor_gap best limit floor)
    stays s = if-cases (λ r. floor_gap best limit floor ≡ r) (sets_gap best z) (min_z (floor_gap best limit floor) (best -ℤ z)) (floor_gap best limit floor)
        (λ t. sym (if-true (floor_gap best limit floor) (best -ℤ z) (le_z (floor_gap best limit floor) (best -ℤ z))
        (no_less (floor_gap best limit floor) z (if-false limit (best -ℤ floor) (le_z floor barred_weight) (over t s)) s)))
        (λ t. refl)
      where
        over : T (sets_gap best z) → T (le_z z floor) → T (not (le_z floor barred_weight))
        over t = and_left (lt_z barred_weight z) (lt_z z best) t ▸ simp flat (omega zs)

        no_less : (g z : ℤ) → g ≡ best -ℤ floor → T (le_z z floor) → T (le_z g (best -ℤ z))
        no_less g z = simp flat (omega zs)

    rises : T (not (le_z best z)) → T (not (le_z z floor)) → floor_gap best limit z ≡ lesser_gap best z (floor_gap best limit floor)
    rises t s =
        if-false limit (best -ℤ z) (le_z z barred_weight) over
        ∙ sym (if-true (min_z (floor_gap best limit floor) (best -ℤ z)) (floor_gap best limit floor) (sets_gap best z)
        (and_intro (lt_z barred_weight z) (lt_z z best) (f.barred ▸ s ▸ simp flat (omega zs)) (t ▸ simp flat (omega zs)))
        ∙ if-false (floor_gap best limit floor) (best -ℤ z) (le_z (floor_gap best limit floor) (best -ℤ z)) (less (floor_gap best limit floor) most s))
      where
        over : T (not (le_z z barred_weight))
        over = f.barred ▸ s ▸ simp flat (omega zs)

        most : (best -ℤ floor) ≤ℤ floor_gap best limit floor
        most = if-cases (λ g. (best -ℤ floor) ≤ℤ g) (le_z floor barred_weight) limit (best -ℤ floor) (λ u. f.limited ▸ simp flat (omega zs)) (λ u. omega zs)

        less : (g : ℤ) → (best -ℤ floor) ≤ℤ g → T (not (le_z z floor)) → T (not (le_z g (best -ℤ z)))
        less g = simp flat (omega zs)

    pub gap-next : floor_gap best limit (higher_floor best z floor) ≡ lesser_gap best z (floor_gap best limit floor)
    gap-next = if-cases (λ r. floor_gap best limit r ≡ lesser_gap best z (floor_gap best limit floor)) (le_z best z) floor (if le_z z floor then floor else z)
        (λ t. sym (if-false (min_z (floor_gap best limit floor) (best -ℤ z)) (floor_gap best limit floor) (sets_gap best z) (not_set t)))
        (λ t. if-cases (λ r. floor_gap best limit r ≡ lesser_gap best z (floor_gap best limit floor)) (le_z z floor) floor z stays (rises t))
      where
        not_set : T (le_z best z) → T (not (sets_gap best z))
        not_set t = not_T (sets_gap best z) (λ s. t ▸ and_right (lt_z barred_weight z) (lt_z z best) s ▸ simp flat (omega zs))

module _ (z best least : ℤ) where
  one-most : lesser_gap best z least ≤ℤ least
  one-most = if-cases (λ r. r ≤ℤ least) (sets_gap best z) (min_z least (best -ℤ z)) least (λ t. min-left least (best -ℤ z)) (λ t. omega zs)

  one-room : T (sets_gap best z) → (z +ℤ lesser_gap best z least) ≤ℤ best
  one-room t =
      below-best z (lesser_gap best z least) best (min_z least (best -ℤ z)) (if-true (min_z least (best -ℤ z)) least (sets_gap best z) t)
      (min-right least (best -ℤ z))

  one-reached : (lesser_gap best z least ≡ least) ⊎ (T (sets_gap best z) × (lesser_gap best z least ≡ best -ℤ z))
  one-reached = ⊎_elim
      (λ t.
      let e = if-true (min_z least (best -ℤ z)) least (sets_gap best z) t in
      ⊎_elim (λ d. inl (e ∙ d)) (λ d. inr (t, e ∙ d)) (min_cases least (best -ℤ z)))
      (λ t. inl (if-false (min_z least (best -ℤ z)) least (sets_gap best z) t))
      (either (sets_gap best z))

-- ---- the weights of a scope

-- r is the least of the limit and the gaps of these weights
pub record Least (best limit : ℤ) (l : List ℤ) (r : ℤ) : Type 0 where
  pub most : r ≤ℤ limit
  pub room : (z : ℤ) → z ∈ l → T (sets_gap best z) → (z +ℤ r) ≤ℤ best
  pub reached : (r ≡ limit) ⊎ ((z : ℤ) × z ∈ l × T (sets_gap best z) × (r ≡ best -ℤ z))

pub least-is : (best : ℤ) (l : List ℤ) (limit : ℤ) → Least best limit l (less_gaps best l limit)
unfolding less_gaps
least-is best [] limit = record { most = omega zs; room = λ z m t. absurd (Memᴰ.not-nil m); reached = inl refl }
least-is best (z ∷ l) limit = next (least-is best l (lesser_gap best z limit))
  where
    next : {r : ℤ} → Least best (lesser_gap best z limit) l r → Least best limit (z ∷ l) r
    next {r} q = record {
      most = ≤ℤ-trans q.most (one-most z best limit);
      room = λ y m t. at m t;
      reached = ⊎_elim
          (λ e. ⊎_elim (λ d. inl (e ∙ d)) (λ (t, d). inr (z, Memᴰ.head refl, t, e ∙ d)) (one-reached z best limit))
          (λ (y, m, t, d). inr (y, Memᴰ.tail m, t, d)) q.reached;
    }
      where
        at : {y : ℤ} → y ∈ (z ∷ l) → T (sets_gap best y) → (y +ℤ r) ≤ℤ best
        at {y} (Memᴰ.head e) t =
            rw e (less-room z r (lesser_gap best z limit) best q.most (one-room z best limit (subst (λ (x : ℤ). T (sets_gap best x)) e t)))
        at {y} (Memᴰ.tail m) t = q.room y m t

pub gaps-bounded : (best : ℤ) (l : List ℤ) (limit : ℤ) → IsGap limit → IsGap (less_gaps best l limit)
gaps-bounded best l limit g =
    let q = least-is best l limit in (
      ⊎_elim (λ e. subst (λ (z : ℤ). pos 0 ≤ℤ z) (sym e) g.0) (λ (z, m, t, e). above_zero (less_gaps best l limit) best z t e) q.reached,
      ≤ℤ-trans q.most g.1,
    )

-- one weight further, and at the end
pub gaps-next : (best least next : ℤ) (l : List ℤ) (j : ℕ) → j < length l → next ≡ lesser_gap best (get_or l j (pos 0)) least
    → less_gaps best (drop (j + 1) l) next ≡ less_gaps best (drop j l) least
unfolding less_gaps
gaps-next best least next l j h e = rw (add-one, drop-cons l j (pos 0) h) (ap (less_gaps best (drop (suc j) l)) e)

pub gaps-end : (best least : ℤ) (l : List ℤ) (j : ℕ) → length l ≤ j → less_gaps best (drop j l) least ≡ least
unfolding less_gaps
gaps-end best least l j h = rw (drop_of_length-le l {i = j} h)

-- ---- the scopes one after the other
module _ (c : Case) (w best : List ℤ) (raised : List ℕ) (i : ℕ) where
  pub scopes-none : pos no_gap ≡ gap_below c w best raised i 0
  unfolding gap_below
  scopes-none = refl

  pub scopes-next : (x : ℕ) {least next : ℤ} → least ≡ gap_below c w best raised i x
      → next ≡ (if limits raised i x then less_gaps (best_at best x) (scope_part c w x) least else least) → next ≡ gap_below c w best raised i (x + 1)
  unfolding gap_below
  scopes-next x e d =
      d ∙ ap (λ (z : ℤ). if limits raised i x then less_gaps (best_at best x) (scope_part c w x) z else z) e ∙ rw add-one

  pub scopes-bounded : (x : ℕ) → IsGap (gap_below c w best raised i x)
  unfolding gap_below
  scopes-bounded zero = (omega zs, omega zs)
  scopes-bounded (suc x) =
      if-cases IsGap (limits raised i x) (less_gaps (best_at best x) (scope_part c w x) (gap_below c w best raised i x)) (gap_below c w best raised i x)
      (λ t. gaps-bounded (best_at best x) (scope_part c w x) (gap_below c w best raised i x) (scopes-bounded x)) (λ t. scopes-bounded x)
