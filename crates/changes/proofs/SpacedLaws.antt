-- Amounts and ranges; a weight with an amount added; weights that stand apart: where something is added, and where nothing changes.
-- Assumes nothing.
use mathlib.Core.Path.{◌≡◌, refl, sym, ap, subst, ◌∙◌}
use mathlib.Core.Bool.{Bool, true, false, ◌||◌}
use mathlib.Core.Logic.{⊎_elim}
use mathlib.Core.List.{List}
use Prim.Native.Nat.{ℕ, zero, suc, ◌+◌, ◌*◌, ◌<◌}
use native.Mathlib.Nat.{mul-le-mul_right}
use native.Mathlib.Omega.{arith}
use lib.IntN.{ℤ, pos, neg_ℤ, ◌+ℤ◌, ◌-ℤ◌, +ℤ_idl, +ℤ_idr}
use lib.Dec.{T, T_not, eqb, eqb→eq}
use lib.ListN.{length, length-set}
use lib.Seq.{get_or-set_same, get_or-set_other}
use mir.Syntax.{w64}
use mir.Val.{SFits, to_z, of_z}
use mir.Facts.{to_z-of_z}
use Rattle.std.specs.Prelude.{if◌then◌else◌}
use Rattle.integers.specs.Words.{within_z, minus}
use Rattle.integers.specs.Tests.{either, same_test, if-cases, or_cases, not-eqb-iff}
use Rattle.integers.specs.Linear.{zs, flat, ◌▸◌, T-eq}
use Rattle.integers.specs.Lists.{all_same, all-at}
use Rattle.definitions.specs.Rules.{Rules, Coherent}
use Rattle.definitions.proofs.RulesLaws.{rules-fit}
use Rattle.definitions.specs.Case.{barred_weight, is_barred}
use Rattle.definitions.specs.Valid.{in_working}
use Rattle.definitions.specs.Moves.{keeps_range}
use Rattle.tables.proofs.Search.{or-first, or-second}
use Rattle.changes.specs.Spaced.{amount_within, sparing, weight_with, stays_with, weight_at, Inside, SumsFit, spaced_stay, spaced_add}

-- what coherent rules say in machine words
module _ {r : Rules} (limits : Coherent r) where
  module _ (by : ℤ) (h : T (amount_within r by)) where
    pub back_fits : SFits w64 (pos 0 -ℤ by)
    back_fits = h ▸ (rules-fit limits).moving ▸ simp flat (omega zs)

    pub amount-fits : SFits w64 by
    amount-fits = h ▸ (rules-fit limits).moving ▸ simp flat (omega zs)

    pub low_fits : SFits w64 (minus r.working -ℤ by)
    low_fits = h ▸ (rules-fit limits).working ▸ (rules-fit limits).moving ▸ simp flat (omega zs)

    pub high_fits : SFits w64 (pos r.working -ℤ by)
    high_fits = h ▸ (rules-fit limits).working ▸ (rules-fit limits).moving ▸ simp flat (omega zs)

  -- a weight that keeps its range fits a machine word
  pub with-fits : (z by : ℤ) → T (stays_with r z by) → SFits w64 (weight_with z by)
  with-fits z by t = if-cases (λ (y : ℤ). SFits w64 (z +ℤ y)) (is_barred z) (pos 0) by
      (λ b. let e : z ≡ barred_weight = (T-eq z barred_weight).0 b in e ▸ simp flat (omega zs))
      (λ n. ⊎_elim (λ b. absurd (T_not (is_barred z) n b)) (λ s. s ▸ (rules-fit limits).working ▸ simp flat (omega zs))
      (or_cases (is_barred z) (in_working r (z +ℤ by)) t))

-- the code's 0 − by
pub back_is : (by : ℤ) → SFits w64 by → SFits w64 (pos 0 -ℤ by) → to_z w64 (of_z w64 (pos 0 -ℤ to_z w64 (of_z w64 by))) ≡ neg_ℤ by
back_is by f b = rw (to_z-of_z f) (to_z-of_z b ∙ +ℤ_idl (neg_ℤ by))

module _ (r : Rules) where
  -- a range moved by an amount
  pub range_moved : (z by : ℤ) → within_z (minus r.working -ℤ by) (pos r.working -ℤ by) z ≡ in_working r (z +ℤ by)
  range_moved z by = same_test (within_z (minus r.working -ℤ by) (pos r.working -ℤ by) z) (in_working r (z +ℤ by))
      (λ t. t ▸ simp flat (omega zs)) (λ t. t ▸ simp flat (omega zs))

  pub back-within : (a : ℤ) → T (amount_within r a) → T (amount_within r (neg_ℤ a))
  back-within a = simp flat (omega zs)

  -- by the range moved, or else by whether it is barred
  module _ (z by : ℤ) where
    pub stays-in : within_z (minus r.working -ℤ by) (pos r.working -ℤ by) z ≡ true → true ≡ stays_with r z by
    stays-in e = or-second (is_barred z) (in_working r (z +ℤ by)) (sym (range_moved z by) ∙ e)

    pub stays_out : within_z (minus r.working -ℤ by) (pos r.working -ℤ by) z ≡ false → is_barred z ≡ stays_with r z by
    stays_out e = or-first (is_barred z) (in_working r (z +ℤ by)) (sym (range_moved z by) ∙ e)

  -- the weight after it is what is asked of
  pub stays-is : (z by : ℤ) → keeps_range r z (weight_with z by) ≡ stays_with r z by
  stays-is z by = go (is_barred z)
    where
      go : (b : Bool) → (b || in_working r (z +ℤ (if b then pos 0 else by))) ≡ (b || in_working r (z +ℤ by))
      go true = refl
      go false = refl

module _ (z by : ℤ) where
  pub with-barred : is_barred z ≡ true → weight_with z by ≡ z
  with-barred e = rw e (+ℤ_idr z)

  pub with-free : is_barred z ≡ false → weight_with z by ≡ z +ℤ by
  with-free e = rw e

-- nothing is added
pub sparing-none : (z : ℤ) → sparing z (pos 0) ≡ pos 0
sparing-none z = if-cases (λ (by : ℤ). by ≡ pos 0) (is_barred z) (pos 0) (pos 0) (λ t. refl) (λ t. refl)

pub with_none : (z by : ℤ) → by ≡ pos 0 → weight_with z by ≡ z
with_none z by e = ap (λ (by : ℤ). weight_with z by) e ∙ ap (λ (by : ℤ). z +ℤ by) (sparing-none z) ∙ +ℤ_idr z

-- places of different numbers differ
pub spaced-apart : (start step i j : ℕ) → 0 < step → i < j → start + i * step ≡ start + j * step → ⊥
spaced-apart start step i j s h e = omega (arith, mul-le-mul_right {m = suc i} {n = j} step h)

module _ (w : List ℤ) (start step : ℕ) (by : ℤ) where
  pub spaced-long : (j : ℕ) → length (spaced_add w start step j by) ≡ length w
  unfolding spaced_add
  spaced-long zero = refl
  spaced-long (suc j) = length-set (spaced_add w start step j by) (start + j * step) _ ∙ spaced-long j

  pub spaced-miss : (j p : ℕ) → ((i : ℕ) → i < j → p ≡ start + i * step → ⊥) → weight_at (spaced_add w start step j by) p ≡ weight_at w p
  unfolding spaced_add
  spaced-miss zero p f = refl
  spaced-miss (suc j) p f =
      get_or-set_other (spaced_add w start step j by) (start + j * step) p _ (pos 0) (f j (omega arith)) ∙ spaced-miss j p (λ i h. f i (omega arith))

  module _ (some : 0 < step) where
    -- the next weight is as it was
    pub spaced-next : (j : ℕ) → weight_at (spaced_add w start step j by) (start + j * step) ≡ weight_at w (start + j * step)
    spaced-next j = spaced-miss j (start + j * step) (λ i h e. spaced-apart start step i j some h (sym e))

    pub spaced-hit : (j i : ℕ) → i < j → start + i * step < length w
        → weight_at (spaced_add w start step j by) (start + i * step) ≡ weight_with (weight_at w (start + i * step)) by
    unfolding spaced_add
    spaced-hit zero i h l = absurd (omega arith)
    spaced-hit (suc j) i h l = ⊎_elim
        (λ t. let e : i ≡ j = eqb→eq i j t in
        let u : start + j * step < length w = subst (λ (i : ℕ). start + i * step < length w) e l in
        rw e (get_or-set_same (spaced_add w start step j by) (start + j * step) _ (pos 0) (omega (arith, spaced-long j))
        ∙ ap (λ (z : ℤ). weight_with z by) (spaced-next j)))
        (λ t. let k : i < j = omega (arith, (not-eqb-iff i j).0 t) in
        get_or-set_other (spaced_add w start step j by) (start + j * step) (start + i * step) _ (pos 0) (spaced-apart start step i j some k) ∙ spaced-hit j i k l)
        (either (eqb i j))

pub one_place : (own i : ℕ) → i < 1 → own + i * 1 ≡ own
one_place own i h = omega arith

pub stay-fits : {r : Rules} → Coherent r → (w : List ℤ) (start step count : ℕ) (by : ℤ) → T (spaced_stay r w start step count by)
    → SumsFit w start step count by
stay-fits {r} limits w start step count by t j h =
    with-fits limits (weight_at w (start + j * step)) by (all-at (λ j. stays_with r (weight_at w (start + j * step)) by) count t j h)

-- after something is added at a place apart from them
module _ (w : List ℤ) (own start step count : ℕ) (a : ℤ) (apart : (j : ℕ) → j < count → start + j * step ≡ own → ⊥) where
  pub inside-kept : Inside w start step count → Inside (spaced_add w own 1 1 a) start step count
  inside-kept s j h = omega (arith, s j h, spaced-long w own 1 a 1)

  pub stay-kept : (r : Rules) (by : ℤ) → spaced_stay r (spaced_add w own 1 1 a) start step count by ≡ spaced_stay r w start step count by
  stay-kept r by = all_same count (λ j h. ap (λ (z : ℤ). stays_with r z by)
      (spaced-miss w own 1 a 1 (start + j * step) (λ i u e. apart j h (e ∙ one_place own i u))))
