-- Barred tuples: no active tuple is barred, a move that is allowed keeps and adds none, and a lawful assignment gets of a move what the move
-- says. Assumes nothing.
use mathlib.Core.Path.{◌≡◌, refl, sym, ap, subst, ◌∙◌}
use mathlib.Core.Bool.{Bool, true, false, not}
use mathlib.Core.Logic.{◌↔◌, ⊎_elim}
use mathlib.Core.List.{List}
use Prim.Native.Nat.{ℕ, ◌<◌}
use lib.IntN.{ℤ, pos, ◌+ℤ◌, +ℤ_idr}
use lib.Dec.{T, T_not, not_T}
use lib.Signed.{◌≤ℤ◌}
use lib.ListN.{get_or}
use Rattle.std.specs.Prelude.{if◌then◌else◌}
use Rattle.integers.specs.Words.{below, all, any, minus}
use Rattle.integers.specs.Tests.{is_false, either, if-true, if-false, not-not-iff, and_left, and_right, and_intro, or_right, or_cases}
use Rattle.integers.specs.Linear.{flat, zs, ◌▸◌, T-eq}
use Rattle.integers.specs.Lists.{all_in, any-in, all-at, all_of, in-below}
use Rattle.integers.specs.Sums.{sum-cong}
use Rattle.definitions.specs.declared.Case.{Case}
use Rattle.definitions.specs.Rules.{Rules, Coherent, barring}
use Rattle.definitions.specs.Case.{scope_count, scopes, each_tuple, own_length, place, weight, greatest, active, is_assignment, at_used}
use Rattle.definitions.specs.Case.{barred_weight, is_barred, barred, wholly_barred, is_lawful}
use Rattle.definitions.specs.Valid.{in_working, working_weight}
use Rattle.definitions.specs.Moves.{Difference, spared, plus, keeps_range, leaves_range}
use Rattle.definitions.proofs.CaseLaws.{place-own}
use Rattle.theory.proofs.Shape.{Shape}
use Rattle.theory.proofs.Words.{none_below}
use Rattle.theory.proofs.Places.{IsTuple, tuple-in, in-tuples, tuple_at, weight-plus, weight-most, active-weight, greatest-at}
use Rattle.theory.proofs.Totals.{objective_of, at-used, at-used-holds, used-tuple, first_used, second_used}

-- ---- numbers

module _ {r : Rules} (coherent : Coherent r) where
  -- the range of working weights has no barred tuple's number
  pub in-range-free : (z : ℤ) → T (in_working r z) → T (not (is_barred z))
  in-range-free z h = not_T (is_barred z) (λ t.
      let e : z ≡ barred_weight = (T-eq z barred_weight).0 t in
      h ▸ e ▸ coherent.barred-below ▸ simp flat (omega zs))

  -- what a table may hold lies between that number and the greatest working weight
  pub working-bounds : (z : ℤ) → T (working_weight r z) → (minus barring ≤ℤ z) × (z ≤ℤ pos r.working)
  working-bounds z h = ⊎_elim
      (λ t. let e : z ≡ barred_weight = (T-eq z barred_weight).0 t in (e ▸ simp flat (omega zs), e ▸ simp flat (omega zs)))
      (λ t. let q = coherent.barred-below in (t ▸ simp flat (omega zs), t ▸ simp flat (omega zs)))
      (or_cases (is_barred z) (in_working r z) h)

-- ---- a scope's tuples

module _ (c : Case) where
  pub each_all : (f : ℕ → ℕ → Bool) (x : ℕ) → x < scope_count c → T (all (λ b. b) (each_tuple c x f)) ↔ ((k l : ℕ) → IsTuple c x k l → T (f k l))
  each_all f x h = (
    λ t k l u. (all_in (λ b. b) (each_tuple c x f)).0 t (f k l) (tuple-in c f u),
    λ g. (all_in (λ b. b) (each_tuple c x f)).1 (λ b m. let (k, l, u, e) = in-tuples c f x h m in subst T e (g k l u)),
  )

  pub each-some-not : (f : ℕ → ℕ → Bool) (x : ℕ) → x < scope_count c → T (not (all (λ b. b) (each_tuple c x f)))
      → (k l : ℕ) × IsTuple c x k l × T (not (f k l))
  each-some-not f x h t = ⊎_elim
      (λ s. let (b, m, n) = (any-in (λ b. not b) (each_tuple c x f)).0 s in let (k, l, u, e) = in-tuples c f x h m in
      (k, l, u, subst (λ (b : Bool). T (not b)) (sym e) n))
      (λ s. absurd (T_not (all (λ b. b) (each_tuple c x f)) t ((all_in (λ b. b) (each_tuple c x f)).1 (λ b m.
      ⊎_elim (λ u. u) (λ u. absurd (T_not (any (λ b. not b) (each_tuple c x f)) s ((any-in (λ b. not b) (each_tuple c x f)).1 (b, m, u)))) (either b)))))
      (either (any (λ b. not b) (each_tuple c x f)))

  module _ {r : Rules} (coherent : Coherent r) (w : List ℤ) (in-range : (x k l : ℕ) → IsTuple c x k l → T (working_weight r (weight c w x k l)))
      (x : ℕ) (h : x < scope_count c) (some-free : T (not (wholly_barred c w x))) where
    -- in a scope that is not wholly barred the greatest weight is a working weight, and no active tuple is barred
    pub greatest-in-range : T (in_working r (greatest c w x))
    greatest-in-range =
        let (k, l, u, f) = each-some-not (barred c w x) x h some-free in
        let (a, b, v, e) = greatest-at c w u in
        let low : T (in_working r (weight c w x k l)) = ⊎_elim (λ t. absurd (T_not (barred c w x k l) f t)) (λ t. t)
        (or_cases (barred c w x k l) (in_working r (weight c w x k l)) (in-range x k l u)) in
        low ▸ weight-most c w u ▸ (working-bounds coherent (weight c w x a b) (in-range x a b v)).1 ▸ e ▸ simp flat (omega zs)

    pub active-free : (k l : ℕ) → T (active c w x k l) → T (not (barred c w x k l))
    active-free k l t = subst (λ (z : ℤ). T (not (is_barred z))) (sym ((active-weight c w x k l).0 t)) (in-range-free coherent (greatest c w x) greatest-in-range)

  -- ---- number 11
  pub stays-in-range : (r : Rules) (w v : List ℤ)
      → T (not (leaves_range r c w v)) ↔ ((x k l : ℕ) → IsTuple c x k l → T (keeps_range r (weight c w x k l) (weight c v x k l)))
  stays-in-range r w v = (
    λ t x k l u. all-at at_place (own_length c) ((not-not-iff (all at_place (below (own_length c)))).0 t) (place c x k l)
        (place-own c x k l u.scope u.one u.two),
    λ f. (not-not-iff (all at_place (below (own_length c)))).1 (all_of at_place (own_length c) (λ p h.
        let (x, k, l, u, e) = tuple_at c p h in subst (λ (p : ℕ). T (at_place p)) e (f x k l u))),
  )
    where
      at_place : ℕ → Bool
      at_place p = keeps_range r (get_or w p (pos 0)) (get_or v p (pos 0))

  -- ---- a move
  module _ (w : List ℤ) (δ : Difference) where
    pub weight-spared : {x k l : ℕ} → IsTuple c x k l → weight c (plus c (spared c w δ) w) x k l
        ≡ (if barred c w x k l then weight c w x k l else weight c w x k l +ℤ δ x k l)
    weight-spared {x} {k} {l} u = weight-plus c (spared c w δ) w u ∙ go (barred c w x k l)
      where
        go : (b : Bool) → weight c w x k l +ℤ (if b then pos 0 else δ x k l) ≡ (if b then weight c w x k l else weight c w x k l +ℤ δ x k l)
        go true = +ℤ_idr (weight c w x k l)
        go false = refl

    -- a barred tuple stays barred, and where no weight leaves the range no other becomes so
    pub bars-kept : {r : Rules} → Coherent r → T (not (leaves_range r c w (plus c (spared c w δ) w))) → {x k l : ℕ} → IsTuple c x k l
        → barred c (plus c (spared c w δ) w) x k l ≡ barred c w x k l
    bars-kept {r} coherent n {x} {k} {l} u = ⊎_elim
        (λ t. ap is_barred (weight-spared u ∙ if-true _ _ (barred c w x k l) t))
        (λ t. is_false (barred c v x k l) (in-range-free coherent (weight c v x k l) (⊎_elim (λ s. absurd (T_not (barred c w x k l) t s)) (λ s. s)
        (or_cases (barred c w x k l) (in_working r (weight c v x k l)) ((stays-in-range r w v).0 n x k l u)))) ∙ sym (is_false (barred c w x k l) t))
        (either (barred c w x k l))
      where
        v : List ℤ
        v = plus c (spared c w δ) w

    pub working-kept : (r : Rules) → T (not (leaves_range r c w (plus c (spared c w δ) w))) → {x k l : ℕ} → IsTuple c x k l
        → T (working_weight r (weight c w x k l)) → T (working_weight r (weight c (plus c (spared c w δ) w) x k l))
    working-kept r n {x} {k} {l} u h = ⊎_elim
        (λ t. subst (λ (z : ℤ). T (working_weight r z)) (sym (weight-spared u ∙ if-true _ _ (barred c w x k l) t)) h)
        (λ t. or_right (is_barred (weight c (plus c (spared c w δ) w) x k l)) (in_working r (weight c (plus c (spared c w δ) w) x k l)) t)
        (or_cases (barred c w x k l) (in_working r (weight c (plus c (spared c w δ) w) x k l)) ((stays-in-range r w (plus c (spared c w δ) w)).0 n x k l u))

  -- ---- lawful assignments
  module _ (w : List ℤ) (p : List ℕ) where
    pub lawful-iff : T (is_lawful c w p) ↔ T (is_assignment c p) × ((x : ℕ) → x < scope_count c → T (not (at_used c p x (barred c w x))))
    lawful-iff = (
      λ t. (and_left (is_assignment c p) _ t, (none_below used (scope_count c)).0 (and_right (is_assignment c p) _ t)),
      λ (a, f). and_intro (is_assignment c p) _ a ((none_below used (scope_count c)).1 f),
    )
      where
        used : ℕ → Bool
        used x = at_used c p x (barred c w x)

    -- a difference comes to the same whether it spares barred tuples or not
    pub spared-used : T (is_lawful c w p) → (δ : Difference) → objective_of c (spared c w δ) p ≡ objective_of c δ p
    spared-used t δ = sum-cong (λ x. at_used c p x (spared c w δ x)) (λ x. at_used c p x (δ x)) (scopes c) (λ x m.
        let free : T (not (barred c w x (first_used c p x) (second_used c p x))) =
        subst (λ (b : Bool). T (not b)) (at-used c p (barred c w x) x) ((lawful-iff.0 t).1 x (in-below (scope_count c) m)) in
        at-used c p (spared c w δ x) x ∙ if-false _ _ (barred c w x (first_used c p x) (second_used c p x)) free ∙ sym (at-used c p (δ x) x))

  pub lawful-same : (w v : List ℤ) → ((x k l : ℕ) → IsTuple c x k l → barred c v x k l ≡ barred c w x k l) → Shape c → (p : List ℕ)
      → T (is_lawful c w p) → T (is_lawful c v p)
  lawful-same w v same s p t =
      let (a, f) = (lawful-iff w p).0 t in
      (lawful-iff v p).1 (
        a,
        λ x h. subst (λ (b : Bool). T (not b))
            (at-used c p (barred c w x) x ∙ sym (same x _ _ (used-tuple s p a x h)) ∙ sym (at-used c p (barred c v x) x)) (f x h),
      )

-- ---- tables with no barred tuple

abbrev pub Free : Case → List ℤ → Type 0
Free c w = (x k l : ℕ) → IsTuple c x k l → T (not (barred c w x k l))

module _ (c : Case) (w : List ℤ) (free : Free c w) where
  pub free-lawful : Shape c → (p : List ℕ) → T (is_assignment c p) → T (is_lawful c w p)
  free-lawful s p a = (lawful-iff c w p).1 (a, λ x h. at-used-holds s p a (λ b. T (not b)) x h (barred c w x) (free x))
