-- Two tables that agree on the case's own places have the same next press or void line: the same variable, kept scopes, gaps and amount; and one
-- has none left where the other has none. Assumes nothing.
use mathlib.Core.Path.{◌≡◌, refl, sym, ap, ap₂, ◌∙◌}
use mathlib.Core.Bool.{Bool, ◌||◌}
use mathlib.Core.Logic.{◌↔◌}
use mathlib.Core.List.Memᴰ
use mathlib.Core.List.{List, [], ◌∷◌, ◌++◌, map}
use Prim.Native.Nat.{ℕ, ◌<◌}
use native.Mathlib.Omega.{arith}
use lib.IntN.{ℤ, pos}
use lib.ListN.{get_or}
use Rattle.std.specs.Prelude.{if◌then◌else◌}
use Rattle.integers.specs.Words.{first, joined, least_of}
use Rattle.integers.specs.Lists.{◌∈◌, those-same, map-cong}
use Rattle.definitions.specs.declared.Case.{Case}
use Rattle.definitions.specs.Case.{own_length, scope_count, is_barred}
use Rattle.definitions.specs.Moves.{active_refuted}
use Rattle.definitions.specs.Consistency.{others}
use Rattle.definitions.specs.Engine.{NoPress, chosen, trimmed, kept_scopes, gap, gap_above, least_gap}
use Rattle.definitions.proofs.CaseLaws.{each_tuple-same, weight-same, greatest-same, active-same}
use Rattle.theory.proofs.Shape.{Shape}
use Rattle.theory.proofs.Own.{active_refuted-same}
use Rattle.press_theory.proofs.Trim.{no-press-iff, kept-scopes}

module _ (c : Case) (w u : List ℤ) (own : (p : ℕ) → p < own_length c → get_or w p (pos 0) ≡ get_or u p (pos 0)) where
  pub chosen-same : chosen c w ≡ chosen c u
  chosen-same = ap first (those-same c.n (λ i h. active_refuted-same c w u own i h (others c i)))

  pub no-press-same : Shape c → NoPress c w ↔ NoPress c u
  no-press-same shape = (
    λ f. (no-press-iff c u shape).0 (sym chosen-same ∙ (no-press-iff c w shape).1 f),
    λ f. (no-press-iff c w shape).0 (chosen-same ∙ (no-press-iff c u shape).1 f),
  )

  trimmed-same : (i : ℕ) → i < c.n → (kept rest : List ℕ) → trimmed c w i kept rest ≡ trimmed c u i kept rest
  trimmed-same i h kept [] = refl
  trimmed-same i h kept (x ∷ rest) =
      ap (λ (b : Bool). trimmed c w i (if b then kept else kept ++ (x ∷ [])) rest) (active_refuted-same c w u own i h (kept ++ rest))
      ∙ trimmed-same i h (if active_refuted c u i (kept ++ rest) then kept else kept ++ (x ∷ [])) rest

  pub kept_same : (i : ℕ) → i < c.n → kept_scopes c w i ≡ kept_scopes c u i
  kept_same i h = trimmed-same i h [] (others c i)

  pub own-gap-same : (x : ℕ) → x < scope_count c → gap c w x ≡ gap c u x
  own-gap-same x h = ap₂ gap_above (greatest-same c w u own x h)
      (ap joined (each_tuple-same c x (λ k l p q. ap₂ (λ (b : Bool) (z : ℤ). if b || is_barred z then [] else z ∷ []) (active-same c w u own x h k l p q)
      (weight-same c w u own x h k l p q))))

  own-or-kept : (i : ℕ) → i < c.n → {x : ℕ} → x ∈ (i ∷ kept_scopes c w i) → x < scope_count c
  own-or-kept i h (Memᴰ.head e) = omega arith
  own-or-kept i h (Memᴰ.tail m) = (kept-scopes c w i m).0

  pub least_gap-same : (i : ℕ) → i < c.n → least_gap c w i ≡ least_gap c u i
  least_gap-same i h = ap (λ (l : List (List ℤ)). least_of (joined l))
      (map-cong (i ∷ kept_scopes c w i) (λ x m. own-gap-same x (own-or-kept i h m)) ∙ ap (λ (l : List ℕ). map (gap c u) (i ∷ l)) (kept_same i h))
