-- Document 02, change 3: all supported families of a value together are supported, so that the largest family is one (`family-supported`,
-- `family-holds`); each of its values has a lowest partner (`partner-found`); no press and no void line is left
-- exactly where every variable has a value to show (`no-press-shown`, `shown-no-press`). Assumes nothing.
use Rattle.std.specs.Prelude.{Option, Some, None}
use mathlib.Core.Path.{◌≡◌, refl, sym, ap}
use mathlib.Core.Bool.{Bool, not, ◌&&◌}
use mathlib.Core.List.{List}
use Prim.Native.Nat.{ℕ, zero, suc, ◌-◌, ◌<◌}
use native.Mathlib.Omega.{arith}
use lib.IntN.{ℤ}
use lib.Dec.{T, T_not, not_T}
use Rattle.integers.specs.Words.{below, any, those, first, is_in}
use Rattle.integers.specs.Tests.{same_test, and_intro, and_left, and_right}
use Rattle.integers.specs.Lists.{any-cong, any_of, first-least, first-none}
use Rattle.definitions.specs.declared.Case.{Case}
use Rattle.definitions.specs.Case.{active}
use Rattle.definitions.specs.Consistency.{Family, Supported, others, supported, families, marks, refuted}
use Rattle.definitions.specs.Moves.{end_variable}
use Rattle.definitions.specs.Engine.{NoPress}
use Rattle.definitions.specs.Families.{supported_value, largest_family, allowed_across, lowest_partner}
use Rattle.definitions.proofs.Refutation.{supported-holds, holds-supported, refuted-sound, not-refuted}
use Rattle.networks.specs.Network.{supported_in, largest, network_of, fixed_sets}
use Rattle.theory.proofs.Shape.{Shape}
use Rattle.networks.proofs.Networks.{supported_in-iff, same-family, largest-supported, in-largest, case-ends, supported-network}

-- the first value below n at which f passes, where it passes somewhere
first_found : (f : ℕ → Bool) (n : ℕ) {x : ℕ} → x < n → T (f x) → (u : ℕ) × (first (those f (below n)) ≡ Some u) × (u < n)
first_found f n l t = go (first (those f (below n))) refl
  where
    go : (o : Option ℕ) → first (those f (below n)) ≡ o → (u : ℕ) × (first (those f (below n)) ≡ Some u) × (u < n)
    go None e = absurd (T_not (any f (below n)) (first-none f (below n) e) (any_of f n l t))
    go (Some u) e = (u, e, (first-least f n e).0)

module _ (c : Case) (w : List ℤ) (R : ℕ → Bool) (i k : ℕ) (h : i < c.n) where
  -- the union of the definition is that of the network
  pub family-is-largest : (j v : ℕ) → largest_family c w R i k j v ≡ largest (network_of c w R) (fixed_sets c w R i k) j v
  unfolding largest
  family-is-largest j v = any-cong (families c) (λ F m. ap (λ (b : Bool). b && marks F j v) (same F))
    where
      same : (F : List (List Bool)) → supported c w R i k (marks F) ≡ supported_in (network_of c w R) (fixed_sets c w R i k) (marks F)
      same F = same_test _ _
          (λ t. (supported_in-iff _ _ (marks F)).1 ((supported-network c w R i k h).0 (supported-holds c w R i k (marks F) t)))
          (λ t. holds-supported c w R i k (marks F) ((supported-network c w R i k h).1 ((supported_in-iff _ _ (marks F)).0 t)))

  module _ (shape : Shape c) where
    -- every supported family lies in the largest one
    pub family-holds : {S : Family} → Supported c w R i k S → (j v : ℕ) → j < c.n → v < c.d → T (S j v) → T (largest_family c w R i k j v)
    family-holds p j v g l s =
        rw (family-is-largest j v) (in-largest (network_of c w R) (fixed_sets c w R i k) (case-ends c w R shape) ((supported-network c w R i k h).0 p) j v g l s)

    -- a value that is not refuted has a largest family, which is supported
    module _ (kept : T (not (refuted c w R i k))) where
      pub family-supported : Supported c w R i k (largest_family c w R i k)
      family-supported =
          let p = (supported-network c w R i k h).0 (not-refuted c w R i k kept).1 in
          (supported-network c w R i k h).1
          (same-family (case-ends c w R shape) (λ j v g l. sym (family-is-largest j v))
          (largest-supported (network_of c w R) (fixed_sets c w R i k) (case-ends c w R shape) p))

      -- each of its values has a lowest partner across each edge
      pub partner-found : (e end v : ℕ) → e < c.m → end < 2 → v < c.d → T (largest_family c w R i k (end_variable c e end) v)
          → (u : ℕ) × (lowest_partner c w R (largest_family c w R i k) e end v ≡ Some u) × (u < c.d)
      partner-found e end v g b l s =
          let (u, o, f, a) = partner end b s in
          first_found (λ u. largest_family c w R i k (end_variable c e (1 - end)) u && allowed_across c w R e end v u) c.d o
          (and_intro (largest_family c w R i k (end_variable c e (1 - end)) u) (allowed_across c w R e end v u) f a)
        where
          partner : (end : ℕ) → end < 2 → T (largest_family c w R i k (end_variable c e end) v)
              → (u : ℕ) × (u < c.d) × T (largest_family c w R i k (end_variable c e (1 - end)) u) × T (allowed_across c w R e end v u)
          partner zero b s = family-supported.partner-above e v g l s
          partner (suc zero) b s = family-supported.partner-below e v g l s
          partner (suc (suc end)) b s = absurd (omega arith)

-- no press and no void line is left exactly where every variable has a value to show
module _ (c : Case) (w : List ℤ) where
  abbrev keeps : ℕ → ℕ → Bool
  keeps i k = active c w i k 0 && not (refuted c w (is_in (others c i)) i k)

  pub shown-no-press : ((i : ℕ) → i < c.n → (k : ℕ) × (supported_value c w i ≡ Some k)) → NoPress c w
  shown-no-press shown i h =
      let (k, e) = shown i h in
      let (l, t, lower) = first-least (keeps i) c.d e in
      let R : ℕ → Bool = is_in (others c i) in
      let (S, p) = not-refuted c w R i k (and_right (active c w i k 0) (not (refuted c w R i k)) t) in
      (k, l, and_left (active c w i k 0) (not (refuted c w R i k)) t, S, p)

  module _ (shape : Shape c) where
    pub no-press-shown : NoPress c w → (i : ℕ) → i < c.n → (k : ℕ) × (supported_value c w i ≡ Some k) × (k < c.d)
    no-press-shown rest i h =
        let (k, l, a, S, p) = rest i h in
        let R : ℕ → Bool = is_in (others c i) in
        first_found (keeps i) c.d l
        (and_intro (active c w i k 0) (not (refuted c w R i k)) a
        (not_T (refuted c w R i k) (λ t. (refuted-sound c w R i k (case-ends c w R shape) t).none-exists S p)))
