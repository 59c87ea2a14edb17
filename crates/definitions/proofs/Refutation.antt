-- Refutation: the test of every family says what `Refuted` says, raising more scopes keeps what is refuted, and nothing counts but the
-- raised scopes and the weights of the case's own tuples. Assumes nothing.
use mathlib.Core.Path.{◌≡◌, refl, ap, ap₂, ◌∙◌}
use mathlib.Core.Bool.{Bool, true, false, not, ◌&&◌}
use mathlib.Core.Logic.{◌≢◌, ◌↔◌, ⊎_elim}
use mathlib.Core.List.Memᴰ
use mathlib.Core.List.{List, [], ◌∷◌, map}
use Prim.Native.Nat.{ℕ, ◌+◌, ◌<◌}
use native.Mathlib.Omega.{arith}
use lib.IntN.{ℤ, pos}
use lib.Dec.{T, T_not, not_T, ltb, eqb, nltb→le}
use lib.ListN.{get_or, get_or-eq_default}
use Rattle.integers.specs.Words.{below, any, choices, is_in}
use Rattle.integers.specs.Tests.{tests, same_test, either, not-eqb-iff}
use Rattle.integers.specs.Lists.{◌∈◌, any-in, all-below, any_below, is_in-but-one, choices-tab}
use Rattle.integers.specs.Tables.{length-tab, get_d-tab}
use Rattle.definitions.specs.declared.Case.{Case}
use Rattle.definitions.specs.Case.{lower_end, upper_end, scope_count, own_length, active}
use Rattle.definitions.specs.Consistency.{Family, Supported, Refuted, allowed, supported, families, marks, refuted, others}
use Rattle.definitions.proofs.CaseLaws.{active-same}

-- ---- `supported` says what `Supported` says

module _ (c : Case) (w : List ℤ) (R : ℕ → Bool) (i k : ℕ) (S : Family) where
  pub supported-holds : T (supported c w R i k S) → Supported c w R i k S
  supported-holds t =
      let p = simp (tests, all-below, any_below) at t in
      record {
        fixed = p.0.0.0;
        non-empty = p.0.0.1;
        allowed-only = λ j v h g s. p.0.1 j h v g s;
        partner-above = λ e v h g s. let (u, l, q) = (p.1 e h).0 v g s in (u, l, q.0, q.1);
        partner-below = λ e v h g s. let (u, l, q) = (p.1 e h).1 v g s in (u, l, q.0, q.1);
      }

  pub holds-supported : Supported c w R i k S → T (supported c w R i k S)
  holds-supported p = simp (tests, all-below, any_below) (
    ((p.fixed, p.non-empty), λ j h v g s. p.allowed-only j v h g s),
    λ e h. (
      λ v g s. let (u, l, q, a) = p.partner-above e v h g s in (u, l, (q, a)),
      λ v g s. let (u, l, q, a) = p.partner-below e v h g s in (u, l, (q, a)),
    ),
  )

-- ---- every family is among those that are tried

mark-in : (b : Bool) → b ∈ (true ∷ false ∷ [])
mark-in true = Memᴰ.head refl
mark-in false = Memᴰ.tail (Memᴰ.head refl)

-- a family's marks at the variables and values of the case
abbrev listed : Case → Family → List (List Bool)
listed c S = map (λ j. map (S j) (below c.d)) (below c.n)

listed_in : (c : Case) (S : Family) → listed c S ∈ families c
listed_in c S =
    choices-tab (choices c.d (true ∷ false ∷ [])) (λ j. map (S j) (below c.d)) c.n
    (λ j h. choices-tab (true ∷ false ∷ []) (S j) c.d (λ v g. mark-in (S j v)))

marks-listed : (c : Case) (S : Family) (j v : ℕ) → j < c.n → v < c.d → marks (listed c S) j v ≡ S j v
marks-listed c S j v h g =
    ap (λ r. get_or r v false) (get_d-tab (λ j. map (S j) (below c.d)) c.n j [] h) ∙ get_d-tab (S j) c.d v false g

marks-outside : (c : Case) (S : Family) (j v : ℕ) → T (not (ltb j c.n)) → T (marks (listed c S) j v) → ⊥
marks-outside c S j v t = rw (get_or-eq_default (listed c S) [] {n = j} (rw (length-tab (λ j. map (S j) (below c.d)) 0 c.n) (nltb→le j c.n t)))
    (λ s. s)

-- ---- `refuted` says what `Refuted` says

module _ (c : Case) (w : List ℤ) (R : ℕ → Bool) (i k : ℕ) where
  -- no family that is tried is supported
  refuted-tried : T (refuted c w R i k) ↔ ((F : List (List Bool)) → F ∈ families c → Supported c w R i k (marks F) → ⊥)
  refuted-tried = (
    λ t F m s. T_not (any test (families c)) t ((any-in test (families c)).1 (F, m, holds-supported c w R i k (marks F) s)),
    λ f. not_T (any test (families c)) (λ t. let (F, m, s) = (any-in test (families c)).0 t in f F m (supported-holds c w R i k (marks F) s)),
  )
    where
      test : List (List Bool) → Bool
      test F = supported c w R i k (marks F)

  pub refuted-complete : Refuted c w R i k → T (refuted c w R i k)
  refuted-complete r = refuted-tried.1 (λ F m. r.none-exists (marks F))

  module _ (ends : (e : ℕ) → e < c.m → (lower_end c e < c.n) × (upper_end c e < c.n)) where
    listed-supported : (S : Family) → Supported c w R i k S → Supported c w R i k (marks (listed c S))
    listed-supported S p = record {
      fixed = λ v h s. p.fixed v h (⊎_elim (λ t. back (simp tests at t) h s) (λ t. absurd (marks-outside c S i v t s)) (either (ltb i c.n)));
      non-empty = λ j h. let (v, g, s) = p.non-empty j h in (v, g, to h g s);
      allowed-only = λ j v h g s. p.allowed-only j v h g (back h g s);
      partner-above = λ e v h g s. let (u, l, q, a) = p.partner-above e v h g (back (ends e h).0 g s) in (u, l, to (ends e h).1 l q, a);
      partner-below = λ e v h g s. let (u, l, q, a) = p.partner-below e v h g (back (ends e h).1 g s) in (u, l, to (ends e h).0 l q, a);
    }
      where
        to : {j v : ℕ} → j < c.n → v < c.d → T (S j v) → T (marks (listed c S) j v)
        to {j} {v} h g s = rw (marks-listed c S j v h g) s

        back : {j v : ℕ} → j < c.n → v < c.d → T (marks (listed c S) j v) → T (S j v)
        back {j} {v} h g s = rw (marks-listed c S j v h g) at s

    pub refuted-sound : T (refuted c w R i k) → Refuted c w R i k
    refuted-sound t = record { none-exists = λ S s. refuted-tried.0 t (listed c S) (listed_in c S) (listed-supported S s) }

  -- a value that is not refuted has a supported family
  pub not-refuted : T (not (refuted c w R i k)) → (S : Family) × Supported c w R i k S
  not-refuted t =
      let (F, m, s) = (any-in (λ F. supported c w R i k (marks F)) (families c)).0 (simp tests at t) in
      (marks F, supported-holds c w R i k (marks F) s)

-- ---- all other scopes

pub others-in : (c : Case) (i x : ℕ) → x < scope_count c → is_in (others c i) x ≡ not (eqb x i)
others-in c i x h = same_test (is_in (others c i) x) (not (eqb x i))
    (λ t. (not-eqb-iff x i).1 ((is_in-but-one (scope_count c) i x).0 t).1)
    (λ t. (is_in-but-one (scope_count c) i x).1 (h, (not-eqb-iff x i).0 t))

-- a tuple that is allowed with them raised is active
pub others-active : (c : Case) (w : List ℤ) (i x k l : ℕ) → x < scope_count c → x ≢ i → T (allowed c w (is_in (others c i)) x k l) → T (active c w x k l)
others-active c w i x k l h n =
    raised-active (is_in (others c i) x) (active c w x k l) ((is_in-but-one (scope_count c) i x).1 (h, n))
  where
    raised-active : (r a : Bool) → T r → T (not (r && not a)) → T a
    raised-active true true t s = tt
    raised-active false a t s = elim t [ ]
    raised-active true false t s = elim s [ ]

-- ---- what counts

not-and : (a b c : Bool) → (T a → T b) → T (not (b && c)) → T (not (a && c))
not-and true true c f t = t
not-and true false c f t = absurd (f tt)
not-and false b c f t = tt

module _ (c : Case) (w u : List ℤ) (R Q : ℕ → Bool) (i k : ℕ)
    (open-too : (x a b : ℕ) → x < scope_count c → a < c.d → b < c.d → T (allowed c w R x a b) → T (allowed c u Q x a b)) where
  supported-too : (S : Family) → Supported c w R i k S → Supported c u Q i k S
  supported-too S p = record {
    fixed = p.fixed;
    non-empty = p.non-empty;
    allowed-only = λ j v h g s. open-too j v 0 (omega arith) g (omega arith) (p.allowed-only j v h g s);
    partner-above = λ e v h g s. let (y, l, q, a) = p.partner-above e v h g s in (y, l, q, open-too (c.n + e) v y (omega arith) g l a);
    partner-below = λ e v h g s. let (y, l, q, a) = p.partner-below e v h g s in (y, l, q, open-too (c.n + e) y v (omega arith) l g a);
  }

  Refuted-too : Refuted c u Q i k → Refuted c w R i k
  Refuted-too r = record { none-exists = λ S s. r.none-exists S (supported-too S s) }

  refuted-too : T (refuted c u Q i k) → T (refuted c w R i k)
  refuted-too r = (refuted-tried c w R i k).1 (λ F m s. (refuted-tried c u Q i k).0 r F m (supported-too (marks F) s))

-- more scopes raised: fewer families are supported, and more values are refuted
module _ (c : Case) (w : List ℤ) (R Q : ℕ → Bool) (i k : ℕ) (more : (x : ℕ) → x < scope_count c → T (R x) → T (Q x)) where
  allowed-less : (x a b : ℕ) → x < scope_count c → a < c.d → b < c.d → T (allowed c w Q x a b) → T (allowed c w R x a b)
  allowed-less x a b h p q = not-and (R x) (Q x) (not (active c w x a b)) (more x h)

  pub refuted-raised : T (refuted c w R i k) → T (refuted c w Q i k)
  refuted-raised = refuted-too c w w Q R i k allowed-less

-- nothing counts but the raised scopes of the case and the weights at its own places
module _ (c : Case) (w u : List ℤ) (R Q : ℕ → Bool) (i k : ℕ) (own : (p : ℕ) → p < own_length c → get_or w p (pos 0) ≡ get_or u p (pos 0))
    (raised : (x : ℕ) → x < scope_count c → R x ≡ Q x) where
  allowed_same : (x a b : ℕ) → x < scope_count c → a < c.d → b < c.d → allowed c w R x a b ≡ allowed c u Q x a b
  allowed_same x a b h p q = ap₂ (λ r y. not (r && not y)) (raised x h) (active-same c w u own x h a b p q)

  pub refuted-same : refuted c w R i k ≡ refuted c u Q i k
  refuted-same =
      same_test _ _
      (refuted-too c u w Q R i k (λ x a b h p q t. rw (allowed_same x a b h p q) t))
      (refuted-too c w u R Q i k (λ x a b h p q t. rw (← (allowed_same x a b h p q)) t))
