-- Document 01, "Refutation". Raised scopes are given by a test, R x. Assumes nothing.
use Rattle.std.specs.Prelude.{◌≡◌, Bool, true, false, not, ◌&&◌, List, [], ◌∷◌, ℕ, ◌+◌, ◌<◌, ℤ, T, eqb, get_or}
use Rattle.integers.specs.Words.{below, all, any, those, choices, ◌⇒◌}
use Rattle.definitions.specs.declared.Case.{Case}
use Rattle.definitions.specs.Case.{values, scopes, lower_end, upper_end, active}

-- a tuple is forbidden (closed) if it is inactive and its scope is raised; all others are allowed (open)
abbrev pub forbidden : Case → List ℤ → (ℕ → Bool) → ℕ → ℕ → ℕ → Bool
forbidden c w R x k l = R x && not (active c w x k l)

abbrev pub allowed : Case → List ℤ → (ℕ → Bool) → ℕ → ℕ → ℕ → Bool
allowed c w R x k l = not (forbidden c w R x k l)

abbrev pub allowed_on_edge : Case → List ℤ → (ℕ → Bool) → ℕ → ℕ → ℕ → Bool
allowed_on_edge c w R e k l = allowed c w R (c.n + e) k l

-- all scopes but variable i's own
abbrev pub others : Case → ℕ → List ℕ
others c i = those (λ x. not (eqb x i)) (scopes c)

-- a set of values for each variable: S j v says that v is in variable j's set
abbrev pub Family : Type 0
Family = ℕ → ℕ → Bool

-- a supported family (arc-consistent domains) for value k of variable i
pub record Supported (c : Case) (w : List ℤ) (R : ℕ → Bool) (i k : ℕ) (S : Family) : Type 0 where
  -- {k} for variable i: no other value, and by the next line not the empty set
  pub fixed : (v : ℕ) → v < c.d → T (S i v) → v ≡ k
  -- a non-empty set of values for each variable
  pub non-empty : (j : ℕ) → j < c.n → (v : ℕ) × (v < c.d) × T (S j v)
  -- holding allowed values only
  pub allowed-only : (j v : ℕ) → j < c.n → v < c.d → T (S j v) → T (allowed c w R j v 0)
  -- each value in either end of each edge has a partner in the other end's set such that the tuple is allowed
  pub partner-above : (e v : ℕ) → e < c.m → v < c.d → T (S (lower_end c e) v)
      → (u : ℕ) × (u < c.d) × T (S (upper_end c e) u) × T (allowed_on_edge c w R e v u)
  pub partner-below : (e u : ℕ) → e < c.m → u < c.d → T (S (upper_end c e) u)
      → (v : ℕ) × (v < c.d) × T (S (lower_end c e) v) × T (allowed_on_edge c w R e v u)

-- value k of variable i is refuted if no supported family exists
pub record Refuted (c : Case) (w : List ℤ) (R : ℕ → Bool) (i k : ℕ) : Type 0 where
  pub none-exists : (S : Family) → Supported c w R i k S → ⊥

-- ---- the same as tests: where the ends of edges are variables, `refuted` decides `Refuted` (proofs/Refutation)

abbrev pub is_fixed : Case → ℕ → ℕ → Family → Bool
is_fixed c i k S = all (λ v. S i v ⇒ eqb v k) (values c)

abbrev pub is_non_empty : Case → Family → Bool
is_non_empty c S = all (λ j. any (λ v. S j v) (values c)) (below c.n)

abbrev pub is_allowed_only : Case → List ℤ → (ℕ → Bool) → Family → Bool
is_allowed_only c w R S = all (λ j. all (λ v. S j v ⇒ allowed c w R j v 0) (values c)) (below c.n)

abbrev pub has_partners : Case → List ℤ → (ℕ → Bool) → Family → ℕ → Bool
has_partners c w R S e =
    all (λ v. S (lower_end c e) v ⇒ any (λ u. S (upper_end c e) u && allowed_on_edge c w R e v u) (values c)) (values c)
    && all (λ u. S (upper_end c e) u ⇒ any (λ v. S (lower_end c e) v && allowed_on_edge c w R e v u) (values c)) (values c)

abbrev pub supported : Case → List ℤ → (ℕ → Bool) → ℕ → ℕ → Family → Bool
supported c w R i k S =
    is_fixed c i k S && is_non_empty c S && is_allowed_only c w R S && all (has_partners c w R S) (below c.m)

-- every family there is: a list of D marks for each variable. It is run on small cases only
abbrev pub families : Case → List (List (List Bool))
families c = choices c.n (choices c.d (true ∷ false ∷ []))

abbrev pub marks : List (List Bool) → Family
marks F j v = get_or (get_or F j []) v false

abbrev pub refuted : Case → List ℤ → (ℕ → Bool) → ℕ → ℕ → Bool
refuted c w R i k = not (any (λ F. supported c w R i k (marks F)) (families c))

-- every value of variable i in a set is refuted
abbrev pub all_refuted : Case → List ℤ → (ℕ → Bool) → ℕ → (ℕ → Bool) → Bool
all_refuted c w R i set = all (λ k. set k ⇒ refuted c w R i k) (values c)
