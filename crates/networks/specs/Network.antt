-- Arc consistency over an abstract network: supported families inside given sets, and the largest of them. Assumes nothing.
use Rattle.std.specs.Prelude.{Bool, true, false, ◌&&◌, List, [], ◌∷◌, ℕ, ◌<◌, ℤ, T, eqb}
use Rattle.integers.specs.Words.{below, all, any, choices, ◌⇒◌}
use Rattle.definitions.specs.declared.Case.{Case}
use Rattle.definitions.specs.Case.{lower_end, upper_end}
use Rattle.definitions.specs.Consistency.{Family, marks, allowed, allowed_on_edge}

-- edge e joins variables `lower` e and `upper` e; `above` e k l says that l at the upper end is a partner of k at the lower end,
-- `below` e k l that k is a partner of l
pub record Network : Type 0 where
  pub variables : ℕ
  pub values : ℕ
  pub edges : ℕ
  pub lower : ℕ → ℕ
  pub upper : ℕ → ℕ
  pub above : ℕ → ℕ → ℕ → Bool
  pub below : ℕ → ℕ → ℕ → Bool

-- S is a supported family inside the sets G
pub record SupportedIn (N : Network) (G S : Family) : Type 0 where
  pub non-empty : (j : ℕ) → j < N.variables → (v : ℕ) × (v < N.values) × T (S j v)
  pub inside : (j v : ℕ) → j < N.variables → v < N.values → T (S j v) → T (G j v)
  pub partner-above : (e v : ℕ) → e < N.edges → v < N.values → T (S (N.lower e) v)
      → (u : ℕ) × (u < N.values) × T (S (N.upper e) u) × T (N.above e v u)
  pub partner-below : (e u : ℕ) → e < N.edges → u < N.values → T (S (N.upper e) u)
      → (v : ℕ) × (v < N.values) × T (S (N.lower e) v) × T (N.below e v u)

-- ---- the same as a test, and the largest such family: a value is in it if it is in any

abbrev values_of : Network → List ℕ
values_of N = below N.values

abbrev pub supported_in : Network → Family → Family → Bool
supported_in N G S =
    all (λ j. any (λ v. S j v) (values_of N)) (below N.variables)
    && all (λ j. all (λ v. S j v ⇒ G j v) (values_of N)) (below N.variables)
    && all (λ e.
    all (λ v. S (N.lower e) v ⇒ any (λ u. S (N.upper e) u && N.above e v u) (values_of N)) (values_of N)
    && all (λ u. S (N.upper e) u ⇒ any (λ v. S (N.lower e) v && N.below e v u) (values_of N)) (values_of N)) (below N.edges)

abbrev pub families_of : Network → List (List (List Bool))
families_of N = choices N.variables (choices N.values (true ∷ false ∷ []))

unfoldable pub largest : Network → Family → Family
largest N G j v = any (λ F. supported_in N G (marks F) && marks F j v) (families_of N)

-- ---- the network of a case, a table and raised scopes, and the sets in which value k of variable i is fixed

abbrev pub network_of : Case → List ℤ → (ℕ → Bool) → Network
network_of c w R = record {
  variables = c.n;
  values = c.d;
  edges = c.m;
  lower = lower_end c;
  upper = upper_end c;
  above = allowed_on_edge c w R;
  below = allowed_on_edge c w R;
}

abbrev pub fixed_sets : Case → List ℤ → (ℕ → Bool) → ℕ → ℕ → Family
fixed_sets c w R i k j v = allowed c w R j v 0 && (eqb j i ⇒ eqb v k)
