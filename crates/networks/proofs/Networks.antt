-- Supported families of a network: the test says what the record says, the largest family, the steps of a closure, what counts, and the
-- network of a case. Assumes nothing.
use mathlib.Core.Path.{◌≡◌, refl, sym, ap, subst, ◌∙◌}
use mathlib.Core.Bool.{Bool, true, false, not, ◌&&◌}
use mathlib.Core.Logic.{◌↔◌}
use mathlib.Core.List.Memᴰ
use mathlib.Core.List.{List, [], ◌∷◌, map}
use Prim.Native.Nat.{ℕ, ◌≤◌, ◌<◌}
use native.Mathlib.Omega.{arith}
use lib.IntN.{ℤ}
use lib.Dec.{T, T_not, not_T, ltb, eqb, eqb_refl, eqb→eq, ltb→lt, lt→ltb}
use lib.ListN.{get_or}
use Rattle.integers.specs.Words.{below, any, choices, ◌⇒◌}
use Rattle.integers.specs.Tests.{tests, is_true, is_false, same_test, and_intro, and_left, and_right, imp_intro, imp_elim}
use Rattle.integers.specs.Lists.{◌∈◌, any-in, any_at, any_of, all-below, any_below, choices-tab}
use Rattle.integers.specs.Tables.{get_d-tab}
use Rattle.definitions.specs.declared.Case.{Case}
use Rattle.definitions.specs.Case.{values}
use Rattle.definitions.specs.Consistency.{Family, Supported, marks, allowed, refuted}
use Rattle.definitions.proofs.Refutation.{refuted-sound, refuted-complete}
use Rattle.networks.specs.Network.{Network, SupportedIn, supported_in, families_of, largest, network_of, fixed_sets}
use Rattle.theory.proofs.Shape.{Shape, ends-below}

-- the ends of edges are variables
abbrev pub Ends : Network → Type 0
Ends N = (e : ℕ) → e < N.edges → (N.lower e < N.variables) × (N.upper e < N.variables)

-- the sets of F lie in those of G
abbrev pub Within : Network → Family → Family → Type 0
Within N F G = (j v : ℕ) → j < N.variables → v < N.values → T (F j v) → T (G j v)

-- no family is supported inside G
abbrev pub NoFamily : Network → Family → Type 0
NoFamily N G = (S : Family) → SupportedIn N G S → ⊥

pub supported_in-iff : (N : Network) (G S : Family) → T (supported_in N G S) ↔ SupportedIn N G S
supported_in-iff N G S = (
  λ t.
      let p = simp (tests, all-below, any_below) at t in
      record {
        non-empty = p.0.0;
        inside = λ j v h g s. p.0.1 j h v g s;
        partner-above = λ e v h g s. let (u, l, q) = (p.1 e h).0 v g s in (u, l, q.0, q.1);
        partner-below = λ e v h g s. let (u, l, q) = (p.1 e h).1 v g s in (u, l, q.0, q.1);
      },
  λ p. simp (tests, all-below, any_below) (
    (p.non-empty, λ j h v g s. p.inside j v h g s),
    λ e h. (
      λ v g s. let (u, l, q, a) = p.partner-above e v h g s in (u, l, (q, a)),
      λ v g s. let (u, l, q, a) = p.partner-below e v h g s in (u, l, (q, a)),
    ),
  ),
)

-- ---- networks, sets and families that agree inside

-- N and M are the same but for the number of values
pub record Alike (N M : Network) : Type 0 where
  pub variables : N.variables ≡ M.variables
  pub edges : N.edges ≡ M.edges
  pub lower : (e : ℕ) → e < N.edges → N.lower e ≡ M.lower e
  pub upper : (e : ℕ) → e < N.edges → N.upper e ≡ M.upper e
  pub above : (e v u : ℕ) → e < N.edges → v < N.values → u < N.values → v < M.values → u < M.values → N.above e v u ≡ M.above e v u
  pub below : (e v u : ℕ) → e < N.edges → v < N.values → u < N.values → v < M.values → u < M.values → N.below e v u ≡ M.below e v u

-- S in N and F in M hold the same values, all of them values of H
carried : {N M : Network} {G H S F : Family} → Ends N → Alike N M
    → ((j v : ℕ) → j < N.variables → v < N.values → T (S j v) → (v < M.values) × T (F j v) × T (H j v))
    → ((j v : ℕ) → j < N.variables → v < M.values → T (F j v) → (v < N.values) × T (S j v))
    → SupportedIn N G S → SupportedIn M H F
carried {N} {M} {G} {H} {S} {F} ends same to back p = record {
  non-empty = λ j h.
      let i : j < N.variables = rw same.variables h in
      let (v, g, s) = p.non-empty j i in
      let (o, f, q) = to j v i g s in
      (v, o, f);
  inside = λ j v h g f. let i : j < N.variables = rw same.variables h in let (l, s) = back j v i g f in (to j v i l s).2;
  partner-above = λ e v h g f.
      let k : e < N.edges = rw same.edges h in
      let (i, s) = back (N.lower e) v (ends e k).0 g (rw (same.lower e k) f) in
      let (u, l, q, a) = p.partner-above e v k i s in
      let (o, x, y) = to (N.upper e) u (ends e k).1 l q in
      (u, o, rw (← (same.upper e k)) x, rw (← (same.above e v u k i l g o)) a);
  partner-below = λ e u h g f.
      let k : e < N.edges = rw same.edges h in
      let (i, s) = back (N.upper e) u (ends e k).1 g (rw (same.upper e k) f) in
      let (v, l, q, a) = p.partner-below e u k i s in
      let (o, x, y) = to (N.lower e) v (ends e k).0 l q in
      (v, o, rw (← (same.lower e k)) x, rw (← (same.below e v u k l i o g)) a);
}

-- the network with d values
abbrev pub with_values : Network → ℕ → Network
with_values N d = record {
  variables = N.variables;
  values = d;
  edges = N.edges;
  lower = N.lower;
  upper = N.upper;
  above = N.above;
  below = N.below;
}

pub wider : (N : Network) (d : ℕ) → Alike N (with_values N d)
wider N d = record {
  variables = refl;
  edges = refl;
  lower = λ e h. refl;
  upper = λ e h. refl;
  above = λ e v u h p q r s. refl;
  below = λ e v u h p q r s. refl;
}

pub itself : (N : Network) → Alike N N
itself N = wider N N.values

turned : {N M : Network} → Alike N M → Alike M N
turned {N} {M} same = record {
  variables = sym same.variables;
  edges = sym same.edges;
  lower = λ e h. sym (same.lower e (rw same.edges h));
  upper = λ e h. sym (same.upper e (rw same.edges h));
  above = λ e v u h p q r s. sym (same.above e v u (rw same.edges h) r s p q);
  below = λ e v u h p q r s. sym (same.below e v u (rw same.edges h) r s p q);
}

pub alike-ends : {N M : Network} → Alike N M → Ends N → Ends M
alike-ends {N} {M} same ends e h =
    let k : e < N.edges = rw same.edges h in
    (rw (← (same.lower e k), ← same.variables) (ends e k).0, rw (← (same.upper e k), ← same.variables) (ends e k).1)

-- a family that agrees with a supported one
pub same-family : {N : Network} {G S F : Family} → Ends N → ((j v : ℕ) → j < N.variables → v < N.values → S j v ≡ F j v)
    → SupportedIn N G S → SupportedIn N G F
same-family {N} ends same p = carried ends (itself N) (λ j v h g s. (g, rw (← (same j v h g)) s, p.inside j v h g s)) (λ j v h g f. (g, rw (same j v h g) f)) p

-- other sets about the same family
pub sets-inside-more : {N : Network} {G H S : Family} → Within N S H → SupportedIn N G S → SupportedIn N H S
sets-inside-more within p = record {
  non-empty = p.non-empty;
  inside = within;
  partner-above = p.partner-above;
  partner-below = p.partner-below;
}

-- ---- every family is among those that are tried

mark-in : (b : Bool) → b ∈ (true ∷ false ∷ [])
mark-in true = Memᴰ.head refl
mark-in false = Memᴰ.tail (Memᴰ.head refl)

module _ (N : Network) (S : Family) where
  abbrev row : ℕ → List Bool
  row j = map (S j) (below N.values)

  listed : List (List Bool)
  listed = map row (below N.variables)

  listed_in : listed ∈ families_of N
  unfolding listed
  listed_in = choices-tab (choices N.values (true ∷ false ∷ [])) row N.variables
      (λ j h. choices-tab (true ∷ false ∷ []) (S j) N.values (λ v g. mark-in (S j v)))

  marks-listed : (j v : ℕ) → j < N.variables → v < N.values → S j v ≡ marks listed j v
  unfolding listed
  marks-listed j v h g = sym (ap (λ (r : List Bool). get_or r v false) (get_d-tab row N.variables j [] h) ∙ get_d-tab (S j) N.values v false g)

-- ---- the largest family

module _ (N : Network) (G : Family) where
  abbrev holds : List (List Bool) → Bool
  holds F = supported_in N G (marks F)

  abbrev holds_at : ℕ → ℕ → List (List Bool) → Bool
  holds_at j v F = holds F && marks F j v

  pub largest-in : (j v : ℕ) → T (largest N G j v) → (S : Family) × SupportedIn N G S × T (S j v)
  unfolding largest
  largest-in j v t =
      let (F, m, s) = (any-in (holds_at j v) (families_of N)).0 t in
      (marks F, (supported_in-iff N G (marks F)).0 (and_left (holds F) (marks F j v) s), and_right (holds F) (marks F j v) s)

  pub largest-empty : NoFamily N G → (j v : ℕ) → largest N G j v ≡ false
  largest-empty none j v = is_false (largest N G j v) (not_T (largest N G j v) (λ t. let (S, p, s) = largest-in j v t in none S p))

  pub none_tried : NoFamily N G → any (λ F. supported_in N G (marks F)) (families_of N) ≡ false
  none_tried none =
      is_false (any holds (families_of N)) (not_T (any holds (families_of N)) (λ t.
      let (F, m, s) = (any-in holds (families_of N)).0 t in
      none (marks F) ((supported_in-iff N G (marks F)).0 s)))

  module _ (ends : Ends N) where
    listed-holds : {S : Family} → SupportedIn N G S → T (holds (listed N S))
    listed-holds {S} p = (supported_in-iff N G (marks (listed N S))).1 (same-family ends (marks-listed N S) p)

    pub some-tried : {S : Family} → SupportedIn N G S → any (λ F. supported_in N G (marks F)) (families_of N) ≡ true
    some-tried {S} p = is_true (any holds (families_of N)) ((any-in holds (families_of N)).1 (listed N S, listed_in N S, listed-holds p))

    pub in-largest : {S : Family} → SupportedIn N G S → Within N S (largest N G)
    unfolding largest
    in-largest {S} p j v h g s =
        (any-in (holds_at j v) (families_of N)).1
        (listed N S, listed_in N S, and_intro (holds (listed N S)) (marks (listed N S) j v) (listed-holds p) (rw (marks-listed N S j v h g) at s))

    -- all supported families together are supported, if there is one
    pub largest-supported : {S : Family} → SupportedIn N G S → SupportedIn N G (largest N G)
    largest-supported p = record {
      non-empty = λ j h. let (v, g, s) = p.non-empty j h in (v, g, in-largest p j v h g s);
      inside = λ j v h g t. let (F, q, f) = largest-in j v t in q.inside j v h g f;
      partner-above = λ e v h g t.
          let (F, q, f) = largest-in (N.lower e) v t in
          let (u, l, r, a) = q.partner-above e v h g f in
          (u, l, in-largest q (N.upper e) u (ends e h).1 l r, a);
      partner-below = λ e u h g t.
          let (F, q, f) = largest-in (N.upper e) u t in
          let (v, l, r, a) = q.partner-below e u h g f in
          (v, l, in-largest q (N.lower e) v (ends e h).0 l r, a);
    }

    -- a supported family that holds every supported family
    pub closed-is-largest : {F : Family} → SupportedIn N G F → ((S : Family) → SupportedIn N G S → Within N S F)
        → (j v : ℕ) → j < N.variables → v < N.values → F j v ≡ largest N G j v
    closed-is-largest {F} p most j v h g = same_test (F j v) (largest N G j v) (in-largest p j v h g)
        (λ t. let (S, q, s) = largest-in j v t in most S q j v h g s)

    -- one empty set of the largest family shows that there is none
    pub none-empty : (j : ℕ) → j < N.variables → NoFamily N G ↔ T (not (any (λ v. largest N G j v) (below N.values)))
    none-empty j h = (
      λ none. not_T (any (largest N G j) (below N.values)) (λ t.
          let (v, g, l) = any_at (largest N G j) N.values t in
          let (S, p, s) = largest-in j v l in
          none S p),
      λ t S p.
          let (v, g, s) = p.non-empty j h in
          T_not (any (largest N G j) (below N.values)) t (any_of (largest N G j) N.values g (in-largest p j v h g s)),
    )

-- ---- the closure's steps: what is struck from F is in no supported family inside F

module _ (F : Family) {N : Network} {G S : Family} (p : SupportedIn N G S) (within : Within N S F) where
  pub empty-set : (j : ℕ) → j < N.variables → ((v : ℕ) → v < N.values → T (F j v) → ⊥) → ⊥
  empty-set j h none = let (v, g, s) = p.non-empty j h in none v g (within j v h g s)

-- ---- nothing counts but what is inside: other sets, another network, more values

module _ {N M : Network} {G H : Family} (ends : Ends N) (same : Alike N M) (sets : (j v : ℕ) → j < N.variables → v < N.values → G j v ≡ H j v) where
  -- H holds values of N only
  module _ (fewer : N.values ≤ M.values) (only : (j v : ℕ) → j < N.variables → v < M.values → T (H j v) → v < N.values) where
    pub to-fewer : {S : Family} → SupportedIn M H S → SupportedIn N G S
    to-fewer p = carried (alike-ends same ends) (turned same)
        (λ j v h g s.
        let i : j < N.variables = rw same.variables h in
        let x = p.inside j v h g s in
        let o = only j v i g x in
        (o, s, rw (sets j v i o) x))
        (λ j v h g s. (omega arith, s)) p

    -- without what S says past the values of N
    pub to-more : {S : Family} → SupportedIn N G S → SupportedIn M H (λ j v. S j v && ltb v N.values)
    to-more {S} p = carried ends same
        (λ j v h g s. (omega arith, and_intro (S j v) (ltb v N.values) s (lt→ltb v N.values g), rw (sets j v h g) at (p.inside j v h g s)))
        (λ j v h g f. (ltb→lt v N.values (and_right (S j v) (ltb v N.values) f), and_left (S j v) (ltb v N.values) f)) p

-- ---- the network of a case

module _ (c : Case) (w : List ℤ) (R : ℕ → Bool) where
  pub case-ends : Shape c → Ends (network_of c w R)
  case-ends shape = ends-below shape

  module _ (i k : ℕ) (h : i < c.n) where
    pub supported-network : {S : Family} → Supported c w R i k S ↔ SupportedIn (network_of c w R) (fixed_sets c w R i k) S
    supported-network {S} = (
      λ p. record {
        non-empty = p.non-empty;
        inside = λ j v h g s. and_intro (allowed c w R j v 0) (eqb j i ⇒ eqb v k) (p.allowed-only j v h g s)
            (imp_intro (eqb j i) (eqb v k) (λ t.
            let e : v ≡ k = p.fixed v g (subst (λ (j : ℕ). T (S j v)) (eqb→eq j i t) s) in
            simp tests e));
        partner-above = p.partner-above;
        partner-below = p.partner-below;
      },
      λ p. record {
        fixed = λ v g s. eqb→eq v k (imp_elim (eqb i i) (eqb v k) (and_right (allowed c w R i v 0) (eqb i i ⇒ eqb v k) (p.inside i v h g s)) (eqb_refl i));
        non-empty = p.non-empty;
        allowed-only = λ j v h g s. and_left (allowed c w R j v 0) (eqb j i ⇒ eqb v k) (p.inside j v h g s);
        partner-above = p.partner-above;
        partner-below = p.partner-below;
      },
    )

    module _ (shape : Shape c) where
      pub refuted-none : T (refuted c w R i k) ↔ NoFamily (network_of c w R) (fixed_sets c w R i k)
      refuted-none = (
        λ t S p. (refuted-sound c w R i k (case-ends shape) t).none-exists S (supported-network.1 p),
        λ none. refuted-complete c w R i k (record { none-exists = λ S p. none S (supported-network.0 p) }),
      )

      pub refuted-largest : refuted c w R i k ≡ not (any (λ v. largest (network_of c w R) (fixed_sets c w R i k) i v) (values c))
      refuted-largest =
          let (to, back) = none-empty (network_of c w R) (fixed_sets c w R i k) (case-ends shape) i h in
          same_test _ _ (λ t. to (refuted-none.0 t)) (λ t. refuted-none.1 (back t))
