-- What the scopes that leave add to the carry, and whether a tuple of them is barred. Assumes nothing.
use mathlib.Core.Path.{◌≡◌, refl, sym, ap, subst, ◌∙◌}
use mathlib.Core.Bool.{Bool, ◌||◌}
use mathlib.Core.Logic.{⊎_elim}
use mathlib.Core.List.Memᴰ
use mathlib.Core.List.{List, [], ◌∷◌, map}
use Prim.Native.Nat.{ℕ, ◌+◌, ◌*◌, ◌≤◌, ◌<◌, ◌^◌}
use native.Mathlib.Omega.{arith}
use lib.IntN.{ℤ, pos, ◌+ℤ◌}
use lib.Dec.{T}
use lib.Signed.{◌≤ℤ◌}
use lib.ListN.{length}
use mir.Syntax.{w64}
use mir.Val.{SFits}
use Rattle.integers.specs.Words.{below, any, sum, minus, min_z, smallest_of}
use Rattle.integers.specs.Tests.{same_test, or_cases, if-cases}
use Rattle.integers.specs.Linear.{flat, zs, ◌▸◌, T-eq}
use Rattle.integers.specs.Lists.{◌∈◌, any-in, map-map}
use Rattle.integers.specs.Maxima.{min_cases}
use Rattle.integers.specs.Sums.{Σ, Σ-most, Σ-least}
use Rattle.definitions.specs.declared.Case.{Case}
use Rattle.definitions.specs.Rules.{Rules, Coherent, coherent, rules_of, barring}
use Rattle.definitions.specs.Case.{scope_count, each_tuple, own_length, weight, greatest, barred_weight, is_barred, barred}
use Rattle.definitions.specs.Valid.{in_working, working_weight}
use Rattle.logs.specs.Leave.{has_end, leaving_edges, leaving_scopes, least, carry_after, some_barred}
use Rattle.theory.proofs.Places.{tuple-in, in-tuples}
use Rattle.theory.proofs.Validity.{Handed, working-handed, BothHanded}
use Rattle.tables.specs.Scopes.{scope_part}
use Rattle.tables.proofs.Parts.{scope-part}
use Rattle.tables.proofs.Answered.{greatest-working}
use Rattle.leaving.specs.Scopes.{growth, edge_growth, edge_barred}
use Rattle.leaving.proofs.Lists.{sum-passing, any-passing, any-map}

-- what holds of all numbers of a list holds of the least
lowest-holds : (P : ℤ → Type 0) (l : List ℤ) → P (pos 0) → ((z : ℤ) → z ∈ l → P z) → P (smallest_of l)
lowest-holds P [] p h = p
lowest-holds P (z ∷ []) p h = h z (Memᴰ.head refl)
lowest-holds P (z ∷ y ∷ l) p h =
    let rest : P (smallest_of (y ∷ l)) = lowest-holds P (y ∷ l) p (λ x m. h x (Memᴰ.tail m)) in
    ⊎_elim (λ (e : min_z z (smallest_of (y ∷ l)) ≡ z). subst P (sym e) (h z (Memᴰ.head refl)))
    (λ (e : min_z z (smallest_of (y ∷ l)) ≡ smallest_of (y ∷ l)). subst P (sym e) rest) (min_cases z (smallest_of (y ∷ l)))

-- ---- a scope

-- a weight or the barred number
abbrev Held : ℤ → Type 0
Held z = (minus barring ≤ℤ z) × (z ≤ℤ pos barring)

held-weight : {r : Rules} → Coherent r → (z : ℤ) → T (working_weight r z) → Held z
held-weight {r} k z t = ⊎_elim
    (λ b. let e : z ≡ barred_weight = (T-eq z barred_weight).0 b in (e ▸ simp flat (omega zs), e ▸ simp flat (omega zs)))
    (λ i. (k.barred-below ▸ i ▸ simp flat (omega zs), k.barred-below ▸ i ▸ simp flat (omega zs))) (or_cases (is_barred z) (in_working r z) t)

module _ (c : Case) (w : List ℤ) (long : own_length c ≤ length w) where
  pub part-some-barred : (x : ℕ) → x < scope_count c → any is_barred (scope_part c w x) ≡ some_barred c w x
  part-some-barred x h = same_test _ _
      (λ t.
      let (z, m, b) = (any-in is_barred (each_tuple c x (weight c w x))).0 (rw (sym (scope-part c w long x h)) at t) in
      let (k, l, u, e) = in-tuples c (weight c w x) x h m in
      (any-in (λ b. b) (each_tuple c x (barred c w x))).1 (barred c w x k l, tuple-in c (barred c w x) u, subst (λ (z : ℤ). T (is_barred z)) (sym e) b))
      (λ t.
      let (b, m, s) = (any-in (λ b. b) (each_tuple c x (barred c w x))).0 t in
      let (k, l, u, e) = in-tuples c (barred c w x) x h m in
      rw (sym (scope-part c w long x h)) ((any-in is_barred (each_tuple c x (weight c w x))).1 (weight c w x k l, tuple-in c (weight c w x) u, subst T (sym e) s)))

  pub part-least : (x : ℕ) → x < scope_count c → smallest_of (scope_part c w x) ≡ least c w x
  part-least x h = ap smallest_of (sym (scope-part c w long x h))

-- what one scope adds at the most
abbrev most : ℕ
most = 2 * barring

module _ (c : Case) (w₀ w : List ℤ) (h : BothHanded (rules_of c) c w₀ w) where
  k : Coherent (rules_of c)
  k = coherent c.rulebook

  pub first-working : Handed (rules_of c) (working_weight (rules_of c)) c w₀
  first-working = working-handed k h.first

  least-held : (x : ℕ) → x < scope_count c → Held (least c w₀ x)
  least-held x l = lowest-holds Held (each_tuple c x (weight c w₀ x)) (simp flat (omega zs), simp flat (omega zs)) (λ z m.
      let (a, b, t, e) = in-tuples c (weight c w₀ x) x l m in subst Held e (held-weight k (weight c w₀ x a b) (first-working.in-range x a b t)))

  pub growth-held : (x : ℕ) → x < scope_count c → (minus most ≤ℤ growth c w₀ w x) × (growth c w₀ w x ≤ℤ pos most)
  growth-held x l =
      let (a, b) = least-held x l in
      let g : T (in_working (rules_of c) (greatest c w x)) = greatest-working h.now x l in
      (a ▸ b ▸ g ▸ k.barred-below ▸ simp flat (omega zs), a ▸ b ▸ g ▸ k.barred-below ▸ simp flat (omega zs))

  pub growth-fits : (x : ℕ) → x < scope_count c → SFits w64 (growth c w₀ w x)
  growth-fits x l = let (a, b) = growth-held x l in a ▸ b ▸ simp flat (omega zs)

  -- ---- the edges that leave, one after the other

  module _ (i : ℕ) where
    edge-held : (e : ℕ) → e < c.m → (minus most ≤ℤ edge_growth c w₀ w i e) × (edge_growth c w₀ w i e ≤ℤ pos most)
    edge-held e l = if-cases (λ z. (minus most ≤ℤ z) × (z ≤ℤ pos most)) (has_end c i e) (growth c w₀ w (c.n + e)) (pos 0)
        (λ t. growth-held (c.n + e) (omega arith)) (λ t. (simp flat (omega zs), simp flat (omega zs)))

    -- the carry with what the first e edges add
    abbrev pub carry_to : ℕ → ℤ
    carry_to e = Σ (edge_growth c w₀ w i) 0 e +ℤ (c.carry +ℤ growth c w₀ w i)

    pub carry-fits : i < c.n → (e : ℕ) → e ≤ c.m → SFits w64 (carry_to e)
    carry-fits inside e l =
        let (a, b) = growth-held i (omega arith) in
        let f : ℕ → ℤ = edge_growth c w₀ w i in
        let u : Σ f 0 e ≤ℤ pos (e * most) = Σ-most f most 0 e (λ y p q. (edge-held y (omega arith)).1) in
        let v : minus (e * most) ≤ℤ Σ f 0 e = Σ-least f most 0 e (λ y p q. (edge-held y (omega arith)).0) in
        let m : e ≤ 96 = omega (arith, h.now.edges_most, k.edges_placed) in
        let r : 2 * (rules_of c).carried < 2 ^ 63 = omega (arith, k.rounds-enough, k.rounds-fit) in
        a ▸ b ▸ u ▸ v ▸ m ▸ r ▸ h.now.carry-in ▸ simp flat (omega zs)

    pub carry-whole : carry_to c.m ≡ carry_after c i w₀ w
    carry-whole =
        let g : ℕ → ℤ = growth c w₀ w in
        let e : sum (map g (map (λ e. c.n + e) (leaving_edges c i))) ≡ Σ (edge_growth c w₀ w i) 0 c.m =
        ap sum (map-map g (λ e. c.n + e) (leaving_edges c i)) ∙ sum-passing (λ e. g (c.n + e)) (has_end c i) (below c.m) in
        e ▸ simp flat (omega zs)

pub barred-whole : (c : Case) (w₀ : List ℤ) (i : ℕ)
    → (some_barred c w₀ i || any (edge_barred c w₀ i) (below c.m)) ≡ any (some_barred c w₀) (leaving_scopes c i)
barred-whole c w₀ i = ap (λ (b : Bool). some_barred c w₀ i || b) (sym (
    any-map (some_barred c w₀) (λ e. c.n + e) (leaving_edges c i) ∙ any-passing (λ e. some_barred c w₀ (c.n + e)) (has_end c i) (below c.m)))
