-- What is due in a join, one line after another: which is the last, how many weights and ends are read before each, and that a store holds 0 past the
-- weights read. Assumes nothing.
use mathlib.Core.Path.{◌≡◌, refl, sym, ap, subst, ◌∙◌}
use mathlib.Core.Bool.{true, false, true≢false}
use mathlib.Core.Logic.{◌≢◌, ◌↔◌, ⊎_elim}
use mathlib.Core.List.{List}
use Prim.Native.Nat.{ℕ, zero, suc, ◌+◌, ◌*◌, ◌-◌, ◌≤◌, ◌<◌}
use native.Mathlib.Nat.{mul-le-mul_right}
use native.Mathlib.Omega.{arith}
use lib.IntN.{ℤ, pos}
use lib.Dec.{T, ltb, ltb→lt, nltb→le}
use lib.ListN.{set}
use lib.Seq.{get_or-set_other}
use Rattle.integers.specs.Tests.{tests, either, if-cases}
use Rattle.definitions.specs.declared.Case.{Case}
use Rattle.definitions.specs.declared.Line.{Line}
use Rattle.definitions.specs.Rules.{rules_of}
use Rattle.definitions.specs.Case.{own_length}
use Rattle.definitions.specs.Valid.{zeros_from}
use Rattle.definitions.specs.CaseFiles.{CaseDue, variable-weight, edge-ends, edge-weight, weight_in}
use Rattle.definitions.proofs.CaseLaws.{place-own}
use Rattle.logs.specs.Waiting.{small_case, ends_read, weights_read, scopes_read, is_last_due, weight_waits}
use Rattle.theory.proofs.Places.{place-variable, place-edge}
use Rattle.case_lines.specs.declared.Sizes.{Sizes}
use Rattle.case_lines.specs.declared.Awaited.{Awaited}
use Rattle.case_lines.specs.declared.Awaited.TheVariants.{VariableWeight, EdgeEnds, EdgeWeight}
use Rattle.case_lines.specs.Dues.{SizesLimited, AtLine, due_awaited, first_due, next_due}
use Rattle.case_lines.proofs.Dues.{sizes-few, next-at}
use Rattle.case_theory.proofs.CaseDues.{IsDue, rank, rank_below}
use Rattle.case_theory.proofs.JoinReads.{join_lines}
use Rattle.case_theory.proofs.Zeroed.{zeros-at, zeros_by}
use Rattle.log_theory.proofs.Waiting.{ends_after}

-- the sizes of the small case
abbrev pub join_sizes : Case → ℕ → Sizes
join_sizes c p = record { n = 1; d = c.d; m = p; rulebook = c.rulebook }

no_rows : (i d : ℕ) → i < 1 → i * d ≡ 0
no_rows zero d h = omega arith
no_rows (suc i) d h = absurd (omega arith)

few-rows : (p d : ℕ) → p * suc d ≡ 0 → p ≡ 0
few-rows zero d h = refl
few-rows (suc p) d h = absurd (omega arith)

module _ (c : Case) (p : ℕ) where
  -- every line before is a weight's or that of an edge's ends
  rank-read : (x : CaseDue) → IsDue 1 c.d p x → rank 1 c.d p x ≡ weights_read c p x + ends_read x
  rank-read (variable-weight i k) (u, v) = omega (arith, place-variable (small_case c p) i k 0 u)
  rank-read (edge-ends e) u = omega (arith, place-edge (small_case c p) e 0 0)
  rank-read (edge-weight e k l) (u, v, h) = omega (arith, place-edge (small_case c p) e k l)

  -- ---- what stands before a line x

  pub ends-earlier : (e : ℕ) (x : CaseDue) → e < ends_read x → rank 1 c.d p (edge-ends e) < rank 1 c.d p x
  ends-earlier e (variable-weight i k) h = absurd (omega arith)
  ends-earlier e (edge-ends f) h = omega (arith, mul-le-mul_right {m = suc e} {n = f} (suc (c.d * c.d)) h)
  ends-earlier e (edge-weight f k l) h = omega (arith, mul-le-mul_right {m = e} {n = f} (suc (c.d * c.d)) (omega arith))

  pub ends-few : (x : CaseDue) → IsDue 1 c.d p x → ends_read x ≤ p
  ends-few (variable-weight i k) u = omega arith
  ends-few (edge-ends e) u = omega arith
  ends-few (edge-weight e k l) (u, v, h) = u

  pub scopes-few : (x : CaseDue) → IsDue 1 c.d p x → scopes_read x ≤ p
  scopes-few (variable-weight i k) u = omega arith
  scopes-few (edge-ends e) u = u
  scopes-few (edge-weight e k l) (u, v, h) = u

  pub weights-few : (x : CaseDue) → IsDue 1 c.d p x → weights_read c p x ≤ own_length (small_case c p)
  weights-few (variable-weight i k) (u, v) = omega (arith, place-own (small_case c p) i k 0 (omega arith) v (omega arith))
  weights-few (edge-ends e) u = omega (arith, place-edge (small_case c p) e 0 0, mul-le-mul_right {m = e} {n = p} (c.d * c.d) (omega arith))
  weights-few (edge-weight e k l) (u, v, h) = omega (arith, place-own (small_case c p) (1 + e) k l (omega arith) v h)

  pub variable-earlier : (i k : ℕ) → i < 1 → k < c.d → (x : CaseDue) → IsDue 1 c.d p x → weights_read c p (variable-weight i k) < weights_read c p x
      → rank 1 c.d p (variable-weight i k) < rank 1 c.d p x
  variable-earlier i k a b x u h = omega (arith, rank-read (variable-weight i k) (a, b), rank-read x u)

  -- where a weight of edge e is read, its ends are
  ends-too : (e k l : ℕ) (x : CaseDue) → IsDue 1 c.d p x → weights_read c p (edge-weight e k l) < weights_read c p x → e < ends_read x
  ends-too e k l (variable-weight i a) (u, v) h =
      absurd (omega (arith, place-edge (small_case c p) e k l, place-variable (small_case c p) i a 0 u, no_rows i c.d u))
  ends-too e k l (edge-ends f) u h = ⊎_elim (λ t. ltb→lt e f t)
      (λ t. absurd (omega (
        arith,
        place-edge (small_case c p) e k l,
        place-edge (small_case c p) f 0 0,
        mul-le-mul_right {m = f} {n = e} (c.d * c.d) (nltb→le e f t),
      ))) (either (ltb e f))
  ends-too e k l (edge-weight f a b) (u, v, g) h = ⊎_elim (λ t. ltb→lt e (suc f) t)
      (λ t. absurd (omega (
        arith,
        place-edge (small_case c p) e k l,
        place-edge (small_case c p) f a b,
        mul-le-mul_right {m = suc f} {n = e} (c.d * c.d) (nltb→le e (suc f) t),
        mul-le-mul_right {m = suc a} {n = c.d} c.d v,
      ))) (either (ltb e (suc f)))

  pub edge-earlier : (e k l : ℕ) → e < p → k < c.d → l < c.d → (x : CaseDue) → IsDue 1 c.d p x
      → weights_read c p (edge-weight e k l) < weights_read c p x → rank 1 c.d p (edge-weight e k l) < rank 1 c.d p x
  edge-earlier e k l a b g x u h = omega (arith, ends-too e k l x u h, rank-read (edge-weight e k l) (a, b, g), rank-read x u)

  -- the last line of a scope that is read
  pub variable-whole : (i : ℕ) → i < 1 → (x : CaseDue) → i < scopes_read x → 1 ≤ c.d →
      rank 1 c.d p (variable-weight i (c.d - 1)) < rank 1 c.d p x
  variable-whole i u (variable-weight j k) h some = absurd (omega arith)
  variable-whole i u (edge-ends e) h some = omega (arith, no_rows i c.d u)
  variable-whole i u (edge-weight e k l) h some = omega (arith, no_rows i c.d u)

  pub edge-whole : (e : ℕ) (x : CaseDue) → 1 + e < scopes_read x → 1 ≤ c.d
      → rank 1 c.d p (edge-weight e (c.d - 1) (c.d - 1)) < rank 1 c.d p x
  edge-whole e (variable-weight j k) h some = absurd (omega arith)
  edge-whole e (edge-ends f) h some =
      let z : suc (c.d - 1) * c.d ≡ c.d * c.d = ap (λ (k : ℕ). k * c.d) (omega arith) in
      omega (arith, mul-le-mul_right {m = suc e} {n = f} (suc (c.d * c.d)) (omega arith))
  edge-whole e (edge-weight f k l) h some =
      let z : suc (c.d - 1) * c.d ≡ c.d * c.d = ap (λ (k : ℕ). k * c.d) (omega arith) in
      omega (arith, mul-le-mul_right {m = suc e} {n = f} (suc (c.d * c.d)) (omega arith))

  -- the same the other way: what stands before a line x is read
  pub ends-before : (e : ℕ) (x : CaseDue) → IsDue 1 c.d p x → rank 1 c.d p (edge-ends e) < rank 1 c.d p x → e < ends_read x
  ends-before e (variable-weight i k) (u, v) h = absurd (omega (arith, no_rows i c.d u))
  ends-before e (edge-ends f) u h = ⊎_elim (λ t. ltb→lt e f t)
      (λ t. absurd (omega (arith, mul-le-mul_right {m = f} {n = e} (suc (c.d * c.d)) (nltb→le e f t)))) (either (ltb e f))
  ends-before e (edge-weight f a b) (u, v, g) h = ⊎_elim (λ t. ltb→lt e (suc f) t)
      (λ t. absurd (omega (
        arith,
        mul-le-mul_right {m = suc f} {n = e} (suc (c.d * c.d)) (nltb→le e (suc f) t),
        mul-le-mul_right {m = suc a} {n = c.d} c.d v,
      ))) (either (ltb e (suc f)))

  pub variable-before : (i k : ℕ) → i < 1 → k < c.d → (x : CaseDue) → IsDue 1 c.d p x → rank 1 c.d p (variable-weight i k) < rank 1 c.d p x
      → weights_read c p (variable-weight i k) < weights_read c p x
  variable-before i k a b (variable-weight j l) (u, v) h =
      omega (arith, rank-read (variable-weight i k) (a, b), rank-read (variable-weight j l) (u, v))
  variable-before i k a b (edge-ends f) u h =
      omega (arith, no_rows i c.d a, place-variable (small_case c p) i k 0 a, place-edge (small_case c p) f 0 0)
  variable-before i k a b (edge-weight f j l) u h =
      omega (arith, no_rows i c.d a, place-variable (small_case c p) i k 0 a, place-edge (small_case c p) f j l)

  pub edge-before : (e k l : ℕ) → k < c.d → l < c.d → (x : CaseDue) → IsDue 1 c.d p x → rank 1 c.d p (edge-weight e k l) < rank 1 c.d p x
      → weights_read c p (edge-weight e k l) < weights_read c p x
  edge-before e k l b g x u h = go x u h (ends-before e x u (omega arith))
    where
      lower-edge : (f : ℕ) → e < f → weights_read c p (edge-weight e k l) < weights_read c p (edge-ends f)
      lower-edge f o = omega (
        arith,
        place-edge (small_case c p) e k l,
        place-edge (small_case c p) f 0 0,
        mul-le-mul_right {m = suc e} {n = f} (c.d * c.d) o,
        mul-le-mul_right {m = suc k} {n = c.d} c.d b,
      )

      go : (x : CaseDue) → IsDue 1 c.d p x → rank 1 c.d p (edge-weight e k l) < rank 1 c.d p x → e < ends_read x
          → weights_read c p (edge-weight e k l) < weights_read c p x
      go (variable-weight i a) u h o = absurd (omega arith)
      go (edge-ends f) u h o = lower-edge f o
      go (edge-weight f i j) u h o = ⊎_elim
          (λ t. omega (arith, lower-edge f (ltb→lt e f t), place-edge (small_case c p) f 0 0, place-edge (small_case c p) f i j))
          (λ t.
          let s : e ≡ f = omega (arith, nltb→le e f t) in
          omega (
            arith,
            place-edge (small_case c p) e k l,
            place-edge (small_case c p) f i j,
            ap (λ (e : ℕ). e * (c.d * c.d)) s,
            ap (λ (e : ℕ). e * suc (c.d * c.d)) s,
          )) (either (ltb e f))

  pub variable-read : (i k : ℕ) → i < 1 → k + 1 ≡ c.d → (x : CaseDue) → IsDue 1 c.d p x → rank 1 c.d p (variable-weight i k) < rank 1 c.d p x
      → i < scopes_read x
  variable-read i k a b (variable-weight j l) (u, v) h = absurd (omega (arith, no_rows i c.d a, no_rows j c.d u))
  variable-read i k a b (edge-ends f) u h = omega arith
  variable-read i k a b (edge-weight f j l) u h = omega arith

  pub edge-read : (e k l : ℕ) → k + 1 ≡ c.d → l + 1 ≡ c.d → (x : CaseDue) → IsDue 1 c.d p x
      → rank 1 c.d p (edge-weight e k l) < rank 1 c.d p x → 1 + e < scopes_read x
  edge-read e k l a b x u h = go x u h (ends-before e x u (omega arith))
    where
      go : (x : CaseDue) → IsDue 1 c.d p x → rank 1 c.d p (edge-weight e k l) < rank 1 c.d p x → e < ends_read x → 1 + e < scopes_read x
      go (variable-weight i j) u h o = absurd (omega arith)
      go (edge-ends f) u h o = omega arith
      go (edge-weight f i j) (u, v, g) h o = ⊎_elim (λ t. omega (arith, ltb→lt e f t))
          (λ t.
          let s : e ≡ f = omega (arith, nltb→le e f t) in
          absurd (omega (arith, ap (λ (e : ℕ). e * suc (c.d * c.d)) s, mul-le-mul_right {m = i} {n = k} c.d (omega arith))))
          (either (ltb e f))

  -- ---- one line after another

  at-line : (due : Awaited) → IsDue 1 c.d p (due_awaited due) → AtLine (join_sizes c p) (rank 1 c.d p (due_awaited due)) due
  at-line (VariableWeight i k) (u, v) = (refl, u, v)
  at-line (EdgeEnds e) h = (omega arith, h)
  at-line (EdgeWeight e k l) (u, v, h) = (omega arith, u, v, h)

  of-line : (due : Awaited) (q : ℕ) → AtLine (join_sizes c p) q due → IsDue 1 c.d p (due_awaited due) × (rank 1 c.d p (due_awaited due) ≡ q)
  of-line (VariableWeight i k) q (e, u, v) = ((u, v), sym e)
  of-line (EdgeEnds e) q (s, h) = (h, omega arith)
  of-line (EdgeWeight e k l) q (s, u, v, h) = ((u, v, h), omega arith)

  pub last-due : 1 ≤ c.d → (x : CaseDue) → IsDue 1 c.d p x → is_last_due c p x ≡ true ↔ suc (rank 1 c.d p x) ≡ join_lines c p
  last-due some (variable-weight i k) (u, v) =
      let z : i * c.d ≡ 0 = no_rows i c.d u in
      simp tests (
        λ (a, b). let o : p * suc (c.d * c.d) ≡ 0 = ap (λ (p : ℕ). p * suc (c.d * c.d)) a ∙ omega arith in omega arith,
        λ q. (few-rows p (c.d * c.d) (omega arith), omega arith),
      )
  last-due some (edge-ends e) u = (
    λ q. absurd (true≢false (sym q)),
    λ q. absurd (omega (arith, mul-le-mul_right {m = suc e} {n = p} (suc (c.d * c.d)) u, mul-le-mul_right {m = 1} {n = c.d} c.d some)),
  )
  last-due some (edge-weight e k l) (u, v, h) = simp tests (
    λ ((a, b), o). omega (arith, ap (λ (p : ℕ). p * suc (c.d * c.d)) a, ap (λ (k : ℕ). k * c.d) b),
    λ q.
        let a : e + 1 ≡ p = top (e + 1) p (omega arith) (λ t. omega (
          arith,
          mul-le-mul_right {m = suc (e + 1)} {n = p} (suc (c.d * c.d)) t,
          mul-le-mul_right {m = suc k} {n = c.d} c.d v,
        )) in
        let y : (e + 1) * suc (c.d * c.d) ≡ p * suc (c.d * c.d) = ap (λ (p : ℕ). p * suc (c.d * c.d)) a in
        let b : k + 1 ≡ c.d = top (k + 1) c.d (omega arith) (λ t. omega (arith, mul-le-mul_right {m = suc (k + 1)} {n = c.d} c.d t)) in
        let z : (k + 1) * c.d ≡ c.d * c.d = ap (λ (k : ℕ). k * c.d) b in
        ((a, b), omega arith),
  )
    where
      top : (a b : ℕ) → a ≤ b → (suc a ≤ b → ⊥) → a ≡ b
      top a b h n = ⊎_elim (λ t. absurd (n (ltb→lt a b t))) (λ t. omega (arith, nltb→le a b t)) (either (ltb a b))

  -- the ends read before the next line
  ends_next : (due : Awaited) → IsDue 1 c.d p (due_awaited due) → is_last_due c p (due_awaited due) ≡ false
      → ends_read (due_awaited (next_due (join_sizes c p) due)) ≡ ends_after (due_awaited due)
  ends_next (VariableWeight i k) h more =
      if-cases (λ a. ends_read (due_awaited a) ≡ 0) (ltb (k + 1) c.d) _ _ (λ t. refl)
      (λ t. if-cases (λ a. ends_read (due_awaited a) ≡ 0) (ltb (i + 1) 1) _ _ (λ u. refl) (λ u. refl))
  ends_next (EdgeEnds e) h more = refl
  ends_next (EdgeWeight e k l) (a, b, h) more =
      if-cases (λ a. ends_read (due_awaited a) ≡ suc e) (ltb (l + 1) c.d) _ _ (λ t. refl)
      (λ t. if-cases (λ a. ends_read (due_awaited a) ≡ suc e) (ltb (k + 1) c.d) _ _ (λ u. refl)
      (λ u. if-cases (λ a. ends_read (due_awaited a) ≡ suc e) (ltb (e + 1) p) _ _ (λ v. omega arith)
      (λ v. let z : is_last_due c p (edge-weight e k l) ≡ true =
      simp tests ((omega (arith, nltb→le (e + 1) p v), omega (arith, nltb→le (k + 1) c.d u)), omega (arith, nltb→le (l + 1) c.d t)) in
      absurd (true≢false (sym z ∙ more)))))

  pub join-limited : c.n < (rules_of c).variables → 1 ≤ c.d → c.d ≤ (rules_of c).values → c.m + p ≤ (rules_of c).edges → SizesLimited (join_sizes c p)
  join-limited most some d room = sizes-few (join_sizes c p) (omega arith) some d (omega arith)

  module _ (limited : SizesLimited (join_sizes c p)) (due : Awaited) (q : ℕ) (h : IsDue 1 c.d p (due_awaited due))
      (at : rank 1 c.d p (due_awaited due) ≡ q) (more : is_last_due c p (due_awaited due) ≡ false) where
    abbrev later : CaseDue
    later = due_awaited (next_due (join_sizes c p) due)

    -- the line due next
    pub due-next : IsDue 1 c.d p later × (rank 1 c.d p later ≡ suc q) × (ends_read later ≡ ends_after (due_awaited due))
    due-next =
        let n : suc q ≢ join_lines c p = λ e. true≢false (sym ((last-due limited.some-value (due_awaited due) h).1 (rw at e)) ∙ more) in
        let (u, s) = of-line (next_due (join_sizes c p) due) (q + 1) (next-at (join_sizes c p) limited due q (rw at at (at-line due h))
        (omega (arith, rank_below 1 c.d p (due_awaited due) h))) in
        (u, omega arith, ends_next due h more)

  pub first-due : due_awaited (first_due (join_sizes c p)) ≡ variable-weight 0 0
  first-due = refl

  pub first-rank : 1 ≤ c.d → IsDue 1 c.d p (variable-weight 0 0) × (rank 1 c.d p (variable-weight 0 0) ≡ 0)
  first-rank some = ((omega arith, some), omega arith)

  -- the store holds 0 past the weights read
  module _ (w₀ : List ℤ) (t : Line) (y : CaseDue) (v : IsDue 1 c.d p y) where
    zeros-next : (q : ℕ) → weights_read c p y ≡ suc q → T (zeros_from (own_length c + q) w₀)
        → T (zeros_from (own_length c + weights_read c p y) (set w₀ (own_length c + q) (weight_in t)))
    zeros-next q e zeros = zeros_by (own_length c + weights_read c p y) (set w₀ (own_length c + q) (weight_in t)) (λ i h.
        get_or-set_other w₀ (own_length c + q) i (weight_in t) (pos 0) (λ s. omega arith) ∙ zeros-at (own_length c + q) w₀ zeros i (omega arith))

    pub waits-zeros : (x : CaseDue) → IsDue 1 c.d p x → rank 1 c.d p y ≡ suc (rank 1 c.d p x) → ends_read y ≡ ends_after x
        → T (zeros_from (own_length c + weights_read c p x) w₀) → T (zeros_from (own_length c + weights_read c p y) (weight_waits c w₀ p x t))
    waits-zeros (variable-weight i k) u next ends =
        zeros-next (weights_read c p (variable-weight i k)) (omega (arith, rank-read (variable-weight i k) u, rank-read y v))
    waits-zeros (edge-ends e) u next ends =
        let s : weights_read c p y ≡ weights_read c p (edge-ends e) = omega (arith, rank-read (edge-ends e) u, rank-read y v) in
        subst (λ (q : ℕ). T (zeros_from (own_length c + q) w₀)) (sym s)
    waits-zeros (edge-weight e k l) u next ends =
        zeros-next (weights_read c p (edge-weight e k l)) (omega (arith, rank-read (edge-weight e k l) u, rank-read y v))
