-- A table of the grown case, by what stands at each place. Assumes nothing.
use mathlib.Core.Path.{◌≡◌, refl, sym, ap, subst, ◌∙◌}
use mathlib.Core.Bool.{true}
use mathlib.Core.Logic.{⊎_elim}
use mathlib.Core.List.{List}
use Prim.Native.Nat.{ℕ, suc, ◌+◌, ◌*◌, ◌-◌, ◌≤◌, ◌<◌}
use native.Mathlib.Nat.{mul-le-mul_right}
use native.Mathlib.Omega.{arith}
use lib.IntN.{ℤ, pos}
use lib.Dec.{eqb, ltb, leb, ltb→lt, nltb→le, le→leb}
use lib.ListN.{length, get_or}
use Rattle.std.specs.Prelude.{if◌then◌else◌}
use Rattle.integers.specs.Tests.{either, is_true, or_right, eqb-iff}
use Rattle.definitions.specs.declared.Case.{Case}
use Rattle.definitions.specs.Case.{place, own_length, weight}
use Rattle.definitions.specs.Moves.{Difference}
use Rattle.logs.specs.Join.{is_new, scope_ungrown, grown_table}
use Rattle.logs.specs.Waiting.{grown_with}
use Rattle.theory.proofs.Places.{IsTuple, by-tuple, variable-tuple, edge-tuple, place-variable, place-edge, same-table}
use Rattle.theory.proofs.Join.{grown_scope, grown-variable, edge-up, old-scope}
use Rattle.theory.proofs.Full.{full-weight, full-long, full-past}
use Rattle.case_theory.proofs.Zeroed.{zeros-at}
use Rattle.definitions.proofs.CaseLaws.{place-own}

module _ (c : Case) where
  new-variable : is_new c c.n ≡ true
  new-variable = rw (is_true (eqb c.n c.n) ((eqb-iff c.n c.n).1 refl))

  new-edge : (e : ℕ) → is_new c (c.n + 1 + (c.m + e)) ≡ true
  new-edge e =
      let y : ℕ = c.n + 1 + (c.m + e) in
      is_true (is_new c y) (or_right (eqb y c.n) (leb (c.n + 1 + c.m) y) (le→leb (c.n + 1 + c.m) y (omega arith)))

-- the place of a tuple of edge e among the edges' weights
abbrev pub among_edges : Case → ℕ → ℕ → ℕ → ℕ
among_edges c e k l = e * (c.d * c.d) + (k * c.d + l)

-- t holds the weights of w where the scopes before lie in the grown case, those of f at the new scopes, and 0 past them
pub record Placed (c : Case) (p : ℕ) (w : List ℤ) (f : Difference) (t : List ℤ) : Type 0 where
  pub long : length t ≡ length w
  pub variables : (q : ℕ) → q < c.n * c.d → get_or t q (pos 0) ≡ get_or w q (pos 0)
  pub new-variable : (k : ℕ) → k < c.d → get_or t (c.n * c.d + k) (pos 0) ≡ f c.n k 0
  pub edges : (q : ℕ) → q < c.m * (c.d * c.d) → get_or t (c.n * c.d + c.d + q) (pos 0) ≡ get_or w (c.n * c.d + q) (pos 0)
  pub new-edges : (e k l : ℕ) → e < p → k < c.d → l < c.d
      → get_or t (own_length c + c.d + among_edges c e k l) (pos 0) ≡ f (c.n + 1 + (c.m + e)) k l
  pub past : (q : ℕ) → own_length c + c.d + p * (c.d * c.d) ≤ q → get_or t q (pos 0) ≡ pos 0

module _ (c : Case) (p : ℕ) (lower : List ℕ) where
  abbrev g : Case
  g = grown_with c p lower

  pub grown-own : own_length g ≡ own_length c + c.d + p * (c.d * c.d)
  grown-own = omega arith

  pub grown-variable-place : (k : ℕ) → place g c.n k 0 ≡ c.n * c.d + k
  grown-variable-place k = place-variable g c.n k 0 (omega arith)

  pub grown-edge-place : (e k l : ℕ) → place g (c.n + 1 + (c.m + e)) k l ≡ own_length c + c.d + among_edges c e k l
  grown-edge-place e k l = place-edge g (c.m + e) k l ∙ omega arith

  module _ (w t : List ℤ) (f : Difference) (fits : own_length g ≤ length w) (h : Placed c p w f t) where
    abbrev grown : List ℤ
    grown = grown_table c g w f

    abbrev weights : Difference
    weights y k l = if is_new c y then f y k l else weight c w (scope_ungrown c y) k l

    -- a tuple of the case before, and one of a new scope
    old-same : {x k l : ℕ} → IsTuple c x k l → IsTuple g (grown_scope c x) k l → weight g t (grown_scope c x) k l ≡ weight c w x k l
        → weight g t (grown_scope c x) k l ≡ weight g grown (grown_scope c x) k l
    old-same {x} {k} {l} i j e = let (a, b) = old-scope c x i.scope in e ∙ sym (full-weight g weights w j ∙ rw (a, b))

    new-same : {y k l : ℕ} → is_new c y ≡ true → IsTuple g y k l → weight g t y k l ≡ f y k l → weight g t y k l ≡ weight g grown y k l
    new-same {y} {k} {l} a j e = e ∙ sym (full-weight g weights w j ∙ rw a)

    at-variable : (j k : ℕ) → j < g.n → k < c.d → weight g t j k 0 ≡ weight g grown j k 0
    at-variable j k u v = ⊎_elim
        (λ b. let o = ltb→lt j c.n b in
        subst (λ (y : ℕ). weight g t y k 0 ≡ weight g grown y k 0) (grown-variable c o)
        (old-same (variable-tuple c j k o v) (rw (grown-variable c o) (variable-tuple g j k u v))
        (ap (λ (q : ℕ). get_or t q (pos 0)) (ap (λ (y : ℕ). place g y k 0) (grown-variable c o) ∙ place-variable g j k 0 u)
        ∙ h.variables (j * c.d + k) (omega (arith, mul-le-mul_right {m = suc j} {n = c.n} c.d o))
        ∙ ap (λ (q : ℕ). get_or w q (pos 0)) (sym (place-variable c j k 0 o)))))
        (λ b. let o : c.n ≤ j = nltb→le j c.n b in
        let e : c.n ≡ j = omega arith in
        subst (λ (y : ℕ). weight g t y k 0 ≡ weight g grown y k 0) e
        (new-same (new-variable c) (variable-tuple g c.n k (omega arith) v)
        (ap (λ (q : ℕ). get_or t q (pos 0)) (grown-variable-place k) ∙ h.new-variable k v)))
        (either (ltb j c.n))

    at_edge : (e k l : ℕ) → e < c.m + p → k < c.d → l < c.d → weight g t (c.n + 1 + e) k l ≡ weight g grown (c.n + 1 + e) k l
    at_edge e k l u v z = ⊎_elim
        (λ b. let o = ltb→lt e c.m b in
        subst (λ (y : ℕ). weight g t y k l ≡ weight g grown y k l) (edge-up c e)
        (old-same (edge-tuple c e k l o v z) (rw (edge-up c e) (edge-tuple g e k l u v z))
        (ap (λ (q : ℕ). get_or t q (pos 0)) (ap (λ (y : ℕ). place g y k l) (edge-up c e) ∙ place-edge g e k l ∙ omega arith)
        ∙ h.edges (among_edges c e k l)
        (omega (arith, place-edge c e k l, place-own c (c.n + e) k l (omega arith) v z))
        ∙ ap (λ (q : ℕ). get_or w q (pos 0)) (sym (place-edge c e k l)))))
        (λ b.
        let o : c.m ≤ e = nltb→le e c.m b in
        let i : ℕ = e - c.m in
        let d : c.n + 1 + (c.m + i) ≡ c.n + 1 + e = omega arith in
        subst (λ (y : ℕ). weight g t y k l ≡ weight g grown y k l) d
        (new-same (new-edge c i) (edge-tuple g (c.m + i) k l (omega arith) v z)
        (ap (λ (q : ℕ). get_or t q (pos 0)) (grown-edge-place i k l) ∙ h.new-edges i k l (omega arith) v z)))
        (either (ltb e c.m))

    pub grown-placed : t ≡ grown_table c g w f
    grown-placed = same-table g t grown (h.long ∙ sym (full-long g weights w fits))
        (λ x k l i. by-tuple g (λ x k l. weight g t x k l ≡ weight g grown x k l) at-variable at_edge i)
        (λ q l. h.past q (omega (arith, grown-own)) ∙ sym (zeros-at (own_length g) grown (full-past g weights w) q l))
