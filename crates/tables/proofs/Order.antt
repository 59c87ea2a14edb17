-- What a check that passed says, and products within the limits. Assumes nothing.
use mathlib.Core.Path.{◌≡◌, refl, sym, ap}
use mathlib.Core.Bool.{Bool, true, false, not}
use mathlib.Core.List.{List, [], ◌∷◌, ◌++◌}
use Prim.Native.Nat.{ℕ, ◌*◌, ◌≤◌}
use native.Mathlib.Nat.{mul-le-mul}
use native.Mathlib.Omega.{arith}
use lib.IntN.{ℤ}
use lib.Dec.{T}
use lib.ListN.{length}
use Rattle.std.specs.Prelude.{if◌then◌else◌, Ok, Err, Option, Some, None}
use Rattle.integers.specs.Tests.{tests}
use Rattle.definitions.specs.declared.Case.{Case}
use Rattle.definitions.specs.declared.Refusal.{Refusal}
use Rattle.definitions.specs.Rules.{Coherent, coherent, rules_of, edge_places}
use Rattle.definitions.specs.Refusals.{Test, first_refusal}
use Rattle.definitions.specs.Answers.{outcome_of}
use Rattle.definitions.specs.Case.{own_length, lent_length}
use Rattle.definitions.specs.Valid.{within_limits}
use Rattle.theory.proofs.Words.{none_below}
use Rattle.theory.proofs.Validity.{own-lent, none-applies, not-and-iff}
use Rattle.tables.specs.Scopes.{Limited, front_tests, is_sized}

-- with the bounds that coherent rules give
module _ (c : Case) where
  limits : Coherent (rules_of c)
  limits = coherent c.rulebook

  pub limited-by : 1 ≤ c.n → c.n ≤ (rules_of c).variables → 1 ≤ c.d → c.d ≤ (rules_of c).values → c.m ≤ (rules_of c).edges → Limited c
  limited-by p q s t v = record {
    some-variable = p;
    variables = q;
    some-value = s;
    values = t;
    edges = v;
    variables-few = omega (arith, limits.variables-few);
    values-few = omega (arith, limits.values-few);
    variables-placed = omega (arith, limits.variables-placed);
    edges_placed = omega (arith, limits.edges_placed);
    scopes-placed = omega (arith, limits.scopes-placed);
    own-lent = own-lent (rules_of c) c q v;
  }

  pub limited : within_limits (rules_of c) c.n c.d c.m ≡ true → Limited c
  limited e =
      let (((p, q), (s, t)), (u, v)) = simp tests at e in
      limited-by p q s t v

  pub limits-hold : Limited c → within_limits (rules_of c) c.n c.d c.m ≡ true
  limits-hold l = simp tests (((l.some-variable, l.variables), (l.some-value, l.values)), (omega arith, l.edges))

  pub sized : (long : ℕ) → is_sized (rules_of c) c long ≡ true → Limited c × (long ≡ lent_length (rules_of c) c)
  sized long e =
      let ((((p, q), (s, t)), (u, v)), l) = simp tests at e in
      (limited-by p q s t v, l)

-- products within the limits
pub times-most : (a b m n : ℕ) → a ≤ m → b ≤ n → a * b ≤ m * n
times-most a b m n h k = mul-le-mul h k

module _ (c : Case) (l : Limited c) where
  -- a lent table has the case's own places
  pub own-places : (w : List ℤ) → length w ≡ lent_length (rules_of c) c → own_length c ≤ length w
  own-places w e = omega (arith, l.own-lent)

  pub full-variables : (rules_of c).variables * c.d ≤ 2048
  full-variables = mul-le-mul (coherent c.rulebook).variables-few l.values-few

  pub full-edges : (rules_of c).edges * (c.d * c.d) ≤ edge_places * 64
  full-edges = mul-le-mul (coherent c.rulebook).edges_placed (mul-le-mul l.values-few l.values-few)

  pub variables-small : c.n * c.d ≤ 2048
  variables-small = mul-le-mul l.variables-few l.values-few

  pub values-small : c.d * c.d ≤ 64
  values-small = mul-le-mul l.values-few l.values-few

  pub edges-small : c.m * (c.d * c.d) ≤ edge_places * 64
  edges-small = mul-le-mul l.edges_placed values-small

-- an outcome tells whether a refusal applies
pub outcome-done : {o : Option Refusal} → Ok tt ≡ outcome_of o → o ≡ None
outcome-done {o = None} e = refl
outcome-done {o = Some x} e = cc

pub outcome-refused : {o : Option Refusal} {x : Refusal} → Err x ≡ outcome_of o → o ≡ Some x
outcome-refused {o = None} e = cc
outcome-refused {o = Some y} e = cc

-- the tests of two lists, one after the other
module _ (us : List Test) where
  pub first_next : (ts : List Test) → first_refusal ts ≡ None → first_refusal (ts ++ us) ≡ first_refusal us
  first_next [] e = refl
  first_next (t ∷ ts) e = go t.applies e (first_next ts)
    where
      go : (b : Bool) → (if b then Some t.refusal else first_refusal ts) ≡ None → (first_refusal ts ≡ None → first_refusal (ts ++ us) ≡ first_refusal us)
          → (if b then Some t.refusal else first_refusal (ts ++ us)) ≡ first_refusal us
      go true e r = cc
      go false e r = r e

  pub first_stops : (ts : List Test) {x : Refusal} → first_refusal ts ≡ Some x → first_refusal (ts ++ us) ≡ Some x
  first_stops [] e = cc
  first_stops (t ∷ ts) {x} e = go t.applies e (λ d. first_stops ts d)
    where
      go : (b : Bool) → (if b then Some t.refusal else first_refusal ts) ≡ Some x → (first_refusal ts ≡ Some x → first_refusal (ts ++ us) ≡ Some x)
          → (if b then Some t.refusal else first_refusal (ts ++ us)) ≡ Some x
      go true e r = e
      go false e r = r e

-- what is left to ask once nothing applies of what is asked before the weights
module _ (c : Case) (long : ℕ) (wrong out : Bool) where
  abbrev fronts : List Test
  fronts = front_tests (rules_of c) c long wrong out

  pub front-known : Ok tt ≡ outcome_of (first_refusal fronts) → Limited c × (long ≡ lent_length (rules_of c) c) × T (not wrong)
  front-known e =
      let d : first_refusal fronts ≡ None = outcome-done e in
      let p = simp (tests, not-and-iff, none_below) at ((none-applies fronts).0 (rw d tt)) in
      (limited-by c p.0.0.0.0 p.0.0.0.1 p.0.0.1.0 p.0.0.1.1 p.0.1.1, p.1.0.0, p.1.0.1)

  module _ (us : List Test) where
    pub front-stops : {x : Refusal} → Err x ≡ outcome_of (first_refusal fronts) → Err x ≡ outcome_of (first_refusal (fronts ++ us))
    front-stops d = ap outcome_of (sym (first_stops us fronts (outcome-refused d)))

    pub front-passes : Ok tt ≡ outcome_of (first_refusal fronts) → outcome_of (first_refusal us) ≡ outcome_of (first_refusal (fronts ++ us))
    front-passes d = ap outcome_of (sym (first_next us fronts (outcome-done d)))
