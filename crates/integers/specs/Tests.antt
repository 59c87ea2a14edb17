-- What a test says: a Boolean that is true, its parts, and the tests of natural numbers. Assumes nothing.
use Rattle.std.specs.Prelude.{◌≡◌, refl, Bool, true, false, not, ◌&&◌, ◌||◌, ◌≢◌, ◌↔◌, ◌⊎◌, ℕ, ◌≤◌, ◌<◌, T, leb, eqb, if◌then◌else◌}
use Rattle.std.proofs.Common.{sym, subst, inl, inr, leb→le, le→leb, eqb→eq, T_not, arith}
use Rattle.std.proofs.Math.Dec.{nleb→lt, eqb_refl, not_T}
use Rattle.integers.specs.Words.{◌⇒◌}

-- ---- true and false
pub is_true : (b : Bool) → T b → b ≡ true
is_true true t = refl
is_true false t = absurd t

pub true-is : (b : Bool) → b ≡ true → T b
true-is b e = subst T (sym e) tt

pub is_false : (b : Bool) → T (not b) → b ≡ false
is_false true t = absurd t
is_false false t = refl

pub false-is : (b : Bool) → b ≡ false → T (not b)
false-is b e = subst (λ (t : Bool). T (not t)) (sym e) tt

pub either : (b : Bool) → T b ⊎ T (not b)
either true = inl tt
either false = inr tt

-- tests that pass together are equal
pub same_test : (a b : Bool) → (T a → T b) → (T b → T a) → a ≡ b
same_test true b f g = sym (is_true b (f tt))
same_test false b f g = sym (is_false b (not_T b g))

module _ {A : Type 0} (x y : A) where
  pub if-true : (b : Bool) → T b → (if b then x else y) ≡ x
  if-true true t = refl
  if-true false t = absurd t

  pub if-false : (b : Bool) → T (not b) → (if b then x else y) ≡ y
  if-false true t = absurd t
  if-false false t = refl

-- a property of both branches
pub if-cases {ℓ} : {A : Type 0} (P : A → Type ℓ) (b : Bool) (x y : A) → (T b → P x) → (T (not b) → P y) → P (if b then x else y)
if-cases P true x y f g = f tt
if-cases P false x y f g = g tt

-- ---- parts
pub and_intro : (a b : Bool) → T a → T b → T (a && b)
and_intro true b s t = t
and_intro false b s t = s

pub and_left : (a b : Bool) → T (a && b) → T a
and_left true b t = tt
and_left false b t = t

pub and_right : (a b : Bool) → T (a && b) → T b
and_right true b t = t
and_right false b t = absurd t

pub or_left : (a b : Bool) → T a → T (a || b)
or_left true b t = tt
or_left false b t = absurd t

pub or_right : (a b : Bool) → T b → T (a || b)
or_right true b t = tt
or_right false b t = t

pub or_cases : (a b : Bool) → T (a || b) → T a ⊎ T b
or_cases true b t = inl tt
or_cases false b t = inr t

pub imp_intro : (a b : Bool) → (T a → T b) → T (a ⇒ b)
imp_intro true b f = f tt
imp_intro false b f = tt

pub imp_elim : (a b : Bool) → T (a ⇒ b) → T a → T b
imp_elim true b t s = t
imp_elim false b t s = absurd s

-- ---- the same as equivalences: `simp tests` turns a test into what it says
pub true-iff : (b : Bool) → b ≡ true ↔ T b
true-iff b = (true-is b, is_true b)

pub false-iff : (b : Bool) → b ≡ false ↔ T (not b)
false-iff b = (false-is b, is_false b)

pub and-iff : (a b : Bool) → T (a && b) ↔ T a × T b
and-iff a b = (λ t. (and_left a b t, and_right a b t), λ p. and_intro a b p.0 p.1)

pub imp-iff : (a b : Bool) → T (a ⇒ b) ↔ (T a → T b)
imp-iff a b = (imp_elim a b, imp_intro a b)

pub not-or-iff : (a b : Bool) → T (not (a || b)) ↔ T (not a) × T (not b)
not-or-iff true b = (λ t. absurd t, λ p. p.0)
not-or-iff false b = (λ t. (tt, t), λ p. p.1)

pub not-not-iff : (a : Bool) → T (not (not a)) ↔ T a
not-not-iff true = (λ t. t, λ t. t)
not-not-iff false = (λ t. t, λ t. t)

pub leb-iff : (m n : ℕ) → T (leb m n) ↔ m ≤ n
leb-iff m n = (leb→le m n, le→leb m n)

pub not-leb-iff : (m n : ℕ) → T (not (leb m n)) ↔ n < m
not-leb-iff m n = (nleb→lt m n, λ h. not_T (leb m n) (λ t. let k : m ≤ n = leb→le m n t in omega arith))

pub eqb-iff : (m n : ℕ) → T (eqb m n) ↔ m ≡ n
eqb-iff m n = (eqb→eq m n, λ e. subst (λ (k : ℕ). T (eqb m k)) e (eqb_refl m))

pub not-eqb-iff : (m n : ℕ) → T (not (eqb m n)) ↔ m ≢ n
not-eqb-iff m n = (λ t e. T_not (eqb m n) t ((eqb-iff m n).1 e), λ f. not_T (eqb m n) (λ t. f (eqb→eq m n t)))

pub ruleset tests = (true-iff, false-iff, and-iff, imp-iff, not-or-iff, not-not-iff, leb-iff, not-leb-iff, eqb-iff, not-eqb-iff)
