-- Linear arithmetic over ℤ by omega, which reads only natural numbers: `up z` and `dn z` are z's part above 0 and its part below 0.
--     omega zs                        a goal a ≤ℤ b, a <ℤ b or a ≡ b without sums, or one of natural numbers
--     simp flat (omega zs)            also with sums, differences, negatives and tests at any depth, in the goal and in what it takes by `→`
--     h ▸ k ▸ simp flat (omega zs)    the same from h and k, hypotheses or proofs, which are taken apart too
-- A hypothesis that is not handed over so is read if it is an order with at most one sum, difference or negative on each side, an equation with
-- one on one side, or a test without sums; what stands deeper is named, `omega (zs, add a b)`. `zb` is `zs` for code.
-- In a clause that calls itself use a lemma over plain variables instead: such a clause is read twice, and a long proof there is slow.
-- Assumes nothing.
use Rattle.std.specs.Prelude.{◌≡◌, refl, Bool, not, cond, ◌≢◌, ◌↔◌, ℕ, zero, suc, ◌+◌, ◌-◌, ◌≤◌, ◌<◌, ◌^◌, max, ℤ, pos, negsuc, neg_ℤ, ◌+ℤ◌, ◌-ℤ◌, T, ltb, ◌≤ℤ◌, ◌<ℤ◌}
use Rattle.std.proofs.Common.{sym, ap, subst, ◌∙◌, T_not, ltb→lt, lt→ltb, leb→le, le→leb, nltb→le, to_z-of_z}
use Rattle.std.proofs.Math.Bool.{true, false}
use native.Mathlib.Omega.{arith}
use Rattle.std.proofs.Math.IntN.{sub_ℕ}
use Rattle.std.proofs.Math.Dec.{not_T}
use Rattle.std.specs.Int.Signed.{mag, lt_z, le_z}
use Rattle.std.specs.Int.{Width, w64}
use mir.Val.{SFits, hbits, to_z, of_z}
use Rattle.integers.specs.Words.{eq_z, within_z}
use Rattle.integers.specs.Tests.{tests, eqb-iff, is_true, is_false}

abbrev pub up : ℤ → ℕ
up (pos n) = n
up (negsuc n) = 0

abbrev pub dn : ℤ → ℕ
dn (pos n) = 0
dn (negsuc n) = suc n

-- the goal follows from a
infixr 5 ◌▸◌
pub ◌▸◌ {ℓ} : {A : Type 0} {B : Type ℓ} → A → (A → B) → B
a ▸ f = f a

-- ---- sums and negatives
cond_of : (b : Bool) (x y : ℤ) (p n : ℕ) → (T b → up x + n ≡ dn x + p) → (T (not b) → up y + n ≡ dn y + p) → up (cond b x y) + n ≡ dn (cond b x y) + p
cond_of true x y p n f g = f tt
cond_of false x y p n f g = g tt

diff : (a b : ℕ) → up (sub_ℕ a b) + b ≡ dn (sub_ℕ a b) + a
diff a b = cond_of (ltb a b) (negsuc (b - suc a)) (pos (a - b)) a b
    (λ t. omega (arith, ltb→lt a b t)) (λ t. omega (arith, nltb→le a b t))

pub add : (a b : ℤ) → up (a +ℤ b) + (dn a + dn b) ≡ dn (a +ℤ b) + (up a + up b)
add (pos a) (pos b) = omega arith
add (pos a) (negsuc b) = omega (arith, diff a (suc b))
add (negsuc a) (pos b) = omega (arith, diff b (suc a))
add (negsuc a) (negsuc b) = omega arith

pub neg : (a : ℤ) → up (neg_ℤ a) + up a ≡ dn (neg_ℤ a) + dn a
neg (pos zero) = refl
neg (pos (suc n)) = omega arith
neg (negsuc n) = omega arith

pub sub : (a b : ℤ) → up (a -ℤ b) + (dn a + up b) ≡ dn (a -ℤ b) + (up a + dn b)
sub a b = omega (arith, add a (neg_ℤ b), neg b)

-- ---- the order and equality
pub T-le : (a b : ℤ) → T (le_z a b) → up a + dn b ≤ up b + dn a
T-le (pos a) (pos b) t = omega (arith, leb→le a b t)
T-le (pos a) (negsuc b) t = absurd t
T-le (negsuc a) (pos b) t = omega arith
T-le (negsuc a) (negsuc b) t = omega (arith, leb→le b a t)

pub T-lt : (a b : ℤ) → T (lt_z a b) → up a + dn b < up b + dn a
T-lt (pos a) (pos b) t = omega (arith, ltb→lt a b t)
T-lt (pos a) (negsuc b) t = absurd t
T-lt (negsuc a) (pos b) t = omega arith
T-lt (negsuc a) (negsuc b) t = omega (arith, ltb→lt b a t)

pub le_T : (a b : ℤ) → up a + dn b ≤ up b + dn a → T (le_z a b)
le_T (pos a) (pos b) t = le→leb a b (omega arith)
le_T (pos a) (negsuc b) t = absurd (omega arith)
le_T (negsuc a) (pos b) t = tt
le_T (negsuc a) (negsuc b) t = le→leb b a (omega arith)

pub lt_T : (a b : ℤ) → up a + dn b < up b + dn a → T (lt_z a b)
lt_T (pos a) (pos b) t = lt→ltb a b (omega arith)
lt_T (pos a) (negsuc b) t = absurd (omega arith)
lt_T (negsuc a) (pos b) t = tt
lt_T (negsuc a) (negsuc b) t = lt→ltb b a (omega arith)

pub T-not-le : (a b : ℤ) → T (not (le_z a b)) → up b + dn a < up a + dn b
T-not-le a b t = let n : ¬ (up a + dn b ≤ up b + dn a) = λ h. T_not (le_z a b) t (le_T a b h) in omega arith

pub T-not-lt : (a b : ℤ) → T (not (lt_z a b)) → up b + dn a ≤ up a + dn b
T-not-lt a b t = let n : ¬ (up a + dn b < up b + dn a) = λ h. T_not (lt_z a b) t (lt_T a b h) in omega arith

not-le-T : (a b : ℤ) → up b + dn a < up a + dn b → T (not (le_z a b))
not-le-T a b h = not_T (le_z a b) (λ t. omega (arith, T-le a b t))

not-lt-T : (a b : ℤ) → up b + dn a ≤ up a + dn b → T (not (lt_z a b))
not-lt-T a b h = not_T (lt_z a b) (λ t. omega (arith, T-lt a b t))

pub →eq : {a b : ℤ} → up a + dn b ≡ up b + dn a → a ≡ b
→eq {a = pos a} {b = pos b} t = ap pos (omega arith)
→eq {a = pos a} {b = negsuc b} t = absurd (omega arith)
→eq {a = negsuc a} {b = pos b} t = absurd (omega arith)
→eq {a = negsuc a} {b = negsuc b} t = ap negsuc (omega arith)

pub eq→ : {a b : ℤ} → a ≡ b → up a + dn b ≡ up b + dn a
eq→ {a} {b} h = subst (λ (x : ℤ). up a + dn x ≡ up x + dn a) h refl

pub T-eq : (a b : ℤ) → T (eq_z a b) ↔ a ≡ b
T-eq (pos a) (pos b) = (λ t. ap pos ((eqb-iff a b).0 t), λ e. (eqb-iff a b).1 (omega (arith, eq→ e)))
T-eq (pos a) (negsuc b) = (λ t. absurd t, λ e. absurd (omega (arith, eq→ e)))
T-eq (negsuc a) (pos b) = (λ t. absurd t, λ e. absurd (omega (arith, eq→ e)))
T-eq (negsuc a) (negsuc b) = (λ t. ap negsuc ((eqb-iff a b).0 t), λ e. (eqb-iff a b).1 (omega (arith, eq→ e)))

-- ---- sums of any depth, as lists of terms with signs
pub data Terms : Type 0 where
  end : Terms
  term : Bool → ℤ → Terms → Terms

abbrev pub part : Bool → ℤ → ℕ
part true z = up z
part false z = dn z

above : Terms → ℕ
above end = 0
above (term s z ts) = part s z + above ts

under : Terms → ℕ
under end = 0
under (term s z ts) = part (not s) z + under ts

-- the terms and p come to at most q
pub Most : Terms → ℕ → ℕ → Type 0
Most ts p q = above ts + p ≤ under ts + q

abbrev pub minus-of : ℤ → ℤ → Terms
minus-of a b = term true a (term false b end)

module _ (ts : Terms) (p q : ℕ) where
  pub f-add : (s : Bool) (a b : ℤ) → Most (term s (a +ℤ b) ts) p q ↔ Most (term s a (term s b ts)) p q
  unfolding Most above under
  f-add true a b = omega (arith, add a b)
  f-add false a b = omega (arith, add a b)

  pub f-neg : (s : Bool) (a : ℤ) → Most (term s (neg_ℤ a) ts) p q ↔ Most (term (not s) a ts) p q
  unfolding Most above under
  f-neg true a = omega (arith, neg a)
  f-neg false a = omega (arith, neg a)

  pub f-atom : (s : Bool) (a : ℤ) → Most (term s a ts) p q ↔ Most ts (p + part s a) (q + part (not s) a)
  unfolding Most above under
  f-atom s a = omega arith

pub f-end : (p q : ℕ) → Most end p q ↔ p ≤ q
unfolding Most above under
f-end p q = omega arith

module _ (a b : ℤ) where
  pub f-T-le : T (le_z a b) ↔ Most (minus-of a b) 0 0
  unfolding Most above under
  f-T-le = omega (arith, T-le, le_T)

  pub f-T-lt : T (lt_z a b) ↔ Most (minus-of a b) 1 0
  unfolding Most above under
  f-T-lt = omega (arith, T-lt, lt_T)

  pub f-not-le : T (not (le_z a b)) ↔ Most (minus-of b a) 1 0
  unfolding Most above under
  f-not-le = omega (arith, T-not-le, not-le-T)

  pub f-not-lt : T (not (lt_z a b)) ↔ Most (minus-of b a) 0 0
  unfolding Most above under
  f-not-lt = omega (arith, T-not-lt, not-lt-T)

  pub f-le : a ≤ℤ b ↔ Most (minus-of a b) 0 0
  unfolding Most above under
  f-le = omega (arith, T-le, le_T)

  pub f_lt : a <ℤ b ↔ Most (minus-of a b) 1 0
  unfolding Most above under
  f_lt = omega (arith, T-lt, lt_T)

  pub f-eq : a ≡ b ↔ Most (minus-of a b) 0 0 × Most (minus-of b a) 0 0
  unfolding Most above under
  f-eq = omega (arith, eq→, →eq)

pub f-not-eq : (a b : ℤ) → T (not (eq_z a b)) ↔ up a + dn b ≢ up b + dn a
f-not-eq a b = (λ t e. T_not (eq_z a b) t ((T-eq a b).1 (→eq e)), λ n. not_T (eq_z a b) (λ t. n (eq→ ((T-eq a b).0 t))))

pub f-fits : (w : Width) (z : ℤ) → SFits w z ↔ Most (term true z end) 1 (2 ^ hbits w) × Most (term false z end) 0 (2 ^ hbits w)
unfolding Most above under
f-fits w (pos n) = (λ h. omega (arith, h.sfits), λ m. record { sfits = omega arith })
f-fits w (negsuc n) = (λ h. omega (arith, h.sfits), λ m. record { sfits = omega arith })

pub ruleset flat = (f-le, f_lt, f-eq, f-T-le, f-T-lt, f-not-le, f-not-lt, T-eq, f-not-eq, f-fits, f-add, f-neg, f-atom, f-end, tests)

-- ---- hypotheses as omega reads them: the order with its left side taken apart, and then a sum on the right, from the field
pub le→ : {a b : ℤ} → a ≤ℤ b → up a + dn b ≤ up b + dn a
le→ {a} {b} h = T-le a b h.le

pub lt→ : {a b : ℤ} → a <ℤ b → up a + dn b < up b + dn a
lt→ {a} {b} h = T-lt a b h.lt

module _ (a b c : ℤ) where
  pub le-add : (a +ℤ b) ≤ℤ c → up a + up b + dn c ≤ up c + dn a + dn b
  le-add = simp flat (omega arith)

  pub le-sub : (a -ℤ b) ≤ℤ c → up a + dn b + dn c ≤ up c + dn a + up b
  le-sub = simp flat (omega arith)

  pub lt-add : (a +ℤ b) <ℤ c → up a + up b + dn c < up c + dn a + dn b
  lt-add = simp flat (omega arith)

  pub lt-sub : (a -ℤ b) <ℤ c → up a + dn b + dn c < up c + dn a + up b
  lt-sub = simp flat (omega arith)

  pub eq-add : a +ℤ b ≡ c → up a + up b + dn c ≡ up c + dn a + dn b
  eq-add = simp flat (omega arith)

  pub eq-sub : a -ℤ b ≡ c → up a + dn b + dn c ≡ up c + dn a + up b
  eq-sub = simp flat (omega arith)

  pub add-eq : c ≡ a +ℤ b → up a + up b + dn c ≡ up c + dn a + dn b
  add-eq = simp flat (omega arith)

  pub sub-eq : c ≡ a -ℤ b → up a + dn b + dn c ≡ up c + dn a + up b
  sub-eq = simp flat (omega arith)

  pub T-le-add : T (le_z c (a +ℤ b)) → up (a +ℤ b) + (dn a + dn b) ≡ dn (a +ℤ b) + (up a + up b)
  T-le-add t = add a b

  pub T-le-sub : T (le_z c (a -ℤ b)) → up (a -ℤ b) + (dn a + up b) ≡ dn (a -ℤ b) + (up a + dn b)
  T-le-sub t = sub a b

  pub T-lt-add : T (lt_z c (a +ℤ b)) → up (a +ℤ b) + (dn a + dn b) ≡ dn (a +ℤ b) + (up a + up b)
  T-lt-add t = add a b

  pub T-lt-sub : T (lt_z c (a -ℤ b)) → up (a -ℤ b) + (dn a + up b) ≡ dn (a -ℤ b) + (up a + dn b)
  T-lt-sub t = sub a b

module _ (a c : ℤ) where
  pub le-neg : neg_ℤ a ≤ℤ c → dn a + dn c ≤ up c + up a
  le-neg = simp flat (omega arith)

  pub lt-neg : neg_ℤ a <ℤ c → dn a + dn c < up c + up a
  lt-neg = simp flat (omega arith)

  pub neg-eq : c ≡ neg_ℤ a → up a + up c ≡ dn a + dn c
  neg-eq = simp flat (omega arith)

  pub T-le-neg : T (le_z c (neg_ℤ a)) → up (neg_ℤ a) + up a ≡ dn (neg_ℤ a) + dn a
  T-le-neg t = neg a

  pub T-lt-neg : T (lt_z c (neg_ℤ a)) → up (neg_ℤ a) + up a ≡ dn (neg_ℤ a) + dn a
  T-lt-neg t = neg a

-- the tests, and the range of a code's signed number
module _ (a b : ℤ) where
  pub le-true : le_z a b ≡ true → up a + dn b ≤ up b + dn a
  le-true = simp flat (omega arith)

  pub le-false : le_z a b ≡ false → up b + dn a < up a + dn b
  le-false = simp flat (omega arith)

  pub lt-true : lt_z a b ≡ true → up a + dn b < up b + dn a
  lt-true = simp flat (omega arith)

  pub lt-false : lt_z a b ≡ false → up b + dn a ≤ up a + dn b
  lt-false = simp flat (omega arith)

  pub eq-true : eq_z a b ≡ true → up a + dn b ≡ up b + dn a
  eq-true = simp flat (omega arith)

  pub eq-false : eq_z a b ≡ false → up a + dn b ≢ up b + dn a
  eq-false = simp tests (f-not-eq a b).0

  pub T-within : (z : ℤ) → T (within_z a b z) → max (up a + dn z + (up b + dn z)) (up z + dn b + (up z + dn a)) ≤ up z + dn a + (up b + dn z)
  T-within z = simp flat (omega arith)

pub fits→ : {w : Width} {z : ℤ} → SFits w z → up z + dn z ≤ 2 ^ hbits w
fits→ {w} {z = pos n} h = omega (arith, h.sfits)
fits→ {w} {z = negsuc n} h = omega (arith, h.sfits)

pub ruleset zs = (
  arith,
  le-sub,
  le-add,
  le-neg,
  le→,
  lt-sub,
  lt-add,
  lt-neg,
  lt→,
  eq-sub,
  eq-add,
  sub-eq,
  add-eq,
  neg-eq,
  eq→,
  T-within,
  T-le-sub,
  T-le-add,
  T-le-neg,
  T-le,
  T-lt-sub,
  T-lt-add,
  T-lt-neg,
  T-lt,
  T-not-le,
  T-not-lt,
  le-true,
  le-false,
  lt-true,
  lt-false,
  eq-true,
  eq-false,
  fits→,
  le_T,
  lt_T,
  →eq,
)

-- ---- over code: a number that fits is what its bits read back as; `zb` reads that in place of its range
pub back : {w : Width} {z : ℤ} → SFits w z → up (to_z w (of_z w z)) + dn z ≡ up z + dn (to_z w (of_z w z))
back h = eq→ (to_z-of_z h)

module _ (w : Width) (a b : ℤ) where
  pub back-add : SFits w (a +ℤ b) → up (to_z w (of_z w (a +ℤ b))) + (dn a + dn b) ≡ up a + up b + dn (to_z w (of_z w (a +ℤ b)))
  back-add h = omega (arith, back h, add a b)

  pub back-sub : SFits w (a -ℤ b) → up (to_z w (of_z w (a -ℤ b))) + (dn a + up b) ≡ up a + dn b + dn (to_z w (of_z w (a -ℤ b)))
  back-sub h = omega (arith, back h, sub a b)

-- the same from the range as a struct's field has it
pub read_back : (w : Width) (z : ℤ) → mag z < 2 ^ hbits w → to_z w (of_z w z) ≡ z
read_back w z h = to_z-of_z (record { sfits = h })

pub ruleset zb = (back-sub, back-add, back, zs)

-- ---- laws to cite by name
module _ {a b : ℤ} where
  pub ≤ℤ-of-eq : a ≡ b → a ≤ℤ b
  ≤ℤ-of-eq e = omega zs

  pub ≤ℤ-antisym : a ≤ℤ b → b ≤ℤ a → a ≡ b
  ≤ℤ-antisym h k = omega zs

  pub ≤ℤ-trans : {c : ℤ} → a ≤ℤ b → b ≤ℤ c → a ≤ℤ c
  ≤ℤ-trans h k = omega zs

-- ---- examples
nested : (a b c d e f : ℤ) → ((a +ℤ b) -ℤ (c +ℤ d)) ≤ℤ (e +ℤ f) → b ≡ pos 4 -ℤ c → (a +ℤ pos 4) ≤ℤ ((e +ℤ f +ℤ c +ℤ c) -ℤ neg_ℤ d)
nested a b c d e f h k = h ▸ simp flat (omega zs)

-- numbers are equal just where their bits are
module _ (a b : ℤ) (p : mag a < 2 ^ hbits w64) (q : mag b < 2 ^ hbits w64) where
  pub same_bits : of_z w64 a ≡ of_z w64 b → true ≡ eq_z a b
  same_bits e = sym (is_true (eq_z a b) ((T-eq a b).1 (sym (read_back w64 a p) ∙ ap (to_z w64) e ∙ read_back w64 b q)))

  pub other-bits : (of_z w64 a ≡ of_z w64 b → ⊥) → false ≡ eq_z a b
  other-bits f = sym (is_false (eq_z a b) (not_T (eq_z a b) (λ t. f (ap (of_z w64) ((T-eq a b).0 t)))))
