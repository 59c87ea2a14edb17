-- Laws of marks. Those of a single byte are tests that antt computes over all of them. Assumes nothing.
use mathlib.Core.Path.{◌≡◌, refl, sym, ap, ap₂, subst, ◌∙◌}
use mathlib.Core.Bool.{Bool, true, false, not, ◌&&◌, ◌||◌}
use mathlib.Core.Logic.{⊎_elim}
use Prim.Native.Nat.{ℕ, zero, suc, ◌+◌, ◌-◌, ◌*◌, ◌/◌, ◌%◌, ◌^◌, ◌<◌, ◌≤◌}
use native.Mathlib.Nat.{div-eq_of_lt, div-div-eq-div-mul, div-one, pow-succ', lt_of_lt_of_le}
use native.Mathlib.Omega.{arith}
use lib.Dec.{T, T_not, ltb, eqb, eqb→eq, ltb→lt, lt→ltb, nltb→le}
use borrow.Author.Tests.{lt-ltb, le-ltb, ne_eqb}
use lib.Bits.{bit_and, bit_or, and_shr, and_mod, and_lt}
use lib.Count.{ones, ones_in, count_trailing_zeros}
use lib.ListN.{length}
use lib.Pow.{pow_mono, pow_pos}
use Rattle.std.specs.Prelude.{if◌then◌else◌}
use Rattle.integers.specs.Words.{below, all, ◌⇒◌, bits_of}
use Rattle.integers.specs.Tests.{either, is_true, eqb-iff, and_left, and_right, imp_elim, if-cases, same_test}
use Rattle.integers.specs.Lists.{all-at}
use Rattle.marks.specs.Marks.{mark, byte_of, members, lowest_of, is_single, without, added, pushed, only_of, full_of, in_both}

-- ---- the lowest mark, and the others
mark-first : (s : ℕ) → mark s 0 ≡ eqb (s % 2) 1
unfolding mark
mark-first s = ap (λ (x : ℕ). eqb (x % 2) 1) (div-one s)

mark-next : (s k : ℕ) → mark s (suc k) ≡ mark (s / 2) k
unfolding mark
mark-next s k = ap (λ (x : ℕ). eqb (x % 2) 1) (ap (λ (y : ℕ). s / y) (pow-succ' 2 k) ∙ sym (div-div-eq-div-mul s 2 (2 ^ k)))

first-of : (b : Bool) (x : ℕ) → eqb (((if b then 1 else 0) + 2 * x) % 2) 1 ≡ b
first-of true x = let e : (1 + 2 * x) % 2 ≡ 1 = omega arith in ap (λ (y : ℕ). eqb y 1) e
first-of false x = let e : (0 + 2 * x) % 2 ≡ 0 = omega arith in ap (λ (y : ℕ). eqb y 1) e

rest-of : (b : Bool) (x : ℕ) → ((if b then 1 else 0) + 2 * x) / 2 ≡ x
rest-of true x = omega arith
rest-of false x = omega arith

-- ---- a number made of its marks
pub mark-bits_of : (n : ℕ) (f : ℕ → Bool) (k : ℕ) → k < n → mark (bits_of n f) k ≡ f k
unfolding bits_of
mark-bits_of zero f k h = absurd (omega arith)
mark-bits_of (suc n) f zero h = mark-first _ ∙ first-of (f 0) (bits_of n (λ k. f (suc k)))
mark-bits_of (suc n) f (suc k) h =
    mark-next _ k ∙ ap (λ (x : ℕ). mark x k) (rest-of (f 0) (bits_of n (λ k. f (suc k)))) ∙ mark-bits_of n (λ k. f (suc k)) k (omega arith)

bits-lt : (n : ℕ) (f : ℕ → Bool) → bits_of n f < 2 ^ n
unfolding bits_of
bits-lt zero f = pow_pos 0
bits-lt (suc n) f =
    let h = bits-lt n (λ k. f (suc k)) in
    let e : 2 ^ suc n ≡ 2 * 2 ^ n = pow-succ' 2 n in
    if-cases (λ (b : ℕ). b + 2 * bits_of n (λ k. f (suc k)) < 2 ^ suc n) (f 0) 1 0 (λ t. omega arith) (λ t. omega arith)

bits-cong : {f g : ℕ → Bool} (n : ℕ) → ((k : ℕ) → k < n → f k ≡ g k) → bits_of n f ≡ bits_of n g
unfolding bits_of
bits-cong zero h = refl
bits-cong (suc n) h = ap₂ (λ (b : Bool) (x : ℕ). (if b then 1 else 0) + 2 * x) (h 0 (omega arith)) (bits-cong n (λ k l. h (suc k) (omega arith)))

-- the bits of a set of values below d
bits_none : (n : ℕ) (f : ℕ → Bool) → ((k : ℕ) → k < n → f k ≡ false) → bits_of n f ≡ 0
unfolding bits_of
bits_none zero f h = refl
bits_none (suc n) f h = ap₂ (λ (b : Bool) (x : ℕ). (if b then 1 else 0) + 2 * x) (h 0 (omega arith)) (bits_none n (λ k. f (suc k)) (λ k l. h (suc k) (omega arith)))

bits_below : (d n : ℕ) (f : ℕ → Bool) → d ≤ n → bits_of d f ≡ bits_of n (λ k. ltb k d && f k)
unfolding bits_of
bits_below zero n f h = sym (bits_none n (λ k. ltb k 0 && f k) (λ k l. ap (λ (b : Bool). b && f k) (le-ltb k 0 (omega arith))))
bits_below (suc d) zero f h = absurd (omega arith)
bits_below (suc d) (suc n) f h =
    ap₂ (λ (b : Bool) (x : ℕ). (if b then 1 else 0) + 2 * x) (sym (ap (λ (b : Bool). b && f 0) (lt-ltb 0 (suc d) (omega arith))))
    (bits_below d n (λ k. f (suc k)) (omega arith) ∙ bits-cong n (λ k l. ap (λ (b : Bool). b && f (suc k)) (less k)))
  where
    less : (k : ℕ) → ltb k d ≡ ltb (suc k) (suc d)
    less k = same_test (ltb k d) (ltb (suc k) (suc d)) (λ t. lt→ltb (suc k) (suc d) (let l = ltb→lt k d t in omega arith))
        (λ t. lt→ltb k d (let l = ltb→lt (suc k) (suc d) t in omega arith))

bits_mono : (f g : ℕ → Bool) (n : ℕ) → ((k : ℕ) → k < n → T (f k) → T (g k)) → bits_of n f ≤ bits_of n g
unfolding bits_of
bits_mono f g zero h = omega arith
bits_mono f g (suc n) h =
    let r = bits_mono (λ k. f (suc k)) (λ k. g (suc k)) n (λ k l. h (suc k) (omega arith)) in
    let q = first-mono (f 0) (g 0) (h 0 (omega arith)) in
    omega arith
  where
    first-mono : (a b : Bool) → (T a → T b) → (if a then 1 else 0) ≤ (if b then 1 else 0)
    first-mono true true i = omega arith
    first-mono true false i = absurd (i tt)
    first-mono false b i = omega arith

odd : (s : ℕ) → (if eqb (s % 2) 1 then 1 else 0) ≡ s % 2
odd s = if-cases (λ (x : ℕ). x ≡ s % 2) (eqb (s % 2) 1) 1 0 (λ t. sym (eqb→eq (s % 2) 1 t))
    (λ t. let n : s % 2 ≡ 1 → ⊥ = λ e. T_not (eqb (s % 2) 1) t ((eqb-iff (s % 2) 1).1 e) in omega arith)

bits-mark : (n s : ℕ) → s < 2 ^ n → bits_of n (mark s) ≡ s
unfolding bits_of
bits-mark zero s h = omega arith
bits-mark (suc n) s h =
    let e : 2 ^ suc n ≡ 2 * 2 ^ n = pow-succ' 2 n in
    let q : (if mark s 0 then 1 else 0) ≡ s % 2 = ap (λ (b : Bool). if b then 1 else 0) (mark-first s) ∙ odd s in
    let r : bits_of n (λ k. mark s (suc k)) ≡ s / 2 = bits-cong n (λ k l. mark-next s k) ∙ bits-mark n (s / 2) (omega arith) in
    omega arith

-- ---- bytes
pub byte_small : (f : ℕ → Bool) → byte_of f < 256
unfolding byte_of
byte_small f = bits-lt 8 f

pub mark-byte_of : (f : ℕ → Bool) (k : ℕ) → k < 8 → mark (byte_of f) k ≡ f k
unfolding byte_of
mark-byte_of f k h = mark-bits_of 8 f k h

pub bits-byte : (d : ℕ) (f : ℕ → Bool) → d ≤ 8 → bits_of d f ≡ byte_of (λ k. ltb k d && f k)
unfolding byte_of
bits-byte d f h = bits_below d 8 f h

pub byte_of-mark : (s : ℕ) → s < 256 → byte_of (mark s) ≡ s
unfolding byte_of
byte_of-mark s h = bits-mark 8 s h

pub byte_of-cong : {f g : ℕ → Bool} → ((k : ℕ) → k < 8 → f k ≡ g k) → byte_of f ≡ byte_of g
unfolding byte_of
byte_of-cong h = bits-cong 8 h

-- a set in which only values of s are is a byte of at most s
pub byte-less : (s : ℕ) (f : ℕ → Bool) → s < 256 → ((k : ℕ) → k < 8 → T (f k) → T (mark s k)) → byte_of f ≤ s
unfolding byte_of
byte-less s f h i = subst (λ (x : ℕ). bits_of 8 f ≤ x) (bits-mark 8 s h) (bits_mono f (mark s) 8 i)

pub mark-high : (s k : ℕ) → s < 256 → 8 ≤ k → mark s k ≡ false
unfolding mark
mark-high s k h g = ap (λ (x : ℕ). eqb (x % 2) 1) (div-eq_of_lt (lt_of_lt_of_le h (pow_mono g)))

pub mark-small : (s k : ℕ) → s < 256 → T (mark s k) → k < 8
mark-small s k h t = ⊎_elim (λ l. ltb→lt k 8 l) (λ g. absurd (rw (mark-high s k h (nltb→le k 8 g)) at t)) (either (ltb k 8))

pub mark-zero : (k : ℕ) → mark 0 k ≡ false
unfolding mark
mark-zero k = ap (λ (x : ℕ). eqb (x % 2) 1) (div-eq_of_lt (pow_pos k))

-- a byte is the set of the values at which f passes
pub byte-is : (s : ℕ) (f : ℕ → Bool) → s < 256 → ((k : ℕ) → k < 8 → mark s k ≡ f k) → s ≡ byte_of f
byte-is s f h e = sym (byte_of-mark s h) ∙ byte_of-cong e

-- ---- values of both sets
and-bits : (x y : ℕ) → x < 2 → y < 2 → eqb (bit_and x y) 1 ≡ (eqb x 1 && eqb y 1)
and-bits zero y h g = refl
and-bits (suc zero) zero h g = refl
and-bits (suc zero) (suc zero) h g = refl
and-bits (suc zero) (suc (suc y)) h g = absurd (omega arith)
and-bits (suc (suc x)) y h g = absurd (omega arith)

pub mark-and : (a b k : ℕ) → mark (bit_and a b) k ≡ (mark a k && mark b k)
unfolding mark
mark-and a b k =
    ap (λ (x : ℕ). eqb x 1) (ap (λ (x : ℕ). x % 2) (and_shr a b k) ∙ and_mod (a / 2 ^ k) (b / 2 ^ k) 1)
    ∙ and-bits (a / 2 ^ k % 2) (b / 2 ^ k % 2) (omega arith) (omega arith)

pub and_is : (a b : ℕ) → a < 256 → b < 256 → bit_and a b ≡ in_both a b
and_is a b h g = byte-is (bit_and a b) _ (and_lt 8 a b h g) (λ k l. mark-and a b k)

-- ---- a value struck
mask-test : ℕ → ℕ → Bool
mask-test v j = eqb ((255 - (1 * 2 ^ v) % 256) / 2 ^ j % 2) (if eqb j v then 0 else 1)

mask-all : T (all (λ v. all (mask-test v) (below 8)) (below 8))
unfolding mask-test
mask-all = tt

mark-mask : (v j : ℕ) → v < 8 → j < 8 → mark (255 - (1 * 2 ^ v) % 256) j ≡ not (eqb j v)
unfolding mark mask-test
mark-mask v j h g =
    let e = eqb→eq ((255 - (1 * 2 ^ v) % 256) / 2 ^ j % 2) (if eqb j v then 0 else 1)
    (all-at (mask-test v) 8 (all-at (λ v. all (mask-test v) (below 8)) 8 mask-all v h) j g) in
    ap (λ (x : ℕ). eqb x 1) e ∙ by (eqb j v)
  where
    by : (b : Bool) → eqb (if b then 0 else 1) 1 ≡ not b
    by true = refl
    by false = refl

pub strike-is : (s v : ℕ) → s < 256 → v < 8 → bit_and s (255 - (1 * 2 ^ v) % 256) ≡ without s v
strike-is s v h g =
    byte-is _ _ (and_lt 8 s (255 - (1 * 2 ^ v) % 256) h (omega arith))
    (λ k l. mark-and s (255 - (1 * 2 ^ v) % 256) k ∙ ap (λ (b : Bool). mark s k && b) (mark-mask v k g l))

and-true : (b c : Bool) → c ≡ true → (b && c) ≡ b
and-true true c e = e
and-true false c e = refl

-- a value that no set has
pub strike-none : (s v : ℕ) → s < 256 → 8 ≤ v → s ≡ without s v
strike-none s v h g =
    byte-is s _ h (λ k l. sym (and-true (mark s k) (not (eqb k v)) (ap not (ne_eqb k v (λ e. omega arith)))))

fewer-test : ℕ → ℕ → Bool
fewer-test s v = mark s v ⇒ ltb (bits_of 8 (λ j. mark s j && not (eqb j v))) s

fewer-all : T (all (λ s. all (fewer-test s) (below 8)) (below 256))
unfolding mark bits_of fewer-test
fewer-all = tt

-- the byte falls when a mark is struck
pub strike-less : (s v : ℕ) → s < 256 → T (mark s v) → without s v < s
unfolding byte_of fewer-test
strike-less s v h t =
    ltb→lt _ s (imp_elim (mark s v) _ (all-at (fewer-test s) 8 (all-at (λ s. all (fewer-test s) (below 8)) 256 fewer-all s h) v (mark-small s v h t)) t)

-- ---- a value added, and all one higher
added-test : ℕ → ℕ → Bool
added-test s v = eqb (bit_or s ((1 * 2 ^ v) % 256)) (bits_of 8 (λ j. mark s j || eqb j v))

added-all : T (all (λ s. all (added-test s) (below 8)) (below 256))
unfolding mark bits_of added-test
added-all = tt

pub add_is : (s v : ℕ) → s < 256 → v < 8 → bit_or s ((1 * 2 ^ v) % 256) ≡ added s v
unfolding byte_of added-test
add_is s v h g = eqb→eq _ _ (all-at (added-test s) 8 (all-at (λ s. all (added-test s) (below 8)) 256 added-all s h) v g)

pub add_none : (s v : ℕ) → s < 256 → 8 ≤ v → s ≡ added s v
add_none s v h g = byte-is s _ h (λ k l. sym (or-false (mark s k) (eqb k v) (ne_eqb k v (λ e. omega arith))))
  where
    or-false : (b c : Bool) → c ≡ false → (b || c) ≡ b
    or-false true c e = refl
    or-false false c e = e

pushed-test : Bool → ℕ → ℕ → Bool
pushed-test low s r = eqb r (bits_of 8 (λ j. if eqb j 0 then low else mark s (j - 1)))

pushed-all : T (all (λ s. pushed-test true s (bit_or ((s * 2 ^ 1) % 256) 1)) (below 256)) × T (all (λ s. pushed-test false s ((s * 2 ^ 1) % 256)) (below 256))
unfolding mark bits_of pushed-test
pushed-all = (tt, tt)

pub push-low : (s : ℕ) → s < 256 → bit_or ((s * 2 ^ 1) % 256) 1 ≡ pushed s true
unfolding byte_of pushed-test
push-low s h = eqb→eq _ _ (all-at (λ s. pushed-test true s (bit_or ((s * 2 ^ 1) % 256) 1)) 256 pushed-all.0 s h)

pub push-only : (s : ℕ) → s < 256 → (s * 2 ^ 1) % 256 ≡ pushed s false
unfolding byte_of pushed-test
push-only s h = eqb→eq _ _ (all-at (λ s. pushed-test false s ((s * 2 ^ 1) % 256)) 256 pushed-all.1 s h)

-- ---- one value, the values below d, the lowest, a count of one
only-all : T (all (λ v. eqb ((1 * 2 ^ v) % 256) (bits_of 8 (λ j. eqb j v))) (below 8))
unfolding bits_of
only-all = tt

pub only-is : (v : ℕ) → v < 8 → (1 * 2 ^ v) % 256 ≡ only_of v
unfolding byte_of
only-is v h = eqb→eq _ _ (all-at (λ v. eqb ((1 * 2 ^ v) % 256) (bits_of 8 (λ j. eqb j v))) 8 only-all v h)

pub only_none : (v : ℕ) → 8 ≤ v → 0 ≡ only_of v
only_none v h = byte-is 0 _ (omega arith) (λ k l. mark-zero k ∙ sym (ne_eqb k v (λ e. omega arith)))

full-all : T (all (λ d. eqb ((1 * 2 ^ d) % 256 - 1) (bits_of 8 (λ j. ltb j d))) (below 8))
unfolding bits_of
full-all = tt

pub full_is : (d : ℕ) → d < 8 → (1 * 2 ^ d) % 256 - 1 ≡ full_of d
unfolding byte_of
full_is d h = eqb→eq _ _ (all-at (λ d. eqb ((1 * 2 ^ d) % 256 - 1) (bits_of 8 (λ j. ltb j d))) 8 full-all d h)

power-all : T (all (λ d. ltb 0 ((1 * 2 ^ d) % 256)) (below 8))
power-all = tt

pub power_small : (d : ℕ) → d < 8 → 0 < (1 * 2 ^ d) % 256
power_small d h = ltb→lt 0 ((1 * 2 ^ d) % 256) (all-at (λ d. ltb 0 ((1 * 2 ^ d) % 256)) 8 power-all d h)

all-marks : T (all (mark 255) (below 8))
unfolding mark
all-marks = tt

pub full-most : (d : ℕ) → 8 ≤ d → 255 ≡ full_of d
full-most d h =
    byte-is 255 _ (omega arith)
    (λ k l. is_true (mark 255 k) (all-at (mark 255) 8 all-marks k l) ∙ sym (is_true (ltb k d) (lt→ltb k d (omega arith))))

count-test : ℕ → Bool
count-test s = eqb (count_trailing_zeros 8 s) (lowest_of s) && eqb (ones s) (length (members s))

count-all : T (all count-test (below 256))
unfolding mark members lowest_of count-test count_trailing_zeros ones ones_in
count-all = tt

pub lowest-is : (s : ℕ) → s < 256 → count_trailing_zeros 8 s ≡ lowest_of s
unfolding count-test
lowest-is s h = eqb→eq _ (lowest_of s) (and_left (eqb (count_trailing_zeros 8 s) (lowest_of s)) _ (all-at count-test 256 count-all s h))

pub single-is : (s : ℕ) → s < 256 → eqb (ones s) 1 ≡ is_single s
unfolding is_single count-test
single-is s h = ap (λ (x : ℕ). eqb x 1) (eqb→eq (ones s) (length (members s))
    (and_right (eqb (count_trailing_zeros 8 s) (lowest_of s)) _ (all-at count-test 256 count-all s h)))

-- what the lowest value is: it is in the set, nothing below it is, and it is 8 where the set is empty
lowest-test : ℕ → Bool
lowest-test s = ltb 0 s ⇒ (ltb (lowest_of s) 8 && mark s (lowest_of s))

lowest-all : T (all lowest-test (below 256))
unfolding mark members lowest_of lowest-test
lowest-all = tt

below-test : ℕ → ℕ → Bool
below-test s j = ltb j (lowest_of s) ⇒ not (mark s j)

below_all : T (all (λ s. all (below-test s) (below 8)) (below 256))
unfolding mark members lowest_of below-test
below_all = tt

module _ (s : ℕ) (h : s < 256) where
  pub lowest-small : 0 < s → lowest_of s < 8
  unfolding lowest-test
  lowest-small g = ltb→lt (lowest_of s) 8 (and_left (ltb (lowest_of s) 8) (mark s (lowest_of s))
      (imp_elim (ltb 0 s) _ (all-at lowest-test 256 lowest-all s h) (lt→ltb 0 s g)))

  pub lowest-marked : 0 < s → T (mark s (lowest_of s))
  unfolding lowest-test
  lowest-marked g = and_right (ltb (lowest_of s) 8) _ (imp_elim (ltb 0 s) _ (all-at lowest-test 256 lowest-all s h) (lt→ltb 0 s g))

  pub lowest-below : (j : ℕ) → j < 8 → j < lowest_of s → T (not (mark s j))
  unfolding below-test
  lowest-below j l g = imp_elim (ltb j (lowest_of s)) _ (all-at (below-test s) 8 (all-at (λ s. all (below-test s) (below 8)) 256 below_all s h) j l)
      (lt→ltb j (lowest_of s) g)
