-- Numbers in columns, at every width: what is written is read back, what is read is what is written, and which numbers fit.
-- Assumes nothing.
use Rattle.std.specs.Prelude.{Some}
use mathlib.Core.Path.{◌≡◌, refl, ap, ◌∙◌}
use mathlib.Core.Bool.{Bool, true, false}
use mathlib.Core.Logic.{◌≢◌, ◌↔◌, ⊎_elim}
use mathlib.Core.List.{List, [], ◌∷◌, ◌++◌, append_assoc, append-nil}
use Prim.Native.Nat.{ℕ, zero, suc, ◌+◌, ◌*◌, ◌-◌, ◌/◌, ◌%◌, ◌^◌, ◌≤◌, ◌<◌}
use native.Mathlib.Nat.{pow-succ', pow-le-pow_right}
use native.Mathlib.Numerals.{add-one}
use native.Mathlib.Omega.{arith}
use lib.IntN.{ℤ, pos, negsuc, nat_abs}
use lib.Dec.{ltb, eqb}
use lib.ListN.{length, replicate, length-append, length-replicate, drop_of_length-le}
use borrow.Author.Tests.{lt-ltb, le-ltb, le-leb, ne_eqb, ltb-true, ltb-false}
use Rattle.integers.specs.Words.{minus}
use Rattle.integers.specs.Tests.{tests, if-false, either}
use Rattle.definitions.specs.Lines.{digits_in, decimal, number_text, too_wide, column_text, is_digit, read_digits, read_positive, read_number, read_column}
use Rattle.integers.specs.Options.{none-some, found-then, found-else, found-if, bind-iff}

-- ---- decimal, by its last digit

-- what is so for one digit, and for one more digit at the end, is so for every number
module _ (P : ℕ → List ℕ → Type 0) (one : (n : ℕ) → n < 10 → P n ((48 + n) ∷ []))
    (more : (n : ℕ) (t : List ℕ) → 10 ≤ n → P (n / 10) t → P n (t ++ ((48 + n % 10) ∷ []))) where
  by_digits : (f n : ℕ) → n < f → P n (digits_in f n)
  by_digits zero n h = absurd (omega arith)
  by_digits (suc f) n h = go (ltb n 10) refl (λ l. by_digits f (n / 10) (omega arith))
    where
      go : (b : Bool) → ltb n 10 ≡ b → (10 ≤ n → P (n / 10) (digits_in f (n / 10)))
          → P n (elim b [ true ↦ (48 + n) ∷ [] | false ↦ digits_in f (n / 10) ++ ((48 + n % 10) ∷ []) ])
      go true e r = one n (ltb-true n 10 e)
      go false e r = more n _ (ltb-false n 10 e) (r (ltb-false n 10 e))

  pub by-digit : (n : ℕ) → P n (decimal n)
  by-digit n = by_digits (suc n) n (omega arith)

decimal-one : (n : ℕ) → n < 10 → (f : ℕ) → n < f → digits_in f n ≡ (48 + n) ∷ []
decimal-one n h zero k = absurd (omega arith)
decimal-one n h (suc f) k = rw (lt-ltb n 10 h, digits_in)

decimal-more : (n : ℕ) (t : List ℕ) → 10 ≤ n → ((f : ℕ) → n / 10 < f → digits_in f (n / 10) ≡ t)
    → (f : ℕ) → n < f → digits_in f n ≡ t ++ ((48 + n % 10) ∷ [])
decimal-more n t h r zero k = absurd (omega arith)
decimal-more n t h r (suc f) k = rw (le-ltb n 10 h, digits_in, r f (omega arith))

pub decimal_digit : (n : ℕ) → n < 10 → decimal n ≡ (48 + n) ∷ []
decimal_digit n h = decimal-one n h (suc n) (omega arith)

pub decimal-last : (n : ℕ) → 10 ≤ n → decimal n ≡ decimal (n / 10) ++ ((48 + n % 10) ∷ [])
decimal-last n h =
    decimal-more n (decimal (n / 10)) h (by-digit (λ m t. (f : ℕ) → m < f → digits_in f m ≡ t) decimal-one decimal-more (n / 10)) (suc n) (omega arith)

digit-yes : (d : ℕ) → d < 10 → is_digit (48 + d) ≡ true
digit-yes d h = simp (le-leb 48 (48 + d) (omega arith), le-leb (48 + d) 57 (omega arith))

-- ---- digits that were written are read

read_digits-digit : (v d : ℕ) (t : List ℕ) → d < 10 → read_digits v ((48 + d) ∷ t) ≡ read_digits (v * 10 + d) t
read_digits-digit v d t h = simp (digit-yes d h) (ap (λ (k : ℕ). read_digits k t) (omega arith))

reads_on : (n : ℕ) → 0 < n → (t : List ℕ) → read_positive (decimal n ++ t) ≡ read_digits n t
reads_on = by-digit (λ n s. 0 < n → (t : List ℕ) → read_positive (s ++ t) ≡ read_digits n t)
    (λ n h p t. simp (ne_eqb (48 + n) 48 (omega arith)) (read_digits-digit 0 n t h ∙ ap (λ (k : ℕ). read_digits k t) (omega arith)))
    (λ n s h r p t. rw append_assoc (r (omega arith) ((48 + n % 10) ∷ t) ∙ read_digits-digit (n / 10) (n % 10) t (omega arith)
    ∙ ap (λ (k : ℕ). read_digits k t) (omega arith)))

reads-positive : (n : ℕ) → 0 < n → read_positive (decimal n) ≡ Some n
reads-positive n p = rw append-nil at (reads_on n p [])

-- ---- digits that were read are those that are written

digits-back : (t : List ℕ) (v m : ℕ) → 0 < v → read_digits v t ≡ Some m → (0 < m) × (decimal m ≡ decimal v ++ t)
digits-back [] v m p e = let q : v ≡ m = cc in (omega arith, rw (q, append-nil))
digits-back (b ∷ t) v m p e =
    let (d, r) = found-then (is_digit b) _ e in
    let h : (48 ≤ b) × (b ≤ 57) = simp tests at d in
    let n : ℕ = v * 10 + (b - 48) in
    let back = digits-back t n m (omega arith) r in
    let front : n / 10 ≡ v = omega arith in
    let last : 48 + n % 10 ≡ b = omega arith in
    (back.0, back.1 ∙ rw (decimal-last n (omega arith), front, last, append_assoc))

positive_back : (t : List ℕ) (m : ℕ) → read_positive t ≡ Some m → (0 < m) × (decimal m ≡ t)
positive_back [] m e = absurd (none-some e)
positive_back (b ∷ t) m e =
    let (z, r) = found-else (eqb b 48) _ e in
    let (d, r) = found-then (is_digit b) _ r in
    let h : (48 ≤ b) × (b ≤ 57) = simp tests at d in
    let n : b ≢ 48 = simp tests at z in
    let v : ℕ = 0 * 10 + (b - 48) in
    let back = digits-back t v m (omega arith) r in
    let this : 48 + v ≡ b = omega arith in
    (back.0, back.1 ∙ rw (decimal_digit v (omega arith), this))

-- ---- numbers

number-positive : (t : List ℕ) (m : ℕ) → read_positive t ≡ Some m → read_number t ≡ Some (pos m)
number-positive [] m e = absurd (none-some e)
number-positive (b ∷ t) m e =
    let (z, r) = found-else (eqb b 48) _ e in
    let h : (48 ≤ b) × (b ≤ 57) = simp tests at (found-then (is_digit b) _ r).0 in
    let n : b ≢ 48 = simp tests at z in
    simp (ne_eqb b 45 (omega arith), ne_eqb b 48 n, r)

pub number_read : (z : ℤ) → read_number (number_text z) ≡ Some z
number_read (pos zero) = refl
number_read (pos (suc n)) = number-positive (decimal (suc n)) (suc n) (reads-positive (suc n) (omega arith))
number_read (negsuc n) = rw (reads-positive (suc n) (omega arith))

minus-text : (v : ℕ) → 0 < v → number_text (minus v) ≡ 45 ∷ decimal v
minus-text zero h = absurd (omega arith)
minus-text (suc v) h = refl

pub number-written : (t : List ℕ) (z : ℤ) → read_number t ≡ Some z → number_text z ≡ t
number-written [] z e = absurd (none-some e)
number-written (b ∷ t) z e =
    ⊎_elim
    (λ c.
    let (v, r, s) = (bind-iff (read_positive t) _ _).0 c.1 in
    let (h, k) = positive_back t v r in
    let q : b ≡ 45 = simp tests at c.0 in
    cc (minus-text v h))
    (λ c. ⊎_elim
    (λ d.
    let (l, s) = found-then (eqb (length t) 0) _ d.1 in
    let n : length t ≡ 0 = simp tests at l in
    let q : b ≡ 48 = simp tests at d.0 in
    cc (drop_of_length-le t {i = 0} (omega arith)))
    (λ d.
    let (v, r, s) = (bind-iff (read_positive (b ∷ t)) _ _).0 d.1 in
    let q : z ≡ pos v = cc in
    rw q (positive_back (b ∷ t) v r).1)
    (found-if (eqb b 48) _ _ c.1))
    (found-if (eqb b 45) _ _ e)

-- ---- columns

spaces-read : (k : ℕ) (t : List ℕ) → read_column (replicate k 32 ++ t) ≡ read_column t
spaces-read zero t = refl
spaces-read (suc k) t = spaces-read k t

-- no number begins with a space
number-column : (t : List ℕ) (z : ℤ) → read_number t ≡ Some z → read_column t ≡ Some z
number-column [] z e = e
number-column (b ∷ t) z e =
    ⊎_elim
    (λ y. let q : b ≡ 32 = simp tests at y in absurd (none-some (rw q at e)))
    (λ n. if-false _ _ (eqb b 32) n ∙ e)
    (either (eqb b 32))

pub column-read : (w : ℕ) (z : ℤ) → read_column (column_text w z) ≡ Some z
column-read w z = spaces-read (w - length (number_text z)) (number_text z) ∙ number-column (number_text z) z (number_read z)

pub fits_iff : (w : ℕ) (z : ℤ) → (too_wide w z ≡ false) ↔ (length (number_text z) ≤ w)
fits_iff w z = (ltb-false w (length (number_text z)), le-ltb w (length (number_text z)))

pub column-written : (t : List ℕ) (z : ℤ) → read_column t ≡ Some z → (too_wide (length t) z ≡ false) × (column_text (length t) z ≡ t)
column-written [] z e = absurd (none-some e)
column-written (b ∷ t) z e =
    ⊎_elim
    (λ c.
    let r = column-written t z c.1 in
    let l : length (number_text z) ≤ length t = (fits_iff (length t) z).0 r.0 in
    let k : suc (length t) - length (number_text z) ≡ suc (length t - length (number_text z)) = omega arith in
    let q : b ≡ 32 = simp tests at c.0 in
    ((fits_iff (suc (length t)) z).1 (omega arith), rw (k, q) (ap (λ (x : List ℕ). 32 ∷ x) r.1)))
    (λ c.
    let r = number-written (b ∷ t) z c.1 in
    let l : length (number_text z) ≡ suc (length t) = ap length r in
    let k : suc (length t) - length (number_text z) ≡ 0 = omega arith in
    ((fits_iff (suc (length t)) z).1 (omega arith), rw k r))
    (found-if (eqb b 32) _ _ e)

pub column-length : (w : ℕ) (z : ℤ) → too_wide w z ≡ false → length (column_text w z) ≡ w
column-length w z h =
    let l : length (number_text z) ≤ w = (fits_iff w z).0 h in
    simp (length-append, length-replicate) (omega arith)

-- ---- what fits

decimal-below : (n : ℕ) → n < 10 ^ length (decimal n)
decimal-below = by-digit (λ n t. n < 10 ^ length t)
    (λ n h. h)
    (λ n t h r. simp (length-append, add-one) (omega arith))

abs-below : (z : ℤ) → nat_abs z < 10 ^ length (number_text z)
abs-below (pos n) = decimal-below n
abs-below (negsuc n) = omega (arith, decimal-below (suc n), pow-succ' 10 (length (decimal (suc n))))

pub fits_below : (w : ℕ) (z : ℤ) → too_wide w z ≡ false → nat_abs z < 10 ^ w
fits_below w z h = omega (arith, abs-below z, pow-le-pow_right {n = 10} (omega arith) ((fits_iff w z).0 h))

decimal-short : (n k : ℕ) → 0 < n → n < 10 ^ k → length (decimal n) ≤ k
decimal-short = by-digit (λ n t. (k : ℕ) → 0 < n → n < 10 ^ k → length t ≤ k)
    (λ n h. elim [ zero ↦ λ p l. omega arith | suc k ↦ λ p l. omega arith ])
    (λ n t h r. elim [ zero ↦ λ p l. absurd (omega arith) | suc k ↦ λ p l. simp length-append (omega (arith, r k (omega arith) (omega arith))) ])

-- a number of at most k digits, and with a minus
pub fits-digits : (k n : ℕ) → 0 < k → n < 10 ^ k → too_wide k (pos n) ≡ false
fits-digits k zero p h = (fits_iff k (pos 0)).1 p
fits-digits k (suc n) p h = (fits_iff k (pos (suc n))).1 (decimal-short (suc n) k (omega arith) h)

pub fits : (w : ℕ) (z : ℤ) → 0 < w → nat_abs z < 10 ^ (w - 1) → too_wide w z ≡ false
fits w (pos n) p h = fits-digits w n p (omega (arith, pow-le-pow_right {n = 10} (omega arith) {i = w - 1} {j = w} (omega arith)))
fits w (negsuc n) p h = (fits_iff w (negsuc n)).1 (omega (arith, decimal-short (suc n) (w - 1) (omega arith) h))

-- ---- every byte of a number is a digit or a minus
