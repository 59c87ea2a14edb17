-- Reading at a place of a list, one byte a step. Assumes nothing.
use Rattle.std.specs.Prelude.{Some, None}
use mathlib.Core.Path.{◌≡◌, ◌∙◌}
use mathlib.Core.Logic.{◌≢◌}
use mathlib.Core.List.{List, [], ◌∷◌}
use Prim.Native.Nat.{ℕ, ◌+◌, ◌*◌, ◌-◌, ◌/◌, ◌%◌, ◌^◌, ◌≤◌, ◌<◌}
use native.Mathlib.Nat.{pow-suc, pow-le-pow_right}
use native.Mathlib.Numerals.{add-one}
use native.Mathlib.Omega.{arith}
use lib.IntN.{pos}
use lib.ListN.{length, get_or, take, drop, length-drop, drop_of_length-le}
use lib.Seq.{drop-cons}
use borrow.Author.Tests.{le-leb, lt-leb, eq-eqb, ne_eqb}
use Rattle.definitions.specs.Lines.{read_digits, read_positive, read_number, read_column, column_at}
use Rattle.definitions.proofs.ColumnLaws.{decimal_digit, decimal-last, column-read}
use Rattle.lines.specs.Found.{plain_found, negative_found}
use Rattle.lines.specs.Words.{Word}

module _ (t : List ℕ) (i : ℕ) where
  pub at_drop : i < length t → drop i t ≡ get_or t i 0 ∷ drop (i + 1) t
  at_drop h = rw add-one (drop-cons t i 0 h)

  pub column-space : i < length t → get_or t i 0 ≡ 32 → read_column (drop i t) ≡ read_column (drop (i + 1) t)
  column-space h e = rw at_drop (simp (eq-eqb _ _ e))

  pub column-other : i < length t → get_or t i 0 ≢ 32 → read_column (drop i t) ≡ read_number (drop i t)
  column-other h n = rw at_drop (simp (ne_eqb _ _ n))

  pub column-end : length t ≤ i → read_column (drop i t) ≡ read_number (drop i t)
  column-end h = rw (drop_of_length-le t h)

  pub number-end : length t ≤ i → read_number (drop i t) ≡ None
  number-end h = rw (drop_of_length-le t h)

  pub number-minus : i < length t → get_or t i 0 ≡ 45 → read_number (drop i t) ≡ negative_found (read_positive (drop (i + 1) t))
  number-minus h e = rw (at_drop, e)

  pub number-zero : i < length t → get_or t i 0 ≡ 48 → i + 1 ≡ length t → read_number (drop i t) ≡ Some (pos 0)
  number-zero h e l = rw (at_drop, e, length-drop) (simp (eq-eqb (length t - (i + 1)) 0 (omega arith)))

  pub number-leading : i < length t → get_or t i 0 ≡ 48 → i + 1 ≢ length t → read_number (drop i t) ≡ None
  number-leading h e l = rw (at_drop, e, length-drop) (simp (ne_eqb (length t - (i + 1)) 0 (λ z. l (omega arith))))

  pub number-plain : i < length t → get_or t i 0 ≢ 45 → get_or t i 0 ≢ 48 → read_number (drop i t) ≡ plain_found (read_positive (drop i t))
  number-plain h m z = rw at_drop (simp (ne_eqb _ _ m, ne_eqb _ _ z))

  pub positive-end : length t ≤ i → read_positive (drop i t) ≡ None
  positive-end h = rw (drop_of_length-le t h)

  pub positive-leading : i < length t → get_or t i 0 ≡ 48 → read_positive (drop i t) ≡ None
  positive-leading h e = rw at_drop (simp (eq-eqb _ _ e))

  module _ (v : ℕ) where
    pub digits-end : length t ≤ i → read_digits v (drop i t) ≡ Some v
    digits-end h = rw (drop_of_length-le t h)

    pub digits_low : i < length t → get_or t i 0 < 48 → read_digits v (drop i t) ≡ None
    digits_low h l = rw at_drop (simp (lt-leb _ _ l))

    pub digits-high : i < length t → 57 < get_or t i 0 → read_digits v (drop i t) ≡ None
    digits-high h l = rw at_drop (simp (le-leb 48 (get_or t i 0) (omega arith), lt-leb _ _ l))

    pub digits-next : i < length t → 48 ≤ get_or t i 0 → get_or t i 0 ≤ 57 → read_digits v (drop i t) ≡ read_digits (v * 10 + (get_or t i 0 - 48)) (drop (i + 1) t)
    digits-next h l u = rw at_drop (simp (le-leb _ _ l, le-leb _ _ u))

-- ---- four bytes at once

module _ (t : List ℕ) (i r : ℕ) (w : Word t i r) (h : i + 4 ≤ length t) where
  pub column-spaces : r ≡ 538976288 → read_column (drop i t) ≡ read_column (drop (i + 4) t)
  column-spaces e =
      let e2 : i + 1 + 1 ≡ i + 2 = omega arith in
      let e3 : i + 2 + 1 ≡ i + 3 = omega arith in
      let e4 : i + 3 + 1 ≡ i + 4 = omega arith in
      let d : get_or t (i + 3) 0 ≡ 32 = omega arith in
      let c : get_or t (i + 2) 0 ≡ 32 = omega arith in
      let b : get_or t (i + 1) 0 ≡ 32 = omega arith in
      let a : get_or t i 0 ≡ 32 = omega arith in
      column-space t i (omega arith) a ∙ (column-space t (i + 1) (omega arith) b
      ∙ (rw e2 (column-space t (i + 2) (omega arith) c ∙ (rw e3 (column-space t (i + 3) (omega arith) d ∙ (rw e4))))))

-- ---- two bytes

digit-read : (d : ℕ) → 48 ≤ d → d ≤ 57 → read_column (32 ∷ d ∷ []) ≡ Some (pos (d - 48))
digit-read d l u =
    let e : 48 + (d - 48) ≡ d = omega arith in
    rw (decimal_digit (d - 48) (omega arith), e) at (column-read 2 (pos (d - 48)))

digits-read : (c d : ℕ) → 49 ≤ c → c ≤ 57 → 48 ≤ d → d ≤ 57 → read_column (c ∷ d ∷ []) ≡ Some (pos ((c - 48) * 10 + (d - 48)))
digits-read c d k m l u =
    let n : ℕ = (c - 48) * 10 + (d - 48) in
    let front : n / 10 ≡ c - 48 = omega arith in
    let first : 48 + (c - 48) ≡ c = omega arith in
    let last : 48 + n % 10 ≡ d = omega arith in
    rw (decimal-last n (omega arith), front, last, decimal_digit (c - 48) (omega arith), first) at (column-read 2 (pos n))

module _ (t : List ℕ) (i : ℕ) where
  pair-at : i + 2 ≤ length t → take 2 (drop i t) ≡ get_or t i 0 ∷ get_or t (i + 1) 0 ∷ []
  pair-at h = rw (at_drop t i (omega arith), at_drop t (i + 1) (omega arith))

  pub one-digit-read : i + 2 ≤ length t → get_or t i 0 ≡ 32 → 48 ≤ get_or t (i + 1) 0 → get_or t (i + 1) 0 ≤ 57 → column_at i 2 t ≡ Some (pos (get_or t (i + 1) 0 - 48))
  one-digit-read h s l u = rw (pair-at h, s) (digit-read (get_or t (i + 1) 0) l u)

  pub two-digits-read : i + 2 ≤ length t → 49 ≤ get_or t i 0 → get_or t i 0 ≤ 57 → 48 ≤ get_or t (i + 1) 0 → get_or t (i + 1) 0 ≤ 57
      → column_at i 2 t ≡ Some (pos ((get_or t i 0 - 48) * 10 + (get_or t (i + 1) 0 - 48)))
  two-digits-read h k m l u = rw (pair-at h) (digits-read (get_or t i 0) (get_or t (i + 1) 0) k m l u)

  pub two-spaces : i + 4 ≤ length t → get_or t i 0 ≡ 32 → get_or t (i + 1) 0 ≡ 32 → column_at i 4 t ≡ column_at (i + 2) 2 t
  two-spaces h a b =
      let e : i + 1 + 1 ≡ i + 2 = omega arith in
      rw (at_drop t i (omega arith), at_drop t (i + 1) (omega arith), e, a, b)

-- ---- i digits make a number below 10 ^ i

pub next-below : (v d i : ℕ) → d < 10 → v < 10 ^ i → v * 10 + d < 10 ^ (i + 1)
next-below v d i h l = rw (add-one, pow-suc) (omega arith)

pub below-most : (v i n : ℕ) → i ≤ n → v < 10 ^ i → v < 10 ^ n
below-most v i n h l = omega (arith, pow-le-pow_right {n = 10} (omega arith) {i = i} {j = n} h)

pub pow_pos : (i : ℕ) → 0 < 10 ^ i
pow_pos i = omega (arith, pow-le-pow_right {n = 10} (omega arith) {i = 0} {j = i} (omega arith))
