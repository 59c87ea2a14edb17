-- Text stored from its last byte to its first, and a column stored after those before it. Assumes nothing.
use mathlib.Core.Path.{◌≡◌, refl, sym, ap, ◌∙◌}
use mathlib.Core.List.{List, [], ◌∷◌, ◌++◌, append_assoc}
use Prim.Native.Nat.{ℕ, suc, ◌+◌, ◌-◌, ◌/◌, ◌%◌, ◌≤◌, ◌<◌}
use native.Mathlib.Numerals.{add-one}
use native.Mathlib.Omega.{arith}
use lib.ListN.{length, take, drop, set, get_or, replicate, length-append, length-drop, length-replicate, take-append-drop, replicate-append-replicate}
use lib.Seq.{append_snoc, sets-eq, set_split, drop_at, take_at, drop-drop, set_at, drop-cons, length-take-le, take-set-le, take-take}
use Rattle.definitions.specs.Lines.{decimal, overwritten}
use Rattle.definitions.proofs.ColumnLaws.{by-digit, decimal_digit, decimal-last}
use Rattle.lines.specs.Digits.{four_digits}

-- a byte stored before the text
pub before : (l : List ℕ) (i v : ℕ) → 0 < i → i ≤ length l → drop (i - 1) (set l (i - 1) v) ≡ v ∷ drop i l
before l i v p h =
    let e : suc (i - 1) ≡ i = omega arith in
    ap (drop (i - 1)) (set_split l (i - 1) v (omega arith)) ∙ drop_at (take (i - 1) l) (v ∷ drop (suc (i - 1)) l) (i - 1)
    (length-take-le (i - 1) l (omega arith)) ∙ ap (λ k. v ∷ drop k l) e

-- the text's first byte has so many bytes before it
pub bytes-before : (l t : List ℕ) (i : ℕ) → drop i l ≡ t → i ≤ length l → i + length t ≡ length l
bytes-before l t i e h = omega (arith, length-drop i l, ap length e)

-- the bytes before a byte stored keep what they held
pub kept-before : (l o : List ℕ) (i v : ℕ) → take i l ≡ take i o → take (i - 1) (set l (i - 1) v) ≡ take (i - 1) o
kept-before l o i v e =
    take-set-le (i - 1) l (i - 1) v (omega arith) ∙ sym (take-take (i - 1) i l (omega arith)) ∙ ap (take (i - 1)) e ∙ take-take (i - 1) i o (omega arith)

pub stored : (l o t : List ℕ) (i : ℕ) → take i l ≡ take i o → drop i l ≡ t → l ≡ take i o ++ t
stored l o t i e f = sym (take-append-drop i l) ∙ rw (e, f)

pub stored-before : (o t l : List ℕ) (r v : ℕ) → 0 < r → r ≤ length o → l ≡ take r o ++ t → set l (r - 1) v ≡ take (r - 1) o ++ (v ∷ t)
stored-before o t l r v p h e =
    let n = length-take-le r o h in
    let f : take r l ≡ take r o = ap (take r) e ∙ take_at (take r o) t r n in
    let g : drop r l ≡ t = ap (drop r) e ∙ drop_at (take r o) t r n in
    let m : r ≤ length l = omega (arith, simp length-append at (ap length e), n) in
    stored (set l (r - 1) v) o (v ∷ t) (r - 1) (kept-before l o r v f) (before l r v p m ∙ ap (λ t. v ∷ t) g)

-- spaces
pub take-spaces : (k n v : ℕ) → k ≤ n → take k (replicate n v) ≡ replicate k v
take-spaces k n v h =
    let e : k + (n - k) ≡ n = omega arith in
    ap (λ n. take k (replicate n v)) (sym e) ∙ ap (take k) (sym (replicate-append-replicate k (n - k) v))
    ∙ take_at (replicate k v) (replicate (n - k) v) k (length-replicate k v)

-- ---- digits

pub digit-length : (n : ℕ) → n < 10 → length (decimal n) ≡ 1
digit-length n h = ap length (decimal_digit n h)

some-digit : (n : ℕ) → 0 < length (decimal n)
some-digit = by-digit (λ n t. 0 < length t) (λ n h. omega arith) (λ n t h r. simp length-append (omega arith))

pub more-digits : (n : ℕ) → 10 ≤ n → length (decimal n) ≡ length (decimal (n / 10)) + 1
more-digits n h = ap length (decimal-last n h) ∙ length-append (decimal (n / 10)) ((48 + n % 10) ∷ [])

-- the digits of `rest` are still to be stored before i
module _ (rest n i : ℕ) (l : List ℕ) (h : i ≤ length l) (most : length (decimal n) ≤ length l) (e : decimal rest ++ drop i l ≡ decimal n) where
  pub digits-room : 0 < i
  digits-room = omega (arith, simp (length-append, length-drop) at (ap length e), some-digit rest)

  pub digits-stored : 10 ≤ rest → decimal (rest / 10) ++ drop (i - 1) (set l (i - 1) (48 + rest % 10)) ≡ decimal n
  digits-stored g = rw (before l i (48 + rest % 10) digits-room h)
      (sym (append_snoc (decimal (rest / 10)) (48 + rest % 10) (drop i l)) ∙ ap (λ t. t ++ drop i l) (sym (decimal-last rest g)) ∙ e)

  pub digits_last : rest < 10 → drop (i - 1) (set l (i - 1) (48 + rest)) ≡ decimal n
  digits_last g = before l i (48 + rest) digits-room h ∙ ap (λ t. t ++ drop i l) (sym (decimal_digit rest g)) ∙ e

-- ---- digits four at a time

pub four-stored : (l : List ℕ) (i a b c d : ℕ) → i + 4 ≤ length l
    → set (set (set (set l i a) (i + 1) b) (i + 2) c) (i + 3) d ≡ take i l ++ (a ∷ b ∷ c ∷ d ∷ drop (i + 4) l)
four-stored l i a b c d h =
    let e1 : suc i ≡ i + 1 = omega arith in
    let e2 : suc (i + 1) ≡ i + 2 = omega arith in
    let e3 : suc (i + 2) ≡ i + 3 = omega arith in
    rw (e1, e2, e3) at (sets-eq (a ∷ b ∷ c ∷ d ∷ []) l i h) ∙ append_assoc (take i l) (a ∷ b ∷ c ∷ d ∷ []) (drop (i + 4) l)

decimal-four : (n : ℕ) → 10000 ≤ n → decimal n ≡ decimal (n / 10000) ++ four_digits (n % 10000)
decimal-four n h =
    let d1 : n / 10 / 10 / 10 / 10 ≡ n / 10000 = omega arith in
    let a : n / 10 / 10 / 10 % 10 ≡ n % 10000 / 1000 = omega arith in
    let b : n / 10 / 10 % 10 ≡ n % 10000 / 100 % 10 = omega arith in
    let c : n / 10 % 10 ≡ n % 10000 / 10 % 10 = omega arith in
    let d : n % 10 ≡ n % 10000 % 10 = omega arith in
    rw (
      decimal-last n (omega arith),
      decimal-last (n / 10) (omega arith),
      decimal-last (n / 10 / 10) (omega arith),
      decimal-last (n / 10 / 10 / 10)
          (omega arith),
      d1,
      a,
      b,
      c,
      d,
    )
    (simp append_assoc)

-- the digits of `rest` are still to be stored before i
module _ (rest n i : ℕ) (l : List ℕ) (h : i ≤ length l) (most : length (decimal n) ≤ length l) (e : decimal rest ++ drop i l ≡ decimal n) where
  pub rest-room : length (decimal rest) ≤ i
  rest-room = omega (arith, simp (length-append, length-drop) at (ap length e))

  pub four-room : 10000 ≤ rest → 4 ≤ i
  four-room g = omega (arith, rest-room, simp length-append at (ap length (decimal-four rest g)))

  pub four-next : 10000 ≤ rest → (j : ℕ) → j + 4 ≡ i → (o : List ℕ) → o ≡ take j l ++ (four_digits (rest % 10000) ++ drop (j + 4) l)
      → decimal (rest / 10000) ++ drop j o ≡ decimal n
  four-next g j q o f =
      rw (f, drop_at (take j l) (four_digits (rest % 10000) ++ drop (j + 4) l) j (length-take-le j l (omega arith)), q)
      (sym (append_assoc (decimal (rest / 10000)) (four_digits (rest % 10000)) (drop i l)) ∙ ap (λ t. t ++ drop i l) (sym (decimal-four rest g)) ∙ e)

  pub four-kept : (o p : List ℕ) (j : ℕ) (t : List ℕ) → j + 4 ≡ i → take i l ≡ take i p → o ≡ take j l ++ t → take j o ≡ take j p
  four-kept o p j t q f g =
      ap (take j) g ∙ take_at (take j l) t j (length-take-le j l (omega arith)) ∙ sym (take-take j i l (omega arith)) ∙ ap (take j) f
      ∙ take-take j i p (omega arith)

  pub few-stored : (o p : List ℕ) (r : ℕ) → r ≤ i → take i l ≡ take i p → o ≡ take r (take i l) ++ decimal rest → o ++ drop i l ≡ take r p ++ decimal n
  few-stored o p r k f g =
      rw (g, append_assoc (take r (take i l)) (decimal rest) (drop i l), e, f, take-take r i p k)

-- ---- columns one after the other

module _ (p out l : List ℕ) (n : ℕ) (front : length p ≡ n) (e : l ≡ overwritten p out) where
  pub column-next : (y : List ℕ) (k : ℕ) → length y ≡ k → take n l ++ (y ++ drop (n + k) l) ≡ overwritten (p ++ y) out
  column-next y k h =
      rw (
        e,
        take_at p (drop (length p) out) n front,
        ← (drop-drop k n (overwritten p out)),
        drop_at p (drop (length p) out) n front,
        drop-drop k
            (length p) out,
      )
      (simp (append_assoc, length-append, h))

  pub byte_next : (v : ℕ) → n < length out → set l n v ≡ overwritten (p ++ (v ∷ [])) out
  byte_next v h =
      rw (e, front, drop-cons out n 0 h, set_at p (get_or out n 0) (drop (suc n) out) v n front)
      (simp (append_assoc, length-append, front, add-one))

-- five columns, and a line feed
pub columns-stored : (out y1 y2 y3 y4 y5 o1 o2 o3 o4 o5 : List ℕ) (w : ℕ) → 14 + w < length out
    → length y1 ≡ 2 → length y2 ≡ 4 → length y3 ≡ 4 → length y4 ≡ 4 → length y5 ≡ w
    → o1 ≡ take 0 out ++ (y1 ++ drop 2 out) → o2 ≡ take 2 o1 ++ (y2 ++ drop 6 o1) → o3 ≡ take 6 o2 ++ (y3 ++ drop 10 o2)
    → o4 ≡ take 10 o3 ++ (y4 ++ drop 14 o3) → o5 ≡ take 14 o4 ++ (y5 ++ drop (14 + w) o4)
    → set o5 (14 + w) 10 ≡ overwritten (y1 ++ y2 ++ y3 ++ y4 ++ y5 ++ (10 ∷ [])) out
columns-stored out y1 y2 y3 y4 y5 o1 o2 o3 o4 o5 w h n1 n2 n3 n4 n5 e1 e2 e3 e4 e5 =
    let m2 : length (y1 ++ y2) ≡ 6 = simp length-append (omega arith) in
    let m3 : length (y1 ++ y2 ++ y3) ≡ 10 = simp length-append (omega arith) in
    let m4 : length (y1 ++ y2 ++ y3 ++ y4) ≡ 14 = simp length-append (omega arith) in
    let m5 : length (y1 ++ y2 ++ y3 ++ y4 ++ y5) ≡ 14 + w = simp length-append (omega arith) in
    let q1 = e1 ∙ column-next [] out out 0 refl refl y1 2 n1 in
    let q2 = e2 ∙ column-next y1 out o1 2 n1 q1 y2 4 n2 in
    let q3 = e3 ∙ column-next (y1 ++ y2) out o2 6 m2 q2 y3 4 n3 in
    let q4 = e4 ∙ column-next (y1 ++ y2 ++ y3) out o3 10 m3 q3 y4 4 n4 in
    let q5 = e5 ∙ column-next (y1 ++ y2 ++ y3 ++ y4) out o4 14 m4 q4 y5 w n5 in
    byte_next (y1 ++ y2 ++ y3 ++ y4 ++ y5) out o5 (14 + w) m5 q5 10 h
