-- Numbers of bytes. Assumes nothing.
use mathlib.Core.Path.{◌≡◌, refl, ap, ◌∙◌}
use mathlib.Core.List.{List, [], ◌∷◌, ◌++◌, append-nil}
use Prim.Native.Nat.{ℕ, zero, suc, ◌+◌, ◌*◌, ◌-◌, ◌/◌, ◌%◌, ◌^◌, ◌≤◌, ◌<◌}
use native.Mathlib.Nat.{add-zero, div-add-mod', div-lt_iff_lt-mul, pow-succ'}
use native.Mathlib.Omega.{arith}
use lib.ListN.{length, take, drop, get_or, length-drop, drop_of_length-le}
use lib.Seq.{get_or-drop, drop-drop, take-length, length-take-le}
use Rattle.encoding.specs.Numbers.{lowest_first, value_of_bytes, number_bytes, number_at}
use Rattle.std.specs.List.{slice_index}

-- ---- read

value-4 : (l : List ℕ) → 4 ≤ length l → value_of_bytes (take 4 l) ≡ get_or l 0 0 + get_or l 1 0 * 256 + get_or l 2 0 * 65536 + get_or l 3 0 * 16777216
value-4 [] h = absurd (omega arith)
value-4 (a ∷ []) h = absurd (omega arith)
value-4 (a ∷ b ∷ []) h = absurd (omega arith)
value-4 (a ∷ b ∷ c ∷ []) h = absurd (omega arith)
value-4 (a ∷ b ∷ c ∷ d ∷ l) h = omega arith

value-8 : (l : List ℕ) → 4 ≤ length l → value_of_bytes (take 8 l) ≡ value_of_bytes (take 4 l) + value_of_bytes (take 4 (drop 4 l)) * 4294967296
value-8 [] h = absurd (omega arith)
value-8 (a ∷ []) h = absurd (omega arith)
value-8 (a ∷ b ∷ []) h = absurd (omega arith)
value-8 (a ∷ b ∷ c ∷ []) h = absurd (omega arith)
value-8 (a ∷ b ∷ c ∷ d ∷ l) h = omega arith

module _ (l : List ℕ) (at : ℕ) where
  pub half_is :
      at + 4 ≤ length l
      → value_of_bytes (take 4 (drop at l)) ≡ get_or l at 0 + get_or l (at + 1) 0 * 256 + get_or l (at + 2) 0 * 65536 + get_or l (at + 3) 0 * 16777216
  half_is h = value-4 (drop at l) (omega (arith, length-drop at l)) ∙ simp (get_or-drop, add-zero)

  pub number_is : at + 8 ≤ length l → number_at l at ≡ value_of_bytes (take 4 (drop at l)) + value_of_bytes (take 4 (drop (at + 4) l)) * 4294967296
  unfolding number_at
  number_is h = value-8 (drop at l) (omega (arith, length-drop at l)) ∙ simp drop-drop

-- the eight bytes by their places
pub eight_is :
    (l : List ℕ) → length l ≡ 8
    → slice_index l 0 + slice_index l 1 * 256 + slice_index l 2 * 65536 + slice_index l 3 * 16777216 + slice_index l 4 * 4294967296
    + slice_index l 5 * 1099511627776 + slice_index l 6 * 281474976710656 + slice_index l 7 * 72057594037927936 ≡ value_of_bytes l
eight_is [] q = absurd (omega arith)
eight_is (a ∷ []) q = absurd (omega arith)
eight_is (a ∷ b ∷ []) q = absurd (omega arith)
eight_is (a ∷ b ∷ c ∷ []) q = absurd (omega arith)
eight_is (a ∷ b ∷ c ∷ d ∷ []) q = absurd (omega arith)
eight_is (a ∷ b ∷ c ∷ d ∷ e ∷ []) q = absurd (omega arith)
eight_is (a ∷ b ∷ c ∷ d ∷ e ∷ f ∷ []) q = absurd (omega arith)
eight_is (a ∷ b ∷ c ∷ d ∷ e ∷ f ∷ g ∷ []) q = absurd (omega arith)
eight_is (a ∷ b ∷ c ∷ d ∷ e ∷ f ∷ g ∷ h ∷ []) q = omega arith
eight_is (a ∷ b ∷ c ∷ d ∷ e ∷ f ∷ g ∷ h ∷ i ∷ l) q = absurd (omega arith)

-- ---- written

pub word-length : (x : ℕ) → length (number_bytes x) ≡ 8
unfolding number_bytes
word-length x = refl

-- ---- parts

-- a part that is copied over as many bytes
pub copied :
    (n at : ℕ) (l d : List ℕ)
    → at + n ≤ length l
    → length d ≡ n
    → let part = take (at + n - at) (drop at l) in take (length part) part ++ drop (length part) d ≡ take n (drop at l)
copied n at l d h e =
    let m : at + n - at ≡ n = omega arith in
    let k : length (take n (drop at l)) ≡ n = length-take-le n (drop at l) (omega (arith, length-drop at l)) in
    rw (m, take-length, drop_of_length-le d {i = length (take n (drop at l))} (omega (arith, k)), append-nil)

-- ---- there and back

less : (k x : ℕ) → x < 256 ^ suc k → x / 256 < 256 ^ k
less k x h = (div-lt_iff_lt-mul {k = 256} {x = x} {y = 256 ^ k} (omega arith)).1 (omega (arith, rw (pow-succ' 256 k) at h))

again : (x : ℕ) → x % 256 + 256 * (x / 256) ≡ x
again x = omega (arith, div-add-mod' x 256)

back : (k x : ℕ) → x < 256 ^ k → value_of_bytes (lowest_first k x) ≡ x
back zero x h = omega arith
back (suc k) x h = ap (λ (v : ℕ). x % 256 + 256 * v) (back k (x / 256) (less k x h)) ∙ again x

pub number-back : (x : ℕ) → x < 2 ^ 64 → value_of_bytes (number_bytes x) ≡ x
unfolding number_bytes
number-back x h = back 8 x h
