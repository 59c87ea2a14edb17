-- Signed numbers in the code: numbers from 0 on, and the range of a column. Assumes nothing.
use mathlib.Core.Path.{◌≡◌, refl}
use mathlib.Core.Bool.{true, false, not}
use mathlib.Core.Logic.{⊎_elim}
use mathlib.Core.List.{List}
use Prim.Native.Nat.{ℕ, ◌+◌, ◌≤◌, ◌<◌}
use native.Mathlib.Numerals.{add-one}
use native.Mathlib.Omega.{arith}
use lib.IntN.{ℤ, pos, negsuc, nat_abs}
use lib.Dec.{T, eqb, leb, ltb, leb→le, nleb→lt}
use lib.Signed.{lt_z}
use lib.ListN.{length, get_or, drop, drop_of_length-le}
use lib.Seq.{drop-cons}
use borrow.Author.Tests.{ne_eqb, le-leb, le-ltb, lt-ltb}
use Rattle.integers.specs.Words.{within_z, all}
use Rattle.integers.specs.Tests.{tests, either, is_true, is_false}
use Rattle.integers.specs.Linear.{zs}
use Rattle.definitions.specs.Lines.{outside}

-- a number below 0, and one from 0 on
pub outside_below : (n : ℕ) (z : ℤ) → lt_z z (pos 0) ≡ true → true ≡ outside n z
outside_below n (pos k) h = absurd (omega zs)
outside_below n (negsuc k) h = refl

pub from-test : (n k : ℕ) → leb n k ≡ not (ltb k n)
from-test n k =
    ⊎_elim
    (λ t. rw (is_true (leb n k) t, le-ltb k n (leb→le n k t)))
    (λ t. rw (is_false (leb n k) t, lt-ltb k n (nleb→lt n k t)))
    (either (leb n k))

pub outside-from : (n : ℕ) (z : ℤ) → lt_z z (pos 0) ≡ false → leb n (nat_abs z) ≡ outside n z
outside-from n (pos k) h = rw (le-leb 0 k (omega arith)) (from-test n k)
outside-from n (negsuc k) h = absurd (omega zs)

pub inside-from-zero : (n : ℕ) (z : ℤ) → T (not (outside n z)) → lt_z z (pos 0) ≡ false
inside-from-zero n (pos k) t = le-ltb k 0 (omega arith)
inside-from-zero n (negsuc k) t = absurd t

-- whether all bytes from x on are 0
module _ (l : List ℕ) (x : ℕ) where
  pub zero-next : x < length l → get_or l x 0 ≡ 0 → all (λ b. eqb b 0) (drop (x + 1) l) ≡ all (λ b. eqb b 0) (drop x l)
  zero-next h e = rw (drop-cons l x 0, e, add-one)

  pub zero-stops : x < length l → (get_or l x 0 ≡ 0 → ⊥) → false ≡ all (λ b. eqb b 0) (drop x l)
  zero-stops h f = rw (drop-cons l x 0, ne_eqb (get_or l x 0) 0 f)

  pub zero-end : length l ≤ x → true ≡ all (λ b. eqb b 0) (drop x l)
  zero-end h = rw (drop_of_length-le l h)

-- a count in its range
pub count-in-range : (m : ℕ) (z : ℤ) → T (within_z (pos 1) (pos m) z) → (lt_z z (pos 0) ≡ false) × (1 ≤ nat_abs z) × (nat_abs z ≤ m)
count-in-range m (pos n) t = let (p, q) = simp tests at t in (le-ltb n 0 (omega arith), p, q)
count-in-range m (negsuc n) t = absurd t
