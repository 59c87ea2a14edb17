-- Two's complement of the code's signed numbers. Assumes nothing.
use mathlib.Core.Path.{◌≡◌, refl, ap}
use mathlib.Core.Bool.{false}
use Prim.Native.Nat.{◌-◌, ◌<◌, ◌^◌}
use native.Mathlib.Omega.{arith}
use lib.IntN.{ℤ, pos, negsuc, nat_abs}
use lib.Signed.{lt_z}
use mir.Syntax.{w64}
use mir.Val.{SFits}
use borrow.Author.Tests.{lt-ltb, le-ltb}
use Rattle.integers.specs.Linear.{zs}
use Rattle.encoding.specs.Numbers.{greatest_word, word_of, signed_of}

-- ---- to bits

from_bits : (z : ℤ) → lt_z z (pos 0) ≡ false → nat_abs z ≡ word_of z
from_bits (pos n) h = refl
from_bits (negsuc n) h = absurd (omega zs)

-- ---- there and back

pub signed_back : (z : ℤ) → SFits w64 z → signed_of (word_of z) ≡ z
signed_back (pos n) f = simp (lt-ltb n (2 ^ 63) f.sfits)
signed_back (negsuc n) f = simp (le-ltb (greatest_word - n) (2 ^ 63) (omega (arith, f.sfits))) (ap negsuc (omega (arith, f.sfits)))

pub bits_fit : (z : ℤ) → SFits w64 z → word_of z < 2 ^ 64
bits_fit (pos n) f = omega (arith, f.sfits)
bits_fit (negsuc n) f = omega arith
