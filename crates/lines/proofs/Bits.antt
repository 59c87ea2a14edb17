-- Numbers of 64 bits. Assumes nothing.
use mathlib.Core.Path.{◌≡◌, sym, ap, ◌∙◌}
use Prim.Native.Nat.{◌^◌, ◌<◌}
use lib.IntN.{ℤ}
use lib.Dec.{eqb, eqb→eq}
use lib.Signed.{mag}
use mir.Syntax.{w64}
use mir.Val.{hbits, to_z, of_z}
use Rattle.integers.specs.Words.{eq_z}
use Rattle.integers.specs.Tests.{same_test, eqb-iff}
use Rattle.integers.specs.Linear.{T-eq, read_back}

-- numbers are equal just where their bits are
module _ (a b : ℤ) (p : mag a < 2 ^ hbits w64) (q : mag b < 2 ^ hbits w64) where
  pub same_number : of_z w64 a ≡ of_z w64 b → a ≡ b
  same_number e = sym (read_back w64 a p) ∙ ap (to_z w64) e ∙ read_back w64 b q

  pub bits-test : eqb (of_z w64 a) (of_z w64 b) ≡ eq_z a b
  bits-test = same_test (eqb (of_z w64 a) (of_z w64 b)) (eq_z a b)
      (λ t. (T-eq a b).1 (same_number (eqb→eq (of_z w64 a) (of_z w64 b) t)))
      (λ t. (eqb-iff (of_z w64 a) (of_z w64 b)).1 (ap (of_z w64) ((T-eq a b).0 t)))
