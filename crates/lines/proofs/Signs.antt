-- Signed numbers of the code: digits with a sign put before them, a number without its sign, and a column. Assumes nothing.
use mathlib.Core.Path.{◌≡◌, refl, sym, ap, ◌∙◌}
use mathlib.Core.Bool.{true, false}
use mathlib.Core.List.{List, ◌∷◌, ◌++◌}
use Prim.Native.Nat.{ℕ, suc, ◌+◌, ◌-◌, ◌≤◌, ◌<◌, ◌^◌}
use native.Mathlib.Omega.{arith}
use lib.IntN.{ℤ, pos, negsuc, nat_abs, ◌+ℤ◌, ◌-ℤ◌}
use lib.ListN.{length, take, set, replicate, length-replicate, replicate-append-replicate}
use lib.Seq.{append_snoc}
use lib.Signed.{lt_z}
use mir.Syntax.{w64}
use mir.Val.{SFits, to_z, of_z}
use mir.ValLaws.{to_z_pos}
use mir.Facts.{to_z-of_z}
use Rattle.integers.specs.Words.{minus}
use Rattle.integers.specs.Linear.{zs, flat, ◌▸◌}
use Rattle.definitions.specs.Lines.{decimal, number_text, column_text}
use Rattle.definitions.proofs.ColumnLaws.{fits_iff, fits-digits}
use Rattle.lines.specs.Digits.{sign_byte}
use Rattle.lines.proofs.Stores.{stored-before, take-spaces}

module _ (v : ℕ) (h : v < 10 ^ 18) where
  pub plain_fits : SFits w64 (pos v)
  plain_fits = record { sfits = omega arith }

  pub plain-is : to_z w64 v ≡ pos v
  plain-is = to_z_pos w64 v (omega arith)

  negative_fits : SFits w64 (pos 0 -ℤ to_z w64 v)
  negative_fits = rw plain-is (simp flat (omega zs))

  pub negative-is : to_z w64 (of_z w64 (pos 0 -ℤ to_z w64 v)) ≡ minus v
  negative-is = to_z-of_z negative_fits ∙ rw plain-is (simp flat (omega zs))

-- ---- a number below 0, and one from 0 on

text-below : (z : ℤ) → lt_z z (pos 0) ≡ true → number_text z ≡ 45 ∷ decimal (nat_abs z)
text-below (pos n) h = absurd (omega zs)
text-below (negsuc n) h = refl

text-from : (z : ℤ) → lt_z z (pos 0) ≡ false → number_text z ≡ decimal (nat_abs z)
text-from (pos n) h = refl
text-from (negsuc n) h = absurd (omega zs)

sign_below : (z : ℤ) → lt_z z (pos 0) ≡ true → sign_byte z ≡ 45
sign_below (pos n) h = absurd (omega zs)
sign_below (negsuc n) h = refl

sign-from : (z : ℤ) → lt_z z (pos 0) ≡ false → sign_byte z ≡ 32
sign-from (pos n) h = refl
sign-from (negsuc n) h = absurd (omega zs)

pub digits-most : (z : ℤ) → length (decimal (nat_abs z)) ≤ length (number_text z)
digits-most (pos n) = omega arith
digits-most (negsuc n) = omega arith

without : (z : ℤ) → lt_z z (pos 0) ≡ true → (pos 0 -ℤ (z +ℤ pos 1) ≡ pos (nat_abs z - 1)) × (0 < nat_abs z)
without (pos n) h = absurd (omega zs)
without (negsuc n) h = (simp flat (omega zs), omega arith)

from-0 : (z : ℤ) → lt_z z (pos 0) ≡ false → z ≡ pos (nat_abs z)
from-0 (pos n) h = refl
from-0 (negsuc n) h = absurd (omega zs)

pub abs-most : (z : ℤ) → SFits w64 z → nat_abs z ≤ 2 ^ 63
abs-most (pos n) f = omega (arith, f.sfits)
abs-most (negsuc n) f = omega (arith, f.sfits)

pub abs-digits : (z : ℤ) → SFits w64 z → length (decimal (nat_abs z)) ≤ 19
abs-digits z f = (fits_iff 19 (pos (nat_abs z))).0 (fits-digits 19 (nat_abs z) (omega arith) (omega (arith, abs-most z f)))

module _ (z : ℤ) (f : SFits w64 z) where
  pub same : to_z w64 (of_z w64 z) ≡ z
  same = to_z-of_z f

  module _ (h : lt_z (to_z w64 (of_z w64 z)) (pos 0) ≡ true) where
    pub negative-text : number_text z ≡ 45 ∷ decimal (nat_abs z)
    negative-text = text-below z (rw same at h)

    pub minus-sign : sign_byte z ≡ 45
    minus-sign = sign_below z (rw same at h)

    pub some-abs : 0 < nat_abs z
    some-abs = (without z (rw same at h)).1

    pub next_fits : SFits w64 (to_z w64 (of_z w64 z) +ℤ pos 1)
    next_fits = h ▸ rw same (simp flat (omega zs))

    pub less-fits : SFits w64 (pos 0 -ℤ to_z w64 (of_z w64 (to_z w64 (of_z w64 z) +ℤ pos 1)))
    less-fits = h ▸ rw (to_z-of_z next_fits, same) (simp flat (omega zs))

    pub less-is : to_z w64 (of_z w64 (pos 0 -ℤ to_z w64 (of_z w64 (to_z w64 (of_z w64 z) +ℤ pos 1)))) ≡ pos (nat_abs z - 1)
    less-is = to_z-of_z less-fits ∙ rw (to_z-of_z next_fits, same) (without z (rw same at h)).0

  module _ (h : lt_z (to_z w64 (of_z w64 z)) (pos 0) ≡ false) where
    pub plain-text : number_text z ≡ decimal (nat_abs z)
    plain-text = text-from z (rw same at h)

    pub no_sign : sign_byte z ≡ 32
    no_sign = sign-from z (rw same at h)

    pub plain-abs : to_z w64 (of_z w64 z) ≡ pos (nat_abs z)
    plain-abs = same ∙ from-0 z (rw same at h)

-- ---- a column is spaces, the byte before the digits, and the digits; r bytes stand before the digits

sign-column : (z : ℤ) (n r : ℕ) → r + length (decimal (nat_abs z)) ≡ n → 0 < r → replicate (r - 1) 32 ++ (sign_byte z ∷ decimal (nat_abs z)) ≡ column_text n z
sign-column (pos k) n r m p =
    let q : n - length (decimal k) ≡ r - 1 + 1 = omega arith in
    rw q (sym (append_snoc (replicate (r - 1) 32) 32 (decimal k)) ∙ ap (λ t. t ++ decimal k) (replicate-append-replicate (r - 1) 1 32))
sign-column (negsuc k) n r m p = let q : n - suc (length (decimal (suc k))) ≡ r - 1 = omega arith in rw q

full-column : (z : ℤ) (n : ℕ) → length (decimal (nat_abs z)) ≡ n → length (number_text z) ≤ n → decimal (nat_abs z) ≡ column_text n z
full-column (pos k) n m h = let q : n - length (decimal k) ≡ 0 = omega arith in rw q
full-column (negsuc k) n m h = absurd (omega arith)

module _ (z : ℤ) (n r : ℕ) (o : List ℕ) (m : r + length (decimal (nat_abs z)) ≡ n) (e : o ≡ take r (replicate n 32) ++ decimal (nat_abs z)) where
  pub sign-stored : 0 < r → set o (r - 1) (sign_byte z) ≡ column_text n z
  sign-stored p =
      stored-before (replicate n 32) (decimal (nat_abs z)) o r (sign_byte z) p (simp length-replicate (omega arith)) e
      ∙ rw (take-spaces (r - 1) n 32 (omega arith)) (sign-column z n r m p)

  pub nothing-before : length (number_text z) ≤ n → r ≤ 0 → o ≡ column_text n z
  nothing-before h p =
      let q : r ≡ 0 = omega arith in
      e ∙ rw q (full-column z n (omega arith) h)
