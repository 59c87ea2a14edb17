-- A number is too wide when its digits are more than its column has room for. Assumes nothing.
use mathlib.Core.Path.{◌≡◌, sym, ◌∙◌}
use mathlib.Core.Bool.{true, false, ◌||◌, or-false}
use mathlib.Core.Logic.{⊎_elim}
use Prim.Native.Nat.{ℕ, suc, ◌+◌, ◌*◌, ◌-◌, ◌≤◌, ◌<◌, ◌^◌}
use native.Mathlib.Nat.{pow-suc, pow-le-pow_right}
use native.Mathlib.Numerals.{add-one}
use native.Mathlib.Omega.{arith}
use borrow.Author.Tests.{le-ltb, lt-ltb, le-leb, lt-leb}
use lib.Dec.{ltb, leb, ltb→lt, nltb→le}
use lib.Signed.{lt_z, le_z}
use mir.Syntax.{w64}
use mir.Val.{SFits, to_z, of_z}
use mir.Facts.{to_z-of_z}
use Rattle.std.specs.Prelude.{if◌then◌else◌}
use lib.IntN.{ℤ, pos, negsuc, nat_abs, ◌-ℤ◌}
use lib.ListN.{length}
use Rattle.integers.specs.Tests.{either, same_test}
use Rattle.integers.specs.Linear.{zs, flat, ◌▸◌}
use Rattle.definitions.specs.Lines.{too_wide, number_text}
use Rattle.definitions.proofs.ColumnLaws.{fits_iff, fits_below, fits-digits, fits}
use Rattle.lines.proofs.Steps.{pow_pos}

-- a minus takes a byte
abbrev digit_room : ℕ → ℤ → ℕ
digit_room w z = if lt_z z (pos 0) then w - 1 else w

fits-room : (w : ℕ) (z : ℤ) → 1 ≤ w → nat_abs z < 10 ^ digit_room w z → too_wide w z ≡ false
fits-room w (pos n) p h = fits-digits w n p (rw (le-ltb n 0 (omega arith)) at h)
fits-room w (negsuc n) p h = fits w (negsuc n) p h

room-below : (w : ℕ) (z : ℤ) → too_wide w z ≡ false → nat_abs z < 10 ^ digit_room w z
room-below w (pos n) h = rw (le-ltb n 0 (omega arith)) (fits_below w (pos n) h)
room-below w (negsuc n) h = fits_below (w - 1) (pos (suc n)) ((fits_iff (w - 1) (pos (suc n))).1 (omega (arith, (fits_iff w (negsuc n)).0 h)))

wide_room : (w : ℕ) (z : ℤ) → 10 ^ digit_room w z ≤ nat_abs z → too_wide w z ≡ true
wide_room w z h =
    ⊎_elim
    (λ t. lt-ltb w (length (number_text z)) (ltb→lt w (length (number_text z)) t))
    (λ f. absurd (omega (arith, room-below w z ((fits_iff w z).1 (nltb→le w (length (number_text z)) f)))))
    (either (too_wide w z))

wide_test : (w : ℕ) (z : ℤ) → 1 ≤ w → leb (10 ^ digit_room w z) (nat_abs z) ≡ too_wide w z
wide_test w z p =
    ⊎_elim
    (λ t. let h = ltb→lt (nat_abs z) (10 ^ digit_room w z) t in lt-leb (10 ^ digit_room w z) (nat_abs z) h ∙ sym (fits-room w z p h))
    (λ t. let h = nltb→le (nat_abs z) (10 ^ digit_room w z) t in le-leb (10 ^ digit_room w z) (nat_abs z) h ∙ sym (wide_room w z h))
    (either (ltb (nat_abs z) (10 ^ digit_room w z)))

-- from the least number with a minus to the greatest without
pub wide-range : (w : ℕ) (z : ℤ) → 1 ≤ w → (le_z z (pos 0 -ℤ pos (10 ^ (w - 1))) || le_z (pos (10 ^ w)) z) ≡ too_wide w z
wide-range w (pos n) p =
    let k : le_z (pos n) (pos 0 -ℤ pos (10 ^ (w - 1))) ≡ false = pow_pos (w - 1) ▸ simp flat (omega zs) in
    rw k (rw (le-ltb n 0 (omega arith)) at (wide_test w (pos n) p))
wide-range w (negsuc n) p =
    let k : le_z (negsuc n) (pos 0 -ℤ pos (10 ^ (w - 1))) ≡ leb (10 ^ (w - 1)) (suc n) =
    same_test _ _ (λ t. t ▸ simp flat (omega zs)) (λ t. t ▸ simp flat (omega zs)) in
    rw (k, or-false) (wide_test w (negsuc n) p)

pub next_power : (i : ℕ) → 10 ^ i * 10 ≡ 10 ^ (i + 1)
next_power i = rw (add-one, pow-suc) (omega arith)

pub power-most : (i : ℕ) → i ≤ 18 → 10 ^ i ≤ 10 ^ 18
power-most i h = pow-le-pow_right {n = 10} (omega arith) {i = i} {j = 18} h

-- 10 ^ i and what it is below 0, as an i64
module _ (i : ℕ) (h : i ≤ 18) where
  pub power-is : to_z w64 (of_z w64 (pos (10 ^ i))) ≡ pos (10 ^ i)
  power-is = let k = power-most i h in to_z-of_z {w = w64} (record { sfits = omega arith })

  pub minus-fits : SFits w64 (pos 0 -ℤ to_z w64 (of_z w64 (pos (10 ^ i))))
  minus-fits = let k = power-most i h in rw power-is (simp flat (omega zs))

  pub minus_is : to_z w64 (of_z w64 (pos 0 -ℤ to_z w64 (of_z w64 (pos (10 ^ i))))) ≡ pos 0 -ℤ pos (10 ^ i)
  minus_is = to_z-of_z minus-fits ∙ rw power-is
