-- Bytes placed one after the other, by calls that are lent the end of the output. Assumes nothing.
use mathlib.Core.Path.{◌≡◌, refl, sym, ap, ◌∙◌}
use mathlib.Core.List.{List, [], ◌++◌, append_assoc, append-nil}
use Prim.Native.Nat.{ℕ, ◌+◌, ◌-◌, ◌≤◌}
use native.Mathlib.Omega.{arith}
use lib.IntN.{ℤ, pos, negsuc}
use lib.ListN.{length, drop, length-append, length-drop, drop_of_length-le}
use lib.Seq.{take_all, take_at, drop_at, drop-drop}
use borrow.Rule.Slice.PartMut.{mid_of, post_of, put_mid}
use mir.Syntax.{w64}
use mir.Val.{SFits}
use Rattle.definitions.specs.Lines.{number_text, overwritten}
use Rattle.lines.proofs.Signs.{abs-digits}
use Rattle.texts.specs.Texts.{placed_at}

-- after the bytes xs, the bytes ys
pub placed-next : (xs ys out : List ℕ) (n : ℕ) → length xs ≡ n → placed_at n ys (overwritten xs out) ≡ overwritten (xs ++ ys) out
unfolding placed_at
placed-next xs ys out n e =
    rw (take_at xs (drop (length xs) out) n e, drop_at xs (drop (length xs) out) n e, drop-drop (length ys) (length xs) out)
    (simp (append_assoc, length-append))

pub placed_first : (xs out : List ℕ) → placed_at 0 xs out ≡ overwritten xs out
unfolding placed_at
placed_first xs out = refl

-- the part from byte `at` to the end
module _ (at : ℕ) (out : List ℕ) where
  pub part-is : mid_of at (length out - at) out ≡ drop at out
  part-is = take_all (length out - at) (drop at out) (omega (arith, length-drop at out))

  pub part_placed : (xs y : List ℕ) → y ≡ overwritten xs (drop at out) → at ≤ length out → put_mid at (length out - at) out y ≡ placed_at at xs out
  unfolding placed_at
  part_placed xs y e h =
      let z : post_of at (length out - at) out ≡ [] = drop_of_length-le (drop at out) {i = length out - at} (omega (arith, length-drop at out)) in
      rw (z, e) (simp append-nil)

-- the part of so many bytes from byte `at` on
pub part_copied : (at n : ℕ) (xs y out : List ℕ) → y ≡ xs → n ≡ length xs → put_mid at n out y ≡ placed_at at xs out
unfolding placed_at
part_copied at n xs y out e h = rw (e, h) refl

-- the output's first n bytes are the text, the others are as before
pub record Printed (text out l : List ℕ) (n : ℕ) : Type 0 where
  pub bytes : l ≡ overwritten text out
  pub count : n ≡ length text

module _ {text out l : List ℕ} {n : ℕ} (p : Printed text out l n) where
  pub printed-next : (ys : List ℕ) {k : List ℕ} {m : ℕ} → m ≡ n + length ys → k ≡ placed_at n ys l → Printed (text ++ ys) out k m
  printed-next ys e q = record {
    bytes = q ∙ ap (placed_at n ys) p.bytes ∙ placed-next text ys out n (sym p.count);
    count = rw length-append (omega (arith, p.count));
  }

  pub printed-length : length text ≤ length out → length l ≡ length out
  printed-length h = ap length p.bytes ∙ rw (length-append, length-drop) (omega arith)

  pub room-left : (k : ℕ) → length text + k ≤ length out → n + k ≤ length l
  room-left k h = omega (arith, p.count, printed-length (omega arith))

pub number-length : (z : ℤ) → SFits w64 z → length (number_text z) ≤ 20
number-length (pos n) f = omega (arith, abs-digits (pos n) f)
number-length (negsuc n) f = omega (arith, abs-digits (negsuc n) f)
