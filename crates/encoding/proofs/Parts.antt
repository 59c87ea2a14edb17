-- Parts that are put one after the other until the output is full. Assumes nothing.
use Rattle.std.specs.Prelude.{Result, ⊤}
use Rattle.definitions.specs.declared.Refusal.{Refusal}
use mathlib.Core.Path.{◌≡◌, refl, sym, ◌∙◌}
use mathlib.Core.Bool.{Bool}
use mathlib.Core.List.{List, ◌++◌, append-nil}
use Prim.Native.Nat.{ℕ, ◌+◌}
use native.Mathlib.Omega.{arith}
use lib.IntN.{ℤ}
use lib.ListN.{length, drop_of_length-le}
use Rattle.texts.specs.Texts.{placed_at}
use Rattle.texts.proofs.Placed.{placed_first, Printed, printed-next}
use Rattle.encoding.specs.declared.Begun.{Begun}
use Rattle.encoding.specs.Numbers.{number_bytes}
use Rattle.encoding.specs.RecordBytes.{record_numbers, record_tags}
use Rattle.encoding.proofs.Values.{word-length}

pub first-number : (x : ℕ) {out l : List ℕ} → l ≡ placed_at 0 (number_bytes x) out → Printed (number_bytes x) out l 8
first-number x {out} q = record { bytes = q ∙ placed_first (number_bytes x) out; count = sym (word-length x) }

module _ {text out l : List ℕ} {n : ℕ} (p : Printed text out l n) where
  pub next-number : (x : ℕ) {k : List ℕ} → k ≡ placed_at n (number_bytes x) l → Printed (text ++ number_bytes x) out k (n + 8)
  next-number x q = printed-next p (number_bytes x) (omega (arith, word-length x)) q

  pub next-part : (ys : List ℕ) (m : ℕ) {k : List ℕ} → length ys ≡ m → k ≡ placed_at n ys l → Printed (text ++ ys) out k (n + m)
  next-part ys m e q = printed-next p ys (omega (arith, e)) q

  -- the output has no more bytes
  pub full : length out ≡ n → l ≡ text
  full e = p.bytes ∙ rw (drop_of_length-le out {i = length text} (omega (arith, p.count)), append-nil)

-- ---- the record's parts

pub numbers-length : (rounds : ℕ) (start : ℤ) (q : Begun) → length (record_numbers rounds start q) ≡ 48
unfolding record_numbers number_bytes
numbers-length rounds start q = refl

pub tags-length : (moved : Bool) (q : Begun) (standing : Result ⊤ Refusal) → length (record_tags moved q standing) ≡ 4
unfolding record_tags
tags-length moved q standing = refl
