-- The greatest and the least of a list, one element after the other. Assumes nothing.
use mathlib.Core.Path.{◌≡◌, refl, ap, ◌∙◌}
use mathlib.Core.Bool.{true, false}
use mathlib.Core.List.{List, [], ◌∷◌, ◌++◌}
use Prim.Native.Nat.{ℕ, ◌+◌, ◌<◌}
use native.Mathlib.Numerals.{add-one}
use lib.IntN.{ℤ, pos}
use lib.Signed.{lt_z}
use lib.ListN.{length, get_or, take}
use lib.Seq.{take-suc}
use Rattle.integers.specs.Words.{max_z, min_z, greatest_of, smallest_of}
use Rattle.integers.specs.Linear.{zs}
use Rattle.integers.specs.Maxima.{mx, mn}

max_assoc : (a b c : ℤ) → max_z a (max_z b c) ≡ max_z (max_z a b) c
max_assoc a b c = omega (zs, mx a (max_z b c), mx b c, mx (max_z a b) c, mx a b)

greatest-last : (y : ℤ) (l : List ℤ) (z : ℤ) → greatest_of (y ∷ l ++ (z ∷ [])) ≡ max_z (greatest_of (y ∷ l)) z
greatest-last y [] z = refl
greatest-last y (x ∷ l) z = ap (max_z y) (greatest-last x l z) ∙ max_assoc y (greatest_of (x ∷ l)) z

-- the greatest of the first element and i of the rest, and then of one more
pub next-greatest : (y : ℤ) (l : List ℤ) (i : ℕ) → i < length l → greatest_of (y ∷ take (i + 1) l) ≡ max_z (greatest_of (y ∷ take i l)) (get_or l i (pos 0))
next-greatest y l i h = rw (add-one, take-suc l i (pos 0) h) (greatest-last y (take i l) (get_or l i (pos 0)))

module _ (a b m : ℤ) (e : m ≡ max_z a b) where
  pub takes : lt_z a b ≡ true → b ≡ m
  takes t = omega (zs, mx a b)

  pub keeps : lt_z a b ≡ false → a ≡ m
  keeps t = omega (zs, mx a b)

-- ---- the least

min_assoc : (a b c : ℤ) → min_z a (min_z b c) ≡ min_z (min_z a b) c
min_assoc a b c = omega (zs, mn a (min_z b c), mn b c, mn (min_z a b) c, mn a b)

least-last : (y : ℤ) (l : List ℤ) (z : ℤ) → smallest_of (y ∷ l ++ (z ∷ [])) ≡ min_z (smallest_of (y ∷ l)) z
least-last y [] z = refl
least-last y (x ∷ l) z = ap (min_z y) (least-last x l z) ∙ min_assoc y (smallest_of (x ∷ l)) z

pub next-least : (y : ℤ) (l : List ℤ) (i : ℕ) → i < length l → smallest_of (y ∷ take (i + 1) l) ≡ min_z (smallest_of (y ∷ take i l)) (get_or l i (pos 0))
next-least y l i h = rw (add-one, take-suc l i (pos 0) h) (least-last y (take i l) (get_or l i (pos 0)))

module _ (a b m : ℤ) (e : m ≡ min_z a b) where
  pub takes-less : lt_z b a ≡ true → b ≡ m
  takes-less t = omega (zs, mn a b)

  pub keeps-less : lt_z b a ≡ false → a ≡ m
  keeps-less t = omega (zs, mn a b)
