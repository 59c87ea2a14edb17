-- What the tests tell that the functions make. Assumes nothing.
use mathlib.Core.Path.{◌≡◌}
use mathlib.Core.Bool.{true, ◌&&◌}
use Prim.Native.Nat.{ℕ, ◌≤◌, ◌<◌}
use lib.Dec.{ltb, ltb→lt, lt→ltb}
use Rattle.integers.specs.Tests.{tests, is_true, true-is, and_left, and_right}
use Rattle.definitions.specs.Rules.{edge_places}
use Rattle.case_lines.specs.declared.Sizes.{Sizes}
use Rattle.case_lines.specs.Dues.{SizesLimited, is_plain, has_value, has_tuple}

pub is_below : (a b : ℕ) → ltb a b ≡ true → a < b
is_below a b e = ltb→lt a b (rw e tt)

module _ (s : Sizes) where
  pub plain_known : is_plain s ≡ true → (s.n ≤ 256) × (s.d ≤ 8) × (s.m ≤ edge_places)
  plain_known e = let ((n, d), m) = simp tests at e in (n, d, m)

  pub limited-plain : SizesLimited s → is_plain s ≡ true
  limited-plain l = simp tests ((l.variables-few, l.values-few), l.edges_placed)

  pub has-value-known : (i k : ℕ) → has_value s i k ≡ true → (is_plain s ≡ true) × (i < s.n) × (k < s.d)
  has-value-known i k e =
      let t = true-is (has_value s i k) e in
      let u = and_left (is_plain s && ltb i s.n) (ltb k s.d) t in (
        is_true (is_plain s) (and_left (is_plain s) (ltb i s.n) u),
        ltb→lt i s.n (and_right (is_plain s) (ltb i s.n) u),
        ltb→lt k s.d (and_right (is_plain s && ltb i s.n) (ltb k s.d) t),
      )

  pub has-tuple-known : (e k l : ℕ) → has_tuple s e k l ≡ true → (is_plain s ≡ true) × (e < s.m) × (k < s.d) × (l < s.d)
  has-tuple-known e k l h =
      let t = true-is (has_tuple s e k l) h in
      let u = and_left (is_plain s && ltb e s.m && ltb k s.d) (ltb l s.d) t in
      let v = and_left (is_plain s && ltb e s.m) (ltb k s.d) u in (
        is_true (is_plain s) (and_left (is_plain s) (ltb e s.m) v),
        ltb→lt e s.m (and_right (is_plain s) (ltb e s.m) v),
        ltb→lt k s.d (and_right (is_plain s && ltb e s.m) (ltb k s.d) u),
        ltb→lt l s.d (and_right (is_plain s && ltb e s.m && ltb k s.d) (ltb l s.d) t),
      )

  module _ (limited : SizesLimited s) where
    pub has-value : (i k : ℕ) → i < s.n → k < s.d → has_value s i k ≡ true
    has-value i k h g = rw (limited-plain limited, is_true (ltb i s.n) (lt→ltb i s.n h), is_true (ltb k s.d) (lt→ltb k s.d g))

    pub has-tuple : (e k l : ℕ) → e < s.m → k < s.d → l < s.d → has_tuple s e k l ≡ true
    has-tuple e k l h g f =
        rw (
          limited-plain limited,
          is_true (ltb e s.m) (lt→ltb e s.m h),
          is_true (ltb k s.d) (lt→ltb k s.d g),
          is_true (ltb l s.d) (lt→ltb l s.d f),
        )
