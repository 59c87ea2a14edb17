-- Sets of at most eight values, as marks in a byte. Assumes nothing.
use Rattle.std.specs.Prelude.{Bool, not, ◌&&◌, ◌||◌, List, ℕ, ◌-◌, ◌/◌, ◌%◌, ◌^◌, ltb, eqb, length, if◌then◌else◌, Some, None}
use Rattle.integers.specs.Words.{below, those, first, bits_of}

-- value k is in the set s
unfoldable pub mark : ℕ → ℕ → Bool
mark s k = eqb (s / 2 ^ k % 2) 1

-- the set of the values below 8 at which f passes
unfoldable pub byte_of : (ℕ → Bool) → ℕ
byte_of f = bits_of 8 f

-- the values of a set, rising
unfoldable pub members : ℕ → List ℕ
members s = those (mark s) (below 8)

-- the lowest value of a set, 8 if it has none
unfoldable pub lowest_of : ℕ → ℕ
lowest_of s = elim (first (members s)) [
  | None ↦ 8
  | Some k ↦ k
]

unfoldable pub is_single : ℕ → Bool
is_single s = eqb (length (members s)) 1

-- a set without a value, and with one; every value one higher, and 0 or not; a value alone; the values below d; the values of both sets
abbrev pub without : ℕ → ℕ → ℕ
without s v = byte_of (λ j. mark s j && not (eqb j v))

abbrev pub added : ℕ → ℕ → ℕ
added s v = byte_of (λ j. mark s j || eqb j v)

abbrev pub pushed : ℕ → Bool → ℕ
pushed s low = byte_of (λ j. if eqb j 0 then low else mark s (j - 1))

abbrev pub only_of : ℕ → ℕ
only_of v = byte_of (λ j. eqb j v)

abbrev pub full_of : ℕ → ℕ
full_of d = byte_of (λ j. ltb j d)

abbrev pub in_both : ℕ → ℕ → ℕ
in_both a b = byte_of (λ j. mark a j && mark b j)
