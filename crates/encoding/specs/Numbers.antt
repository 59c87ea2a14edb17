-- A number as eight bytes, the lowest first; below 0 as two's complement. Assumes nothing.
use Rattle.std.specs.Prelude.{List, [], ◌∷◌, ℕ, zero, suc, ◌+◌, ◌*◌, ◌-◌, ◌/◌, ◌%◌, ◌^◌, ℤ, pos, negsuc, ltb, take, drop, if◌then◌else◌}

-- x as k bytes
abbrev pub lowest_first : ℕ → ℕ → List ℕ
lowest_first zero x = []
lowest_first (suc k) x = x % 256 ∷ lowest_first k (x / 256)

-- the number that bytes say
abbrev pub value_of_bytes : List ℕ → ℕ
value_of_bytes [] = 0
value_of_bytes (b ∷ bs) = b + 256 * value_of_bytes bs

unfoldable pub number_bytes : ℕ → List ℕ
number_bytes x = lowest_first 8 x

-- the number in the eight bytes from byte `at` on
unfoldable pub number_at : List ℕ → ℕ → ℕ
number_at bytes at = value_of_bytes (take 8 (drop at bytes))

-- the greatest number of eight bytes
abbrev pub greatest_word : ℕ
greatest_word = 18_446_744_073_709_551_615

-- two's complement: minus 1 is the greatest number, minus 2 the one before it
abbrev pub word_of : ℤ → ℕ
word_of (pos n) = n
word_of (negsuc n) = greatest_word - n

abbrev pub signed_of : ℕ → ℤ
signed_of x = if ltb x (2 ^ 63) then pos x else negsuc (greatest_word - x)
