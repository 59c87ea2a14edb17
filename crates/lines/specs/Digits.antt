-- Digits four at a time, and the byte before them. Assumes nothing.
use Rattle.std.specs.Prelude.{List, [], ◌∷◌, ℕ, ◌+◌, ◌/◌, ◌%◌, ℤ, pos, negsuc}

-- a number below 10,000 as four digits
abbrev pub four_digits : ℕ → List ℕ
four_digits n = (48 + n / 1000) ∷ (48 + n / 100 % 10) ∷ (48 + n / 10 % 10) ∷ (48 + n % 10) ∷ []

-- a minus, or a space
abbrev pub sign_byte : ℤ → ℕ
sign_byte (pos n) = 32
sign_byte (negsuc n) = 45
