-- Lines and numbers of a driver's vectors, and the checksum that it prints. Assumes nothing.
use Rattle.definitions.specs.declared.Refusal.{Refusal}
use Rattle.std.specs.Prelude.{List, [], ◌∷◌, ℕ, ◌+◌, ◌*◌, ◌%◌, ℤ, pos, negsuc, Result, Ok, Err}
use Rattle.definitions.specs.declared.Line.{Line}
use Rattle.definitions.specs.Lines.{line}

-- a title stands for a line of zeros
abbrev pub line_told : Result Line Refusal → Line
line_told (Ok l) = l
line_told (Err x) = line 0 (pos 0) (pos 0) (pos 0) (pos 0)

-- a number that is meant as a count; a negative one stands for `other`
abbrev pub count_or : ℕ → ℤ → ℕ
count_or other (pos n) = n
count_or other (negsuc n) = other

-- a checksum of bytes that goes on from an earlier one
unfoldable pub digest_from : ℕ → List ℕ → ℕ
digest_from sum [] = sum
digest_from sum (b ∷ bs) = digest_from ((sum * 31 + b) % 1_000_000_007) bs
