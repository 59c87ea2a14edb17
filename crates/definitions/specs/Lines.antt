-- Document 01, "Lines": numbers in columns, and lines of five columns and a line feed. `line_text` is the meaning; `read_line` takes each text
-- back, and nothing else (proofs/LineLaws). The width of the amount column is an argument. Assumes nothing.
use Rattle.std.specs.Prelude.{Bool, true, false, not, ◌&&◌, ◌||◌, List, [], ◌∷◌, ◌++◌, ℕ, zero, suc, ◌+◌, ◌*◌, ◌-◌, ◌/◌, ◌%◌, ℤ, pos, negsuc, ltb, eqb, length, get_or, take, drop, replicate, if◌then◌else◌, Option, Some, None}
use Rattle.std.specs.Int.Signed.{le_z, lt_z}
use Rattle.integers.specs.Words.{within, any, is_in, minus, eq_z, ◌⇒◌, ◌>>=◌}
use Rattle.definitions.specs.declared.Line.{Line}
use Rattle.definitions.specs.Rules.{Rules, Kind}

-- ---- numbers as text. Bytes: space 32, minus 45, digits 48 to 57, line feed 10

-- the decimal digits of n, of which there are at most so many
abbrev pub digits_in : ℕ → ℕ → List ℕ
digits_in zero n = []
digits_in (suc f) n = elim (ltb n 10) [
  | true ↦ (48 + n) ∷ []
  | false ↦ digits_in f (n / 10) ++ ((48 + n % 10) ∷ [])
]

-- no leading zeros
abbrev pub decimal : ℕ → List ℕ
decimal n = digits_in (suc n) n

-- minus directly before the digits, no −0
abbrev pub number_text : ℤ → List ℕ
number_text (pos n) = decimal n
number_text (negsuc n) = 45 ∷ decimal (suc n)

-- a number is too wide for a column
abbrev pub too_wide : ℕ → ℤ → Bool
too_wide width z = ltb width (length (number_text z))

-- right-justified with spaces
abbrev pub column_text : ℕ → ℤ → List ℕ
column_text width z = replicate (width - length (number_text z)) 32 ++ number_text z

-- ---- numbers read

abbrev pub is_digit : ℕ → Bool
is_digit b = within 48 57 b

-- the number whose digits are those of v and then these
abbrev pub read_digits : ℕ → List ℕ → Option ℕ
read_digits v [] = Some v
read_digits v (b ∷ bs) = if is_digit b then read_digits (v * 10 + (b - 48)) bs else None

-- digits, of which the first is not 0
abbrev pub read_positive : List ℕ → Option ℕ
read_positive [] = None
read_positive (b ∷ bs) = if eqb b 48 then None else read_digits 0 (b ∷ bs)

-- 0 by itself, or a minus and then a positive number, or a positive number
abbrev pub read_number : List ℕ → Option ℤ
read_number [] = None
read_number (b ∷ bs) =
    if eqb b 45 then (read_positive bs >>= λ v. Some (minus v))
    else if eqb b 48 then (if eqb (length bs) 0 then Some (pos 0) else None)
    else (read_positive (b ∷ bs) >>= λ v. Some (pos v))

-- the spaces in front are passed over
abbrev pub read_column : List ℕ → Option ℤ
read_column [] = None
read_column (b ∷ bs) = if eqb b 32 then read_column bs else read_number (b ∷ bs)

-- ---- lines

-- columns of 2, 4, 4, 4 and `width` characters, and a line feed
abbrev pub feed_at : ℕ → ℕ
feed_at width = 14 + width

abbrev pub line_length : ℕ → ℕ
line_length width = 15 + width

abbrev pub line_text : ℕ → Line → List ℕ
line_text width l =
    column_text 2 l.kind ++ column_text 4 l.a ++ column_text 4 l.b ++ column_text 4 l.c ++ column_text width l.amount ++ (10 ∷ [])

-- some number of the line is too wide for its column
abbrev pub line_too_wide : ℕ → Line → Bool
line_too_wide width l =
    too_wide 2 l.kind || too_wide 4 l.a || too_wide 4 l.b || too_wide 4 l.c || too_wide width l.amount

-- the number in the column of t that begins at byte p
abbrev pub column_at : ℕ → ℕ → List ℕ → Option ℤ
column_at p width t = read_column (take width (drop p t))

abbrev pub read_line : ℕ → List ℕ → Option Line
read_line width t =
    if eqb (length t) (line_length width) && eqb (get_or t (feed_at width) 0) 10
    then (do
      kind ← column_at 0 2 t
      a ← column_at 2 4 t
      b ← column_at 6 4 t
      c ← column_at 10 4 t
      amount ← column_at 14 width t
      Some (record { kind = kind; a = a; b = b; c = c; amount = amount }))
    else None

abbrev pub line : ℕ → ℤ → ℤ → ℤ → ℤ → Line
line kind a b c amount = record { kind = pos kind; a = a; b = b; c = c; amount = amount }

-- ---- kinds

abbrev pub is_kind : ℕ → Line → Bool
is_kind k l = eq_z l.kind (pos k)

-- what was read is a line, and of kind k
abbrev pub has_kind : ℕ → Option Line → Bool
has_kind k None = false
has_kind k (Some l) = is_kind k l

-- unused columns hold 0
abbrev pub zero_unless : Bool → ℤ → Bool
zero_unless used z = not used ⇒ eq_z z (pos 0)

abbrev pub unused_zero : Kind → Line → Bool
unused_zero k l = zero_unless k.a l.a && zero_unless k.b l.b && zero_unless k.c l.c && zero_unless k.amount l.amount

-- number 2: the kind is not due here, or an unused column is not 0
abbrev pub not_due : Rules → List ℕ → Line → Bool
not_due r due l = not (any (λ k. is_kind k.kind l && is_in due k.kind && unused_zero k l) r.kinds)

-- the number in a column is none of those below n
abbrev pub outside : ℕ → ℤ → Bool
outside n z = not (le_z (pos 0) z && lt_z z (pos n))

-- ---- bytes cut into lines

-- n lines of the given length, and how many whole ones there are
abbrev pub cut_lines : ℕ → ℕ → List ℕ → List (List ℕ)
cut_lines long zero t = []
cut_lines long (suc n) t = take long t ∷ cut_lines long n (drop long t)

abbrev pub whole_lines : ℕ → List ℕ → ℕ
whole_lines width t = length t / line_length width

abbrev pub lines_in : ℕ → List ℕ → List (List ℕ)
lines_in width t = cut_lines (line_length width) (whole_lines width t) t

-- fewer bytes than a line are left over
abbrev pub has_part : ℕ → List ℕ → Bool
has_part width t = not (eqb (length t % line_length width) 0)

-- the first bytes of a lent output are these, the others keep what they held
abbrev pub overwritten : List ℕ → List ℕ → List ℕ
overwritten bytes out = bytes ++ drop (length bytes) out
