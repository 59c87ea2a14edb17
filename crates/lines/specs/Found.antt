-- The crate's own answers as values that may be missing, as the definitions have them. Assumes nothing.
use Rattle.definitions.specs.declared.Refusal.{Refusal}
use Rattle.std.specs.Prelude.{ℕ, ℤ, pos, Result, Ok, Err, Option, Some, None}
use Rattle.integers.specs.Words.{minus, ◌>>=◌}
use Rattle.definitions.specs.declared.Line.{Line}
use Rattle.definitions.specs.declared.Refusal.TheVariants.{NotInColumns}

abbrev pub digits_found : Option ℕ → Option ℕ
digits_found (Some v) = Some v
digits_found None = None

-- 0 where there is none
abbrev pub digits_value : Option ℕ → ℕ
digits_value (Some v) = v
digits_value None = 0

abbrev pub plain_found : Option ℕ → Option ℤ
plain_found o = o >>= λ v. Some (pos v)

abbrev pub negative_found : Option ℕ → Option ℤ
negative_found o = o >>= λ v. Some (minus v)

abbrev pub column_found : Option ℤ → Option ℤ
column_found (Some z) = Some z
column_found None = None

-- the line of five numbers that may be missing
abbrev pub line_found : Option ℤ → Option ℤ → Option ℤ → Option ℤ → Option ℤ → Option Line
line_found kind a b c amount = do
  kind ← kind
  a ← a
  b ← b
  c ← c
  amount ← amount
  Some (record { kind = kind; a = a; b = b; c = c; amount = amount })

abbrev pub line_answer : Option Line → Result Line Refusal
line_answer None = Err NotInColumns
line_answer (Some l) = Ok l
