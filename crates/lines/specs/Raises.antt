-- The scope of a raise line by its bytes, on all input; and what the private functions know of the bytes. Assumes nothing.
use Rattle.definitions.specs.declared.Refusal.{Refusal}
use Rattle.std.specs.Prelude.{◌≡◌, Bool, ◌&&◌, List, [], ◌∷◌, ℕ, ◌-◌, ◌≤◌, ◌<◌, ℤ, pos, negsuc, length, get_or, if◌then◌else◌, Result, Ok, Err, Option, Some, None}
use Rattle.integers.specs.Words.{eq_z}
use Rattle.definitions.specs.declared.Line.{Line}
use Rattle.definitions.specs.Lines.{read_column, read_line, line_length, is_kind}
use Rattle.definitions.specs.RoundLines.{raise_line}
use Rattle.lines.specs.AtWidth.{read_line_at}

-- a line of kind 3 whose unused columns hold 0
abbrev pub is_raise : Line → Bool
is_raise l = ((is_kind 3 l && eq_z l.b (pos 0)) && eq_z l.c (pos 0)) && eq_z l.amount (pos 0)

-- scopes are numbered from 0
abbrev pub scope_from : ℤ → Option ℕ
scope_from (pos x) = Some x
scope_from (negsuc x) = None

abbrev pub raise_of : Result Line Refusal → Option ℕ
raise_of (Err x) = None
raise_of (Ok l) = if is_raise l then scope_from l.a else None

unfoldable pub raised_at : ℕ → List ℕ → Option ℕ
raised_at width bytes = raise_of (read_line_at width bytes)

-- ---- bytes

-- the byte of the digit 0
abbrev pub zero_digit : ℕ
zero_digit = 48

-- the numbers of three digits or fewer are below this
abbrev pub small_numbers : ℕ
small_numbers = 1000

-- a number that is small is the digit's
pub record Digit (b r : ℕ) : Type 0 where
  pub most : r ≤ small_numbers
  pub is : r < small_numbers → (zero_digit ≤ b) × (b ≤ 57) × (r ≡ b - zero_digit)

-- a number that is small is the column's
abbrev pub Small : List ℕ → ℕ → Type 0
Small t r = r < small_numbers → read_column t ≡ Some (pos r)

-- only the scope's last three bytes are left to read
abbrev pub RaiseText : List ℕ → Type 0
RaiseText t =
    (width x : ℕ) → length t ≡ line_length width → read_column (32 ∷ get_or t 3 0 ∷ get_or t 4 0 ∷ get_or t 5 0 ∷ []) ≡ Some (pos x)
    → read_line width t ≡ Some (raise_line x)
