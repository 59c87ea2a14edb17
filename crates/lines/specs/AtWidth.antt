-- A line read and written at any width of the amount column, on all input. At the width of coherent rules these are the calls under the rules
-- (proofs/AtRules). Assumes nothing.
use Rattle.std.specs.Prelude.{Bool, not, ◌||◌, List, [], ◌∷◌, ℕ, ltb, length, if◌then◌else◌, Result, Option, None}
use Rattle.integers.specs.Words.{within}
use Rattle.definitions.specs.declared.Line.{Line}
use Rattle.definitions.specs.declared.Refusal.{Refusal}
use Rattle.definitions.specs.declared.Refusal.TheVariants.{WrongLength, OutOfRange}
use Rattle.definitions.specs.Refusals.{◌when◌, first_refusal}
use Rattle.definitions.specs.Lines.{line_length, line_too_wide, read_line}
use Rattle.calls.specs.Calls.{LineCall, line_written}
use Rattle.lines.specs.Found.{line_answer}

-- no amount column has this width
abbrev pub width_out : ℕ → Bool
width_out width = not (within 1 18 width)

-- at such a width nothing is in columns
unfoldable pub read_line_at : ℕ → List ℕ → Result Line Refusal
read_line_at width bytes = line_answer (if width_out width then None else read_line width bytes)

-- no line of this width holds the line
abbrev pub line_out : ℕ → Line → Bool
line_out width l = width_out width || line_too_wide width l

-- fewer bytes than a line are number 4; such a width, or a number too wide for its column, is 5
abbrev pub write_refusal_at : ℕ → ℕ → Line → Option Refusal
write_refusal_at width room l = first_refusal (WrongLength when (ltb room (line_length width)) ∷ OutOfRange when (line_out width l) ∷ [])

unfoldable pub write_line_at : ℕ → List ℕ → Line → LineCall
write_line_at width out l = line_written width out l (write_refusal_at width (length out) l)
