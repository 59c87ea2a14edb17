-- The lines of a round of one press, and those of a void line, from the bytes of raised scopes, written on all input. Assumes nothing.
use Rattle.std.specs.Prelude.{◌≡◌, Bool, not, ◌||◌, List, [], ◌∷◌, ◌++◌, map, ℕ, ◌*◌, ℤ, pos, ltb, length, Option}
use Rattle.integers.specs.Words.{from, below, any, those, joined}
use Rattle.definitions.specs.declared.Case.{Case}
use Rattle.definitions.specs.declared.Line.{Line}
use Rattle.definitions.specs.declared.Refusal.{Refusal}
use Rattle.definitions.specs.declared.Refusal.TheVariants.{WrongLength, OutOfRange}
use Rattle.definitions.specs.Rules.{Rules}
use Rattle.definitions.specs.Refusals.{◌when◌, first_refusal}
use Rattle.definitions.specs.Answers.{unless_refused, answer_of}
use Rattle.definitions.specs.Case.{scope_count}
use Rattle.definitions.specs.Valid.{limit_test}
use Rattle.definitions.specs.Lines.{line, line_text, line_length, line_too_wide, overwritten}
use Rattle.definitions.specs.RoundLines.{raise_line, bound_line, lines_of_void}
use Rattle.calls.specs.Calls.{WriteCall, is_raised}
use Rattle.round_lines.specs.declared.Entry.{Entry}
use Rattle.round_lines.specs.declared.Entry.TheVariants.{Press, Void}

-- the raised scopes among the n from a on, and among those below n
abbrev pub raised_from : List ℕ → ℕ → ℕ → List ℕ
raised_from raised a n = those (is_raised raised) (from a n)

abbrev pub raised_below : List ℕ → ℕ → List ℕ
raised_below raised n = those (is_raised raised) (below n)

abbrev pub press_line : ℕ → ℕ → ℤ → Line
press_line i count a = line 2 (pos i) (pos count) (pos 0) a

-- the lines of a round: press, raise and bound
abbrev pub lines_of_press : ℕ → List ℕ → ℤ → ℤ → List Line
lines_of_press i xs a bound = (press_line i (length xs) a ∷ map raise_line xs) ++ (bound_line bound ∷ [])

abbrev pub entry_lines : Entry → ℕ → List ℕ → List Line
entry_lines (Press a bound) i xs = lines_of_press i xs a bound
entry_lines Void i xs = lines_of_void i xs

-- the first of them, which has the raised scopes counted, and what comes after the raise lines
abbrev pub first_line : Entry → ℕ → ℕ → Line
first_line (Press a bound) i count = press_line i count a
first_line Void i count = line 5 (pos i) (pos count) (pos 0) (pos 0)

abbrev pub last_lines : Entry → List Line
last_lines (Press a bound) = bound_line bound ∷ []
last_lines Void = []

-- ---- the same as it is put: line after line

abbrev pub raise_texts : ℕ → List ℕ → List ℕ
raise_texts width xs = joined (map (λ x. line_text width (raise_line x)) xs)

abbrev pub line_texts : ℕ → List Line → List ℕ
line_texts width ls = joined (map (line_text width) ls)

abbrev pub put_text : ℕ → Line → List Line → List ℕ → List ℕ
put_text width first last xs = (line_text width first ++ raise_texts width xs) ++ line_texts width last

-- `text` was put at byte `at`, after what was put over o before, and ends at byte `end`
abbrev pub Put : ℕ → List ℕ → ℕ → List ℕ → List ℕ → Type 0
Put at text end out next = (p o : List ℕ) → out ≡ overwritten p o → length p ≡ at → (next ≡ overwritten (p ++ text) o) × (length (p ++ text) ≡ end)

-- ---- the call

abbrev pub text_written : List ℕ → List ℕ → Option Refusal → WriteCall
text_written text out refusal = record { answer = answer_of refusal (length text); out = unless_refused refusal (overwritten text out) out }

abbrev pub put_call : ℕ → Line → List Line → List ℕ → List ℕ → WriteCall
put_call width first last xs out =
    text_written (put_text width first last xs) out (first_refusal (OutOfRange when (line_too_wide width first || any (line_too_wide width) last) ∷ []))

-- these lines of variable i
module _ (r : Rules) (c : Case) (out : List ℕ) (i : ℕ) (ls : List Line) where
  abbrev pub lines_out : Bool
  lines_out = not (ltb i c.n) || any (line_too_wide r.amount_width) ls

  abbrev pub lines_written : Option Refusal → WriteCall
  lines_written refusal = text_written (line_texts r.amount_width ls) out refusal

  abbrev pub out_short : Bool
  out_short = ltb (length out) (line_length r.amount_width * length ls)

  -- number 3; 4 of too few bytes of raised scopes, or an output too short for so many lines; 5 of a variable that is none, or a number too
  -- wide for its column
  unfoldable pub lines_call : List ℕ → WriteCall
  lines_call raised =
      lines_written (first_refusal (limit_test r c ∷ WrongLength when (ltb (length raised) (scope_count c) || out_short) ∷ OutOfRange when lines_out ∷ []))

  -- the same where the case and the bytes of raised scopes were checked
  abbrev pub checked_call : WriteCall
  checked_call = lines_written (first_refusal (WrongLength when out_short ∷ OutOfRange when lines_out ∷ []))

module _ (r : Rules) (c : Case) (out raised : List ℕ) (i : ℕ) where
  unfoldable pub write_all_call : ℤ → ℤ → WriteCall
  write_all_call a bound = lines_call r c out i (lines_of_press i (raised_below raised (scope_count c)) a bound) raised

  unfoldable pub write_void_call : WriteCall
  write_void_call = lines_call r c out i (lines_of_void i (raised_below raised (scope_count c))) raised
