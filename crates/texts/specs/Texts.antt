-- The lines that the programs print, written to a lent output, on all input. Assumes nothing.
use Rattle.definitions.specs.declared.RefusedAt.{RefusedAt}
use Rattle.std.specs.Prelude.{List, [], ◌∷◌, ◌++◌, ℕ, ℤ, ltb, length, take, drop, Result, Ok, Err, Option}
use Rattle.definitions.specs.declared.Judgement.{Judgement}
use Rattle.definitions.specs.declared.Refusal.{Refusal}
use Rattle.definitions.specs.declared.Refusal.TheVariants.{WrongLength, OutOfRange}
use Rattle.definitions.specs.Refusals.{◌when◌, first_refusal}
use Rattle.definitions.specs.Answers.{unless_refused, answer_of}
use Rattle.definitions.specs.Lines.{number_text, overwritten}
use Rattle.calls.specs.Calls.{WriteCall}
use Rattle.definitions.specs.Programs.{bytes_of, refused_text, accepted_text, judgement_text}

-- the bytes that an output must have: no line that a program prints is longer
abbrev pub text_room : ℕ
text_room = 64

-- the greatest line and the greatest number of rounds that are written
abbrev pub greatest_count : ℕ
greatest_count = 9_223_372_036_854_775_807

-- a shorter output is number 4, a greater count is 5
abbrev pub text_refusal : ℕ → ℕ → Option Refusal
text_refusal room count = first_refusal (WrongLength when (ltb room text_room) ∷ OutOfRange when (ltb greatest_count count) ∷ [])

abbrev pub write_text_call : List ℕ → ℕ → List ℕ → WriteCall
write_text_call out count text = record {
  answer = answer_of (text_refusal (length out) count) (length text);
  out = unless_refused (text_refusal (length out) count) (overwritten text out) out;
}

unfoldable pub write_refused_call : List ℕ → Refusal → ℕ → WriteCall
write_refused_call out x line = write_text_call out line (refused_text x line)

unfoldable pub write_accepted_call : List ℕ → ℕ → ℤ → WriteCall
write_accepted_call out rounds bound = write_text_call out rounds (accepted_text rounds bound)

unfoldable pub write_void_call : List ℕ → WriteCall
write_void_call out = write_text_call out 0 (judgement_text (Ok Judgement.Void))

abbrev pub write_judgement_call : List ℕ → Result Judgement RefusedAt → WriteCall
write_judgement_call out (Ok (Judgement.Accepted rounds bound)) = write_accepted_call out rounds bound
write_judgement_call out (Ok Judgement.Void) = write_void_call out
write_judgement_call out (Err x) = write_refused_call out x.refusal x.line

-- a word, two numbers and a line feed
abbrev pub printed : List ℕ → ℤ → ℤ → List ℕ
printed word a b = word ++ number_text a ++ bytes_of " " ++ number_text b ++ bytes_of "\n"

-- the output with these bytes from byte `at` on
unfoldable pub placed_at : ℕ → List ℕ → List ℕ → List ℕ
placed_at at bytes out = take at out ++ overwritten bytes (drop at out)
