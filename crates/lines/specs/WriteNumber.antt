-- A number written as text without padding, on all input. Assumes nothing.
use Rattle.std.specs.Prelude.{List, [], ◌∷◌, ℕ, ℤ, length, Option}
use Rattle.definitions.specs.declared.Refusal.{Refusal}
use Rattle.definitions.specs.declared.Refusal.TheVariants.{WrongLength}
use Rattle.definitions.specs.Refusals.{◌when◌, first_refusal}
use Rattle.definitions.specs.Answers.{unless_refused, answer_of}
use Rattle.definitions.specs.Lines.{number_text, too_wide, overwritten}
use Rattle.calls.specs.Calls.{WriteCall}

-- fewer bytes than the text are number 4
abbrev pub number_refusal : ℕ → ℤ → Option Refusal
number_refusal room z = first_refusal (WrongLength when (too_wide room z) ∷ [])

unfoldable pub write_number_call : List ℕ → ℤ → WriteCall
write_number_call out z = record {
  answer = answer_of (number_refusal (length out) z) (length (number_text z));
  out = unless_refused (number_refusal (length out) z) (overwritten (number_text z) out) out;
}
