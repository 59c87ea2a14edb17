-- Answers in the library's records: the number that an answer says, and its values; 0 where there is no such value. Assumes nothing.
use Rattle.std.specs.Prelude.{Bool, not, ◌&&◌, ℕ, eqb, if◌then◌else◌}
use Rattle.definitions.specs.Answers.{Says, value_at, count_at, line_named}
use Rattle.encoding.specs.RecordBytes.{flag}
use Rattle.checker_library.specs.declared.CeilingSize.{CeilingSize}
use Rattle.checker_library.specs.declared.CeilingLines.{CeilingLines}
use Rattle.checker_library.specs.declared.CeilingTotal.{CeilingTotal}
use Rattle.checker_library.specs.declared.CeilingRounds.{CeilingRounds}
use Rattle.checker_library.specs.declared.CeilingSpan.{CeilingSpan}
use Rattle.checker_library.specs.declared.CeilingChoice.{CeilingChoice}
use Rattle.checker_library.specs.declared.CeilingValue.{CeilingValue}
use Rattle.checker_library.specs.declared.CeilingVerdict.{CeilingVerdict}

abbrev pub ceiling_size_of : Says → CeilingSize
ceiling_size_of s = record { number = s.number; n = count_at s 0; d = count_at s 1; m = count_at s 2; table = count_at s 3 }

-- the lines used, or the refusal's line
abbrev pub lines_of : Says → CeilingLines
lines_of s = record { number = s.number; lines = count_at s 0 }

abbrev pub total_of : Says → CeilingTotal
total_of s = record { number = s.number; total = value_at s 0 }

-- where no number applies: so many rounds, or after a whole void line that the log is void
abbrev pub rounds_of : ℕ → Bool → Says → CeilingRounds
rounds_of rounds over s =
    let good = eqb s.number 0 in
    record { number = s.number; rounds = (if good && not over then rounds else 0); void = flag (good && over) }

-- the stretch's first byte and the byte after its last, or the refusal's line
abbrev pub span_of : Says → CeilingSpan
span_of s = record { number = s.number; from = (if eqb s.number 0 then count_at s 0 else 0); to = count_at s 1; line = line_named s }

abbrev pub choice_of : Says → CeilingChoice
choice_of s = record { number = s.number; choice = count_at s 0 }

abbrev pub value_of : Says → CeilingValue
value_of s = record { number = s.number; value = count_at s 0 }

abbrev pub ceiling_verdict_of : Says → CeilingVerdict
ceiling_verdict_of s = record { number = s.number; yes = count_at s 0 }
