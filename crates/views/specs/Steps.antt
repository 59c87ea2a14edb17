-- What one line does to the search for a round, where lines have `long` bytes, and the round's span at any width. Assumes nothing.
use Rattle.definitions.specs.declared.Refusal.{Refusal}
use Rattle.definitions.specs.declared.RefusedAt.{RefusedAt}
use Rattle.definitions.specs.declared.Line.{Line}
use Rattle.definitions.specs.Answers.{refused_at}
use Rattle.definitions.specs.Answers.{from_to}
use Rattle.std.specs.Prelude.{List, ℕ, zero, suc, ◌+◌, ◌*◌, if◌then◌else◌, Result, Ok, Err}
use Rattle.definitions.specs.declared.Refusal.TheVariants.{NotInColumns}
use Rattle.definitions.specs.declared.Span.{Span}
use Rattle.definitions.specs.Lines.{is_kind}
use Rattle.definitions.specs.Views.{span_in}
use Rattle.lines.specs.AtWidth.{width_out}
use Rattle.views.specs.declared.Step.{Step}
use Rattle.views.specs.declared.Step.TheVariants.{Found, On}

-- after the bound line `at` of a round that begins at line `from`, with so many rounds still to pass
abbrev pub ended_step : ℕ → ℕ → ℕ → ℕ → Step
ended_step long at from zero = Found (from_to (from * long) ((at + 1) * long))
ended_step long at from (suc fewer) = On (at + 1) fewer

-- after line `at`
abbrev pub line_step : Line → ℕ → ℕ → ℕ → ℕ → Step
line_step l long at from left = if is_kind 4 l then ended_step long at from left else On from left

-- after line `at` as it was read
abbrev pub passed_step : Result Line Refusal → ℕ → ℕ → ℕ → ℕ → Result Step RefusedAt
passed_step (Err x) long at from left = Err (refused_at NotInColumns at)
passed_step (Ok l) long at from left = Ok (line_step l long at from left)

-- the answer after a step, where `rest` is that of the lines behind it
abbrev pub resumed_step : (ℕ → ℕ → Result Span RefusedAt) → Step → Result Span RefusedAt
resumed_step rest (Found span) = Ok span
resumed_step rest (On from left) = rest from left

abbrev pub resumed : (ℕ → ℕ → Result Span RefusedAt) → Result Step RefusedAt → Result Span RefusedAt
resumed rest (Ok step) = resumed_step rest step
resumed rest (Err x) = Err x

-- no line is in columns at a width that no amount column has
unfoldable pub round_span_at : ℕ → List ℕ → ℕ → Result Span RefusedAt
round_span_at width log n = if width_out width then Err (refused_at NotInColumns 0) else span_in width log n
