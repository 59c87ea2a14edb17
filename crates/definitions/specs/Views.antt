-- Document 01: the view of a round. Assumes nothing.
use Rattle.definitions.specs.declared.RefusedAt.{RefusedAt}
use Rattle.definitions.specs.Answers.{refused_at}
use Rattle.definitions.specs.Answers.{from_to}
use Rattle.std.specs.Prelude.{Bool, true, false, List, [], ◌∷◌, ℕ, zero, suc, ◌+◌, ◌*◌, ◌-◌, take, drop, if◌then◌else◌, Result, Ok, Err, Some, None}
use Rattle.definitions.specs.declared.Refusal.TheVariants.{NotInColumns, OutOfRange, CutShort}
use Rattle.definitions.specs.declared.Span.{Span}
use Rattle.definitions.specs.Rules.{Rules}
use Rattle.definitions.specs.Lines.{line_length, read_line, lines_in, has_part, is_kind}

-- From the line after the bound line before the round (for round 0, the log's first line) through its own bound line.
-- `at` is the line looked at, `from` the first line of its round, `left` the rounds still to pass, `part` whether a part line follows.
module _ (width : ℕ) (part : Bool) where
  abbrev pub span_from : ℕ → ℕ → ℕ → List (List ℕ) → Result Span RefusedAt
  span_from at from left [] = Err (refused_at (if part then CutShort else OutOfRange) at)
  span_from at from left (t ∷ ts) =
      elim (read_line width t) [
        | None ↦ Err (refused_at NotInColumns at)
        | Some l ↦
            elim (is_kind 4 l) [
              | false ↦ span_from (at + 1) from left ts
              | true ↦
                  elim left [
                    | zero ↦ Ok (from_to (from * line_length width) ((at + 1) * line_length width))
                    | suc fewer ↦ span_from (at + 1) (at + 1) fewer ts
                  ]
            ]
      ]

-- where the round's lines lie; up to there a line not in columns gives 1 and a part line 14; with neither, a round not there gives 5
abbrev pub span_in : ℕ → List ℕ → ℕ → Result Span RefusedAt
span_in width log n = span_from width (has_part width log) 0 0 n (lines_in width log)

abbrev pub round_span : Rules → List ℕ → ℕ → Result Span RefusedAt
round_span r = span_in r.amount_width

abbrev pub part_of : List ℕ → Result Span RefusedAt → List ℕ
part_of log (Ok span) = take (span.to - span.from) (drop span.from log)
part_of log (Err x) = []

-- that stretch of the log itself; a refused view is empty
abbrev pub round_view : Rules → List ℕ → ℕ → List ℕ
round_view r log n = part_of log (round_span r log n)
