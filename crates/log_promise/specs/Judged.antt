-- The judgement of a log with lines of kind 7 and 8 (document 02, change 5). Assumes nothing.
use Rattle.definitions.specs.declared.RefusedAt.{RefusedAt}
use Rattle.std.specs.Prelude.{List, ℕ, ℤ, if◌then◌else◌, Result, Ok}
use Rattle.definitions.specs.declared.Case.{Case}
use Rattle.definitions.specs.declared.Judgement.{Judgement}
use Rattle.definitions.specs.Rules.{rules_of}
use Rattle.definitions.specs.Case.{upper_bound}
use Rattle.definitions.specs.Lines.{lines_in, has_part}
use Rattle.logs.specs.Logs.{LogState, fresh_log, after_log, log_answers, log_end}
use Rattle.definitions.specs.Programs.{first_number}

-- a list with no number: void after a whole void line; the upper bound is that of the case as it then stands
abbrev pub good_log : LogState → Result Judgement RefusedAt
good_log s =
    if s.stretch.void then Ok Judgement.Void else Ok (Judgement.Accepted s.stretch.rounds (upper_bound s.stretch.case s.stretch.weights))

-- the log begins at line `at`, and is judged by the rules of its case
abbrev pub judged_log : Case → List ℤ → ℕ → List ℕ → Result Judgement RefusedAt
judged_log c w at log =
    let r = rules_of c in
    let lines = lines_in r.amount_width log in
    let s = after_log r (fresh_log c w) lines in
    first_number at (log_answers r (fresh_log c w) lines) (log_end s) (has_part r.amount_width log) (good_log s)
