-- Document 01: what the programs `press` and `replay` print; document 02, change 2: void lines. Assumes nothing.
use Rattle.definitions.specs.declared.RefusedAt.{RefusedAt}
use Rattle.definitions.specs.Answers.{refused_at}
use Rattle.std.specs.Prelude.{Bool, List, [], ◌∷◌, ◌++◌, ℕ, ◌+◌, ◌*◌, ℤ, pos, drop, replicate, if◌then◌else◌, Result, Ok, Err, Option, Some, None}
use Prim.Native.Char.{code}
use Prim.Native.String.{String, [] as empty, ◌∷◌ as char-and}
use Rattle.integers.specs.Words.{joined}
use Rattle.definitions.specs.declared.Rulebook.{Rulebook}
use Rattle.definitions.specs.declared.Case.{Case}
use Rattle.definitions.specs.declared.CaseSize.{CaseSize}
use Rattle.definitions.specs.declared.Judgement.{Judgement}
use Rattle.definitions.specs.declared.RunAnswer.{RunAnswer}
use Rattle.definitions.specs.declared.Refusal.{Refusal}
use Rattle.definitions.specs.declared.Refusal.TheVariants.{CutShort}
use Rattle.definitions.specs.Rules.{rules_of}
use Rattle.definitions.specs.Refusals.{number}
use Rattle.definitions.specs.Case.{upper_bound}
use Rattle.definitions.specs.Lines.{number_text, line_length, lines_in, has_part}
use Rattle.definitions.specs.CaseFiles.{CaseCall, case_size, read_case, read_case_alone}
use Rattle.definitions.specs.Replay.{State, fresh, after, answers, at_end}
use Rattle.definitions.specs.Engine.{RunOf, engine_next, run}

-- `press` makes at most so many rounds
abbrev pub press_limit : ℕ
press_limit = 100_000

-- the bytes of a text
abbrev pub bytes_of : String → List ℕ
bytes_of empty = []
bytes_of (char-and c s) = code c ∷ bytes_of s

-- `refused`, the number and the line; `accepted`, the rounds and the upper bound
abbrev pub refused_text : Refusal → ℕ → List ℕ
refused_text x at = bytes_of "refused " ++ number_text (pos (number x)) ++ bytes_of " " ++ number_text (pos at) ++ bytes_of "\n"

abbrev pub accepted_text : ℕ → ℤ → List ℕ
accepted_text rounds bound = bytes_of "accepted " ++ number_text (pos rounds) ++ bytes_of " " ++ number_text bound ++ bytes_of "\n"

abbrev pub judgement_text : Result Judgement RefusedAt → List ℕ
judgement_text (Ok (Judgement.Accepted rounds bound)) = accepted_text rounds bound
judgement_text (Ok Judgement.Void) = bytes_of "void\n"
judgement_text (Err x) = refused_text x.refusal x.line

-- the table that a program lends: as long as the head of the case asks
abbrev pub table_for : Result CaseSize Refusal → List ℤ
table_for (Ok s) = replicate s.table (pos 0)
table_for (Err x) = []

-- ---- `replay`: a case and its log, one after the other

-- the first line answered by a number, counted from `at`; at the end 14 also where a part line is left
abbrev pub first_number : ℕ → List (Option Refusal) → Option Refusal → Bool → Result Judgement RefusedAt → Result Judgement RefusedAt
first_number at [] None part good = if part then Err (refused_at CutShort at) else good
first_number at [] (Some x) part good = Err (refused_at x at)
first_number at (None ∷ xs) end part good = first_number (at + 1) xs end part good
first_number at (Some x ∷ xs) end part good = Err (refused_at x at)

-- a list with no number: void after a whole void line
abbrev pub good_judgement : Case → State → Result Judgement RefusedAt
good_judgement c s = if s.void then Ok Judgement.Void else Ok (Judgement.Accepted s.rounds (upper_bound c s.weights))

-- the log begins at line `at`, and is judged by the rules of its case
abbrev pub judge_log : Case → List ℤ → ℕ → List ℕ → Result Judgement RefusedAt
judge_log c w at log =
    let r = rules_of c in
    let lines = lines_in r.amount_width log in
    let s = after r (fresh c w) lines in
    first_number at (answers r (fresh c w) lines) (at_end s) (has_part r.amount_width log) (good_judgement c s)

abbrev pub judge_read : List ℕ → CaseCall → Result ℕ RefusedAt → Result Judgement RefusedAt
judge_read t call (Err x) = Err x
judge_read t call (Ok lines) =
    judge_log call.read.case call.table lines (drop (lines * line_length (rules_of call.read.case).amount_width) t)

-- ---- `press`: a case alone, and the log of up to 100,000 rounds

-- a refusal by the engine counts as met at the line after the input's last; a void line is the end of the log
abbrev pub press_end : ℕ → Result RunAnswer Refusal → List ℕ
press_end at (Ok RunAnswer.Settled) = []
press_end at (Ok RunAnswer.Limit) = []
press_end at (Ok RunAnswer.Void) = []
press_end at (Err x) = refused_text x at

abbrev pub press_run : ℕ → RunOf → List ℕ
press_run at q = joined q.log ++ press_end at q.answer

abbrev pub press_read : CaseCall → Result ℕ RefusedAt → List ℕ
press_read call (Err x) = refused_text x.refusal x.line
press_read call (Ok lines) = press_run lines (run (rules_of call.read.case) engine_next call.read.case press_limit call.table)

-- ---- the programs' input is read under a rulebook

module _ (b : Rulebook) where
  abbrev pub judge : List ℕ → Result Judgement RefusedAt
  judge t =
      let call = read_case b t (table_for (case_size b t)) in
      judge_read t call call.read.answer

  abbrev pub replay_prints : List ℕ → List ℕ
  replay_prints t = judgement_text (judge t)

  abbrev pub press_prints : List ℕ → List ℕ
  press_prints t =
      let call = read_case_alone b t (table_for (case_size b t)) in
      press_read call call.read.answer
