-- A log from a fresh record, as one fold (`log_fold`), beside the plain replay of its lines: the table, the rounds, the first refusal and its
-- line, the end's answer, and so the judgement that the program `replay` prints. With Blocks the same holds of a log cut into blocks. Assumes
-- nothing.
use mathlib.Core.Path.{◌≡◌, sym, ap, ap₂, ◌∙◌}
use mathlib.Core.Bool.{Bool}
use mathlib.Core.List.{List, map}
use Prim.Native.Nat.{ℕ, ◌+◌}
use lib.IntN.{ℤ}
use lib.Dec.{T}
use Rattle.std.specs.Prelude.{if◌then◌else◌, Result, Ok, ⊤}
use Rattle.definitions.specs.declared.Case.{Case}
use Rattle.definitions.specs.declared.Refusal.{Refusal}
use Rattle.definitions.specs.declared.Judgement.{Judgement}
use Rattle.definitions.specs.Rules.{Rules, rules_of}
use Rattle.definitions.specs.Answers.{outcome_of}
use Rattle.definitions.specs.Case.{upper_bound}
use Rattle.definitions.specs.Valid.{valid}
use Rattle.definitions.specs.Lines.{lines_in, has_part}
use Rattle.logs.specs.Logs.{LogState, fresh_log, after_log, log_answers, log_end}
use Rattle.log_promise.specs.Judged.{good_log, judged_log}
use Rattle.checker.specs.Checker.{taken_lines, first_refused}
use Rattle.checker_promise.proofs.Logs.{log_judged, number-judged}
use Rattle.log_checker.specs.Checker.{BlockCall, good_in, end_replay, fold_replay}
use Rattle.log_promise.specs.Lists.{begun}
use Rattle.log_promise.proofs.Accepts.{answers-are, end_is, case-is, weights-are, rounds-are, void-told}

-- the fold over the log, and the plain replay's state after its lines
abbrev pub log_fold : Case → List ℤ → List ℕ → BlockCall
log_fold c w log = fold_replay (rules_of c) (begun (rules_of c) c w) log

abbrev pub log_left : Case → List ℤ → List ℕ → LogState
log_left c w log = after_log (rules_of c) (fresh_log c w) (lines_in (rules_of c).amount_width log)

-- the judgement of a log that begins at line `at`, by the rules of its case
module _ (c : Case) (w : List ℤ) (t : T (valid (rules_of c) c w)) (log : List ℕ) where
  abbrev r : Rules
  r = rules_of c

  abbrev lines : List (List ℕ)
  lines = lines_in r.amount_width log

  -- what a good judgement says is what the plain replay leaves
  good-same : good_in (log_fold c w log).after ≡ good_log (log_left c w log)
  unfolding fold_replay
  good-same =
      ap₂ (λ (over : Bool) (rounds : ℕ). if over then Ok Judgement.Void else Ok (Judgement.Accepted rounds (upper_bound (log_fold c w log).after.case (log_fold c w log).after.table))) (void-told c w t lines) (rounds-are c w t lines)
      ∙ ap₂ (λ (d : Case) (v : List ℤ). if (log_left c w log).stretch.void then Ok Judgement.Void
      else Ok (Judgement.Accepted (log_left c w log).stretch.rounds (upper_bound d v))) (case-is c w t lines) (weights-are c w t lines)

  pub log-end : (end_replay r (log_fold c w log).after).answer ≡ outcome_of (log_end (log_left c w log))
  unfolding fold_replay
  log-end = end_is c w t lines

  pub log-judged : (at : ℕ) → judged_log c w at log
      ≡ log_judged (at + (log_fold c w log).lines) (log_fold c w log).answer (end_replay r (log_fold c w log).after).answer
      (has_part r.amount_width log) (good_in (log_fold c w log).after)
  unfolding fold_replay
  log-judged at =
      number-judged at (log_answers r (fresh_log c w) lines) (log_end (log_left c w log)) (has_part r.amount_width log) (good_log (log_left c w log))
      ∙ sym (ap₂ (λ (os : List (Result ⊤ Refusal)) (end : Result ⊤ Refusal). log_judged (at + taken_lines os) (first_refused os) end (has_part r.amount_width log)
      (good_in (log_fold c w log).after)) (answers-are c w t lines) log-end
      ∙ ap (log_judged (at + taken_lines (map outcome_of (log_answers r (fresh_log c w) lines)))
      (first_refused (map outcome_of (log_answers r (fresh_log c w) lines))) (outcome_of (log_end (log_left c w log))) (has_part r.amount_width log)) good-same)
