-- A log from a fresh record, as one fold (`log_fold`), beside the plain replay of its lines: the table, the rounds, the first refusal and its
-- line, the end's answer, and so the judgement that the program `replay` prints. With Blocks the same holds of a log cut into blocks. Assumes
-- nothing.
use Rattle.definitions.specs.declared.RefusedAt.{RefusedAt}
use mathlib.Core.Path.{◌≡◌, refl, sym, ap, ap₂, ◌∙◌}
use mathlib.Core.Bool.{Bool}
use mathlib.Core.List.{List, [], ◌∷◌, map}
use Prim.Native.Nat.{ℕ, ◌+◌}
use native.Mathlib.Nat.{add-zero}
use native.Mathlib.Omega.{arith}
use lib.IntN.{ℤ}
use lib.Dec.{T}
use Rattle.std.specs.Prelude.{if◌then◌else◌, Result, Ok, Err, Option, Some, None, ⊤}
use Rattle.definitions.specs.declared.Case.{Case}
use Rattle.definitions.specs.declared.Refusal.{Refusal}
use Rattle.definitions.specs.declared.Refusal.TheVariants.{CutShort}
use Rattle.definitions.specs.Rules.{Rules, Coherent, coherent, rules_of}
use Rattle.definitions.specs.Answers.{outcome_of, refused_at}
use Rattle.definitions.specs.Case.{upper_bound}
use Rattle.definitions.specs.Valid.{valid}
use Rattle.definitions.specs.Lines.{lines_in, has_part}
use Rattle.definitions.specs.Replay.{State, fresh, after, answers, at_end}
use Rattle.checker.specs.Checker.{BlockCall, is_void, good_in, fresh_of, fresh_replay, taken_lines, first_refused, end_replay, fold_replay}
use Rattle.definitions.specs.declared.Judgement.{Judgement}
use Rattle.definitions.specs.Programs.{first_number, good_judgement, judge_log}
use Rattle.integers.specs.Tests.{tests}
use Rattle.theory.proofs.Validity.{valid-facts}
use Rattle.theory.proofs.Replays.{handed-after}
use Rattle.checker_promise.proofs.Folds.{handed-unrefused}
use Rattle.checker_promise.proofs.Blocks.{Lent, lent-handed}
use Rattle.checker_promise.proofs.Accepts.{answers-are, end_is, weights-are, rounds-are, void-told}

-- the judgement of a log whose lines, but for those taken, begin at `at`: the first refusal, else the end's, else 14 where a part line is left
abbrev pub log_judged : ℕ → Result ⊤ Refusal → Result ⊤ Refusal → Bool → Result Judgement RefusedAt → Result Judgement RefusedAt
log_judged at (Err x) end part good = Err (refused_at x at)
log_judged at (Ok _) (Err x) part good = Err (refused_at x at)
log_judged at (Ok _) (Ok _) part good = if part then Err (refused_at CutShort at) else good

pub number-judged : (at : ℕ) (os : List (Option Refusal)) (end : Option Refusal) (part : Bool) (good : Result Judgement RefusedAt)
    → first_number at os end part good ≡ log_judged (at + taken_lines (map outcome_of os)) (first_refused (map outcome_of os)) (outcome_of end) part good
number-judged at [] None part good = ap (λ (n : ℕ). if part then Err (refused_at CutShort n) else good) (sym (add-zero at))
number-judged at [] (Some x) part good = ap (λ (n : ℕ). Err (refused_at x n)) (sym (add-zero at))
number-judged at (None ∷ os) end part good =
    number-judged (at + 1) os end part good
    ∙ ap (λ (n : ℕ). log_judged n (first_refused (map outcome_of os)) (outcome_of end) part good) (omega arith)
number-judged at (Some x ∷ os) end part good = ap (λ (n : ℕ). Err (refused_at x n)) (sym (add-zero at))

-- the fold over the log, and the plain replay's state after its lines
module _ (r : Rules) (c : Case) (w : List ℤ) (log : List ℕ) where
  abbrev pub log_fold : BlockCall
  log_fold = fold_replay r c w (fresh_replay r c w) log

  abbrev pub log_state : State
  log_state = after r (fresh c w) (lines_in r.amount_width log)

module _ {r : Rules} (coherent : Coherent r) (c : Case) (w : List ℤ) (t : T (valid r c w)) (log : List ℕ) where
  abbrev lines : List (List ℕ)
  lines = lines_in r.amount_width log

  -- no number applies to a valid case, its weights and a fresh record
  pub fresh-lent : Lent r c w (fresh_replay r c w)
  unfolding fresh_replay
  fresh-lent = rw (handed-unrefused (valid-facts r c w t))
      (lent-handed r c w (fresh_of None (upper_bound c w)) refl (handed-after coherent c w t []) (simp tests (omega arith)))

  pub log-table : (log_fold r c w log).table ≡ (log_state r c w log).weights
  unfolding fold_replay
  log-table = weights-are coherent c w t lines

  pub log-rounds : (log_fold r c w log).block.replay.rounds ≡ (log_state r c w log).rounds
  unfolding fold_replay
  log-rounds = rounds-are coherent c w t lines

  pub log-over : is_void (log_fold r c w log).block.replay.due ≡ (log_state r c w log).void
  unfolding fold_replay
  log-over = void-told coherent c w t lines

  pub log-end : end_replay r c (log_fold r c w log).block.replay ≡ outcome_of (at_end (log_state r c w log))
  unfolding fold_replay
  log-end = end_is coherent c w t lines

-- the judgement of a log that begins at line `at`, by the rules of its case
module _ (c : Case) (w : List ℤ) (t : T (valid (rules_of c) c w)) (log : List ℕ) where
  abbrev r : Rules
  r = rules_of c

  abbrev whole : Coherent r
  whole = coherent c.rulebook

  pub log-judged : (at : ℕ) → judge_log c w at log
      ≡ log_judged (at + (log_fold r c w log).block.lines) (log_fold r c w log).block.answer (end_replay r c (log_fold r c w log).block.replay)
      (has_part r.amount_width log)
      (good_in c (log_fold r c w log).block.replay (log_fold r c w log).table)
  unfolding fold_replay
  log-judged at =
      number-judged at (answers r (fresh c w) (lines_in r.amount_width log)) (at_end (log_state r c w log)) (has_part r.amount_width log)
      (good_judgement c (log_state r c w log))
      ∙ sym (ap₂ (λ (os : List (Result ⊤ Refusal)) (end : Result ⊤ Refusal). judged os end (is_void fold.block.replay.due) fold.block.replay.rounds fold.table)
      (answers-are whole c w t (lines_in r.amount_width log)) (log-end whole c w t log)
      ∙ ap (λ (over : Bool). judged all end over fold.block.replay.rounds fold.table) (log-over whole c w t log)
      ∙ ap₂ (judged all end (log_state r c w log).void) (log-rounds whole c w t log) (log-table whole c w t log))
    where
      fold : BlockCall
      fold = log_fold r c w log

      all : List (Result ⊤ Refusal)
      all = map outcome_of (answers r (fresh c w) (lines_in r.amount_width log))

      end : Result ⊤ Refusal
      end = outcome_of (at_end (log_state r c w log))

      judged : List (Result ⊤ Refusal) → Result ⊤ Refusal → Bool → ℕ → List ℤ → Result Judgement RefusedAt
      judged os end over rounds table = log_judged (at + taken_lines os) (first_refused os) end (has_part r.amount_width log)
          (if over then Ok Judgement.Void else Ok (Judgement.Accepted rounds (upper_bound c table)))
