-- What a press, a void line and a round do to a table that was checked before, with pair rounds only or not, and how a run ends at its limit.
-- Assumes nothing.
use Rattle.definitions.specs.declared.Refusal.{Refusal}
use Rattle.std.specs.Prelude.{◌≡◌, Bool, true, false, List, ℕ, ◌≤◌, ℤ, length, if◌then◌else◌, Result, Ok, Err, Some, None, ⊤}
use Rattle.definitions.specs.declared.Case.{Case}
use Rattle.definitions.specs.declared.Round.{Round}
use Rattle.definitions.specs.declared.Run.{Run}
use Rattle.definitions.specs.declared.RunAnswer.{RunAnswer}
use Rattle.definitions.specs.declared.Refusal.TheVariants.{LeavesRange}
use Rattle.definitions.specs.Rules.{Rules, rules_of}
use Rattle.definitions.specs.Case.{scope_count, upper_bound}
use Rattle.definitions.specs.Valid.{working_weight}
use Rattle.definitions.specs.Moves.{plus, press_by, spared, active_values, leaves_range}
use Rattle.definitions.specs.PairRounds.{lowest_pair}
use Rattle.definitions.specs.Engine.{Next, chosen, kept_scopes, least_gap, engine_next, pairs_next}
use Rattle.calls.specs.Calls.{is_raised}
use Rattle.calls.specs.EngineCalls.{is_leaving, round_call, run_call}
use Rattle.theory.proofs.Validity.{Handed}
use Rattle.tables.specs.Scopes.{BestOf}
use Rattle.round_lines.specs.Press.{raised_below}

-- what comes next, with pair rounds only or not
abbrev pub next_in : Bool → Rules → Case → List ℤ → Next
next_in true = pairs_next
next_in false = engine_next

-- the table after a press of the raised scopes
abbrev pub pressed_by : Case → ℕ → List ℕ → ℤ → List ℤ → List ℤ
pressed_by c i raised a w = plus c (spared c w (press_by c w i (active_values c w i) (is_raised raised) a)) w

pub record Pressed (c : Case) (i : ℕ) (raised : List ℕ) (a : ℤ) (w after best : List ℤ) (r : Result ⊤ Refusal) : Type 0 where
  pub answer : r ≡ (if leaves_range (rules_of c) c w (pressed_by c i raised a w) then Err LeavesRange else Ok tt)
  pub table : after ≡ (if leaves_range (rules_of c) c w (pressed_by c i raised a w) then w else pressed_by c i raised a w)
  pub greatest-kept : BestOf c after best

-- a table with each scope's greatest weight, where no pair comes first: variable i was chosen, and the raised scopes are those that are kept
pub record Found (c : Case) (w best : List ℤ) (raised : List ℕ) (i : ℕ) : Type 0 where
  pub handed : Handed (rules_of c) (working_weight (rules_of c)) c w
  pub greatest-held : BestOf c w best
  pub no-pair : lowest_pair (rules_of c) c w ≡ None
  pub which : chosen c w ≡ Some i
  pub room : scope_count c ≤ length raised
  pub kept : raised_below raised (scope_count c) ≡ kept_scopes c w i

-- the engine's press of the kept scopes was made, by the least gap
pub record PressMade (c : Case) (i : ℕ) (raised : List ℕ) (a : ℤ) (w after best : List ℤ) : Type 0 where
  pub handed : Handed (rules_of c) (working_weight (rules_of c)) c w
  pub no-pair : lowest_pair (rules_of c) c w ≡ None
  pub which : chosen c w ≡ Some i
  pub kept : raised_below raised (scope_count c) ≡ kept_scopes c w i
  pub least : least_gap c w i ≡ Some a
  pub pressed : Pressed c i raised a w after best (Ok tt)

-- the round's answer, from what was written of its lines
abbrev pub round_written : Result ℕ Refusal → ℤ → Result Round Refusal
round_written (Ok n) bound = Ok (Round.Made n bound)
round_written (Err x) bound = Err x

-- what a call of the round answers and leaves
pub record MadeRound (pairs : Bool) (c : Case) (w : List ℤ) (out : List ℕ) (after : List ℤ) (written : List ℕ) (r : Result Round Refusal) : Type 0 where
  pub answer : r ≡ (round_call (rules_of c) (next_in pairs) c w out).answer
  pub table : after ≡ (round_call (rules_of c) (next_in pairs) c w out).table
  pub output : written ≡ (round_call (rules_of c) (next_in pairs) c w out).out

-- ---- the run

-- at its limit a run ends by what the round's call would answer, and what it would write of a void line
abbrev pub limit_answer : Result Round Refusal → Result RunAnswer Refusal
limit_answer (Ok Round.Settled) = Ok RunAnswer.Settled
limit_answer (Ok (Round.Made bytes bound)) = Ok RunAnswer.Limit
limit_answer (Ok (Round.Void bytes)) = Ok RunAnswer.Void
limit_answer (Err x) = if is_leaving x then Ok RunAnswer.Limit else Err x

abbrev pub limit_output : Result Round Refusal → List ℕ → List ℕ → List ℕ
limit_output (Ok Round.Settled) written out = out
limit_output (Ok (Round.Made bytes bound)) written out = out
limit_output (Ok (Round.Void bytes)) written out = written
limit_output (Err x) written out = out

pub record LimitIs (pairs : Bool) (c : Case) (w : List ℤ) (out written : List ℕ) (a : Result RunAnswer Refusal) : Type 0 where
  pub answer : a ≡ limit_answer (round_call (rules_of c) (next_in pairs) c w out).answer
  pub output : written ≡ limit_output (round_call (rules_of c) (next_in pairs) c w out).answer (round_call (rules_of c) (next_in pairs) c w out).out out

abbrev pub stopped_run : Case → List ℤ → Result RunAnswer Refusal → ℕ → Run
stopped_run c w answer rounds = record { answer = answer; rounds = rounds; bound = upper_bound c w }

-- what a call of the run answers and leaves
pub record RunIs (pairs : Bool) (c : Case) (limit : ℕ) (w : List ℤ) (out : List ℕ) (after : List ℤ) (written : List ℕ) (r : Run) : Type 0 where
  pub run : r ≡ (run_call (rules_of c) (next_in pairs) c limit w out).run
  pub table : after ≡ (run_call (rules_of c) (next_in pairs) c limit w out).table
  pub output : written ≡ (run_call (rules_of c) (next_in pairs) c limit w out).out
