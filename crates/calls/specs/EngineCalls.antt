-- The engine's calls on all input: one round, and the run that iterates it, on a lent table and a lent output. Assumes nothing.
use Rattle.std.specs.Prelude.{Bool, false, List, [], ◌++◌, ℕ, zero, suc, ℤ, pos, ltb, eqb, length, take, if◌then◌else◌, Result, Ok, Err, Option, Some, None}
use Rattle.integers.specs.Words.{joined}
use Rattle.definitions.specs.declared.Case.{Case}
use Rattle.definitions.specs.declared.Refusal.{Refusal}
use Rattle.definitions.specs.declared.Round.{Round}
use Rattle.definitions.specs.declared.RunAnswer.{RunAnswer}
use Rattle.definitions.specs.declared.Run.{Run}
use Rattle.definitions.specs.Rules.{Rules}
use Rattle.definitions.specs.Refusals.{number, first_refusal}
use Rattle.definitions.specs.Case.{upper_bound}
use Rattle.definitions.specs.Valid.{working_weight, handed_over}
use Rattle.definitions.specs.Lines.{overwritten}
use Rattle.definitions.specs.Engine.{Next, Made, settled, refused, made, voided, make_next, round_bytes}

pub record RoundCall : Type 0 where
  pub answer : Result Round Refusal
  pub table : List ℤ
  pub out : List ℕ

-- a run's answer, rounds and bound, the table and the output after it; its log is what the calls of its rounds wrote, joined, a void line at the
-- end
pub record RunCall : Type 0 where
  pub run : Run
  pub table : List ℤ
  pub out : List ℕ
  pub log : List ℕ

-- by numbers 3 to 8 and 15 a run is refused before its first round, and has no bound; by 11 it stands as after its last round
abbrev pub is_leaving : Refusal → Bool
is_leaving x = eqb (number x) 11

-- ---- one round: its lines from the output's first byte; settled or refused, table and output keep what they held; with a void line the table
-- does

abbrev pub round_made : Case → List ℤ → List ℕ → Made → RoundCall
round_made c w out settled = record { answer = Ok Round.Settled; table = w; out = out }
round_made c w out (refused x) = record { answer = Err x; table = w; out = out }
round_made c w out (made v lines) = record {
  answer = Ok (Round.Made (length (joined lines)) (upper_bound c v));
  table = v;
  out = overwritten (joined lines) out;
}
round_made c w out (voided lines) = record { answer = Ok (Round.Void (length (joined lines))); table = w; out = overwritten (joined lines) out }

module _ (r : Rules) (next : Rules → Case → List ℤ → Next) (c : Case) where
  -- 3 to 8 and 15
  abbrev pub engine_refusal : List ℤ → List ℕ → Option Refusal
  engine_refusal w out = first_refusal (handed_over r (working_weight r) c w (ltb (length out) (round_bytes r c)) false)

  unfoldable pub round_call : List ℤ → List ℕ → RoundCall
  round_call w out = elim (engine_refusal w out) [
    | Some x ↦ record { answer = Err x; table = w; out = out }
    | None ↦ round_made c w out (make_next r c w (next r c w))
  ]

  -- ---- the run

  abbrev pub bound_at : Result RunAnswer Refusal → List ℤ → ℤ
  bound_at (Ok RunAnswer.Settled) w = upper_bound c w
  bound_at (Ok RunAnswer.Limit) w = upper_bound c w
  bound_at (Ok RunAnswer.Void) w = upper_bound c w
  bound_at (Err x) w = if is_leaving x then upper_bound c w else pos 0

  abbrev pub stop_run : Result RunAnswer Refusal → ℕ → List ℤ → List ℕ → List ℕ → RunCall
  stop_run answer done w out log = record {
    run = record { answer = answer; rounds = done; bound = bound_at answer w };
    table = w;
    out = out;
    log = log;
  }

  -- a void line ends the run, with its bytes in the log
  abbrev pub stop_void : RoundCall → ℕ → ℕ → List ℕ → RunCall
  stop_void call bytes done log = stop_run (Ok RunAnswer.Void) done call.table call.out (log ++ take bytes call.out)

  abbrev pub go_on : Result Round Refusal → RoundCall → ℕ → List ℤ → List ℕ → List ℕ → (List ℤ → List ℕ → List ℕ → RunCall) → RunCall
  go_on (Ok Round.Settled) call done w out log go = stop_run (Ok RunAnswer.Settled) done w out log
  go_on (Err x) call done w out log go = stop_run (Err x) done w out log
  go_on (Ok (Round.Made bytes bound)) call done w out log go = go call.table call.out (log ++ take bytes call.out)
  go_on (Ok (Round.Void bytes)) call done w out log go = stop_void call bytes done log

  -- At its limit a run answers settled if settled, and limit otherwise, also where the next round would be refused by 11. A void line is
  -- written even then.
  abbrev pub end_at_limit : Result Round Refusal → RoundCall → ℕ → List ℤ → List ℕ → List ℕ → RunCall
  end_at_limit (Ok Round.Settled) call done w out log = stop_run (Ok RunAnswer.Settled) done w out log
  end_at_limit (Ok (Round.Made bytes bound)) call done w out log = stop_run (Ok RunAnswer.Limit) done w out log
  end_at_limit (Ok (Round.Void bytes)) call done w out log = stop_void call bytes done log
  end_at_limit (Err x) call done w out log = stop_run (if is_leaving x then Ok RunAnswer.Limit else Err x) done w out log

  -- with `left` rounds allowed, after `done` rounds
  abbrev pub run_call_from : ℕ → ℕ → List ℤ → List ℕ → List ℕ → RunCall
  run_call_from zero done w out log = end_at_limit (round_call w out).answer (round_call w out) done w out log
  run_call_from (suc left) done w out log =
      go_on (round_call w out).answer (round_call w out) done w out log (λ v bytes joined_log. run_call_from left (suc done) v bytes joined_log)

  unfoldable pub run_call : ℕ → List ℤ → List ℕ → RunCall
  run_call limit w out = run_call_from limit 0 w out []
