-- Answers in the library's records: the number that an answer says, and its values; 0 where there is no such value. Assumes nothing.
use Rattle.definitions.specs.declared.Refusal.{Refusal}
use Rattle.std.specs.Prelude.{ℕ, Result, Ok, Err}
use Rattle.definitions.specs.declared.Round.{Round}
use Rattle.definitions.specs.declared.RunAnswer.{RunAnswer}
use Rattle.definitions.specs.declared.Run.{Run}
use Rattle.definitions.specs.Answers.{round_says, run_says, value_at, count_at}
use Rattle.engine_library.specs.declared.CeilingRound.{CeilingRound}
use Rattle.engine_library.specs.declared.CeilingRun.{CeilingRun}

-- 1 where a void line was written: no lawful plan exists
abbrev pub none_lawful : Result Round Refusal → ℕ
none_lawful (Ok Round.Settled) = 0
none_lawful (Ok (Round.Made bytes bound)) = 0
none_lawful (Ok (Round.Void bytes)) = 1
none_lawful (Err x) = 0

-- a round's bytes and bound, or a void line's bytes; settled has no bytes, and only a round hands a bound back
abbrev pub round_of : Result Round Refusal → CeilingRound
round_of round = record {
  number = (round_says round).number;
  bytes = count_at (round_says round) 0;
  bound = value_at (round_says round) 1;
  none_lawful = none_lawful round;
}

-- 1 where a run ended by its limit, and 1 where it ended with a void line
abbrev pub by_limit : Result RunAnswer Refusal → ℕ
by_limit (Ok RunAnswer.Settled) = 0
by_limit (Ok RunAnswer.Limit) = 1
by_limit (Ok RunAnswer.Void) = 0
by_limit (Err x) = 0

abbrev pub by_void : Result RunAnswer Refusal → ℕ
by_void (Ok RunAnswer.Settled) = 0
by_void (Ok RunAnswer.Limit) = 0
by_void (Ok RunAnswer.Void) = 1
by_void (Err x) = 0

abbrev pub run_of : Run → CeilingRun
run_of run = record {
  number = (run_says run.answer).number;
  limit = by_limit run.answer;
  rounds = run.rounds;
  bound = run.bound;
  none_lawful = by_void run.answer;
}
