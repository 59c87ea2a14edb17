-- What the private functions answer: a step of the stretch with the rest as it was, and a block with lines before it. Assumes nothing.
use Rattle.std.specs.Prelude.{◌≡◌, Bool, ◌||◌, ℕ, ◌+◌, Ok, Err, Option, None, None}
use Rattle.definitions.specs.declared.Line.{Line}
use Rattle.definitions.specs.declared.Refusal.{Refusal}
use Rattle.definitions.specs.Rules.{rules_of}
use Rattle.definitions.specs.Lines.{has_kind}
use Rattle.checker.specs.declared.Replay.{Replay as Stretch}
use Rattle.checker.specs.Checker.{StepCall as StretchCall, BlockCall as StretchLines}
use Rattle.log_checker.specs.Checker.{Between, StepCall, BlockCall, with_stretch, refused_replay, lent_number}

-- no number stands, and none applies to what was handed over
pub record Lent (b : Between) : Type 0 where
  pub good : b.replay.stretch.standing ≡ Ok tt
  pub unrefused : lent_number (rules_of b.case) b ≡ None

-- and no join is begun
pub record Settled (b : Between) : Type 0 where
  pub lent : Lent b
  pub unjoined : b.replay.joining ≡ None

-- the same record while it stands good
abbrev pub standing_good : Stretch → Stretch
standing_good s = record {
  rounds = s.rounds;
  start = s.start;
  moved = s.moved;
  raised = s.raised;
  due = s.due;
  standing = Ok tt;
}

-- a link leaves or joins
abbrev pub changes_links : Option Line → Bool
changes_links t = has_kind 7 t || has_kind 8 t

-- nothing changes but the standing
abbrev pub step_refused : Between → Refusal → StepCall
step_refused b x = record {
  answer = Err x;
  after = record { case = b.case; starting = b.starting; table = b.table; replay = refused_replay b.replay x };
}

-- what the stretch's calls leave
abbrev pub lifted : Between → StretchCall → StepCall
lifted b call = record {
  answer = call.stepped.answer;
  after = record {
    case = b.case;
    starting = b.starting;
    table = call.table;
    replay = with_stretch b.replay call.stepped.replay;
  };
}

abbrev pub lifted_lines : Between → StretchLines → BlockCall
lifted_lines b call = record {
  lines = call.block.lines;
  answer = call.block.answer;
  after = record {
    case = b.case;
    starting = b.starting;
    table = call.table;
    replay = with_stretch b.replay call.block.replay;
  };
}

-- a block with so many lines more
abbrev pub more_by : ℕ → BlockCall → BlockCall
more_by n x = record { lines = n + x.lines; answer = x.answer; after = x.after }

-- a block that ends with this step
abbrev pub ends_with : StepCall → BlockCall
ends_with call = record { lines = 0; answer = call.answer; after = call.after }
