-- The program `press` as a start and rounds one after another, on all input. Assumes nothing.
use Rattle.definitions.specs.declared.RefusedAt.{RefusedAt}
use Rattle.definitions.specs.Answers.{refused_at, answer_of}
use Rattle.definitions.specs.Answers.{size_with}
use Rattle.std.specs.Prelude.{List, ℕ, ◌-◌, ℤ, eqb, ltb, length, if◌then◌else◌, Result, Ok, Err}
use Rattle.definitions.specs.declared.CaseSize.{CaseSize}
use Rattle.definitions.specs.declared.Rulebook.{Rulebook}
use Rattle.definitions.specs.declared.Refusal.{Refusal}
use Rattle.definitions.specs.declared.Refusal.TheVariants.{WrongLength}
use Rattle.definitions.specs.declared.Round.{Round}
use Rattle.definitions.specs.Rules.{rules_of}
use Rattle.definitions.specs.Refusals.{number}
use Rattle.calls.specs.Calls.{WriteCall}
use Rattle.definitions.specs.CaseFiles.{CaseCall, case_of, case_size, read_case_alone}
use Rattle.definitions.specs.Engine.{engine_next}
use Rattle.calls.specs.EngineCalls.{RoundCall, is_leaving, engine_refusal, round_call}
use Rattle.definitions.specs.Programs.{press_limit}
use Rattle.texts.specs.Texts.{text_room, write_refused_call}
use Rattle.pressing.specs.declared.Pressing.{Pressing}
use Rattle.pressing.specs.declared.Pressed.{Pressed}

-- a call, with the lent table and output after it
pub record PressingCall : Type 0 where
  pub pressed : Pressed
  pub table : List ℤ
  pub out : List ℕ

-- so many rounds may follow; with none, nothing more is due
abbrev pub with_left : Pressing → ℕ → Pressing
with_left p left = record { case = p.case; lines = p.lines; left = left }

-- a text or a void line; nothing more is due after it
abbrev pub after_text : Pressing → Result ℕ Refusal → Pressed
after_text p (Ok n) = record { pressing = with_left p 0; written = Ok n }
after_text p (Err x) = record { pressing = p; written = Err x }

-- number 11 is printed, at the line after the input's last; a fault of what is handed over is the call's own answer
abbrev pub press_refusal : Refusal → ℕ → List ℕ → WriteCall
press_refusal x lines out = if is_leaving x then write_refused_call out x lines else record { answer = Err x; out = out }

-- by what the engine's round answers
abbrev pub after_round : Pressing → RoundCall → Result Round Refusal → PressingCall
after_round p call (Ok Round.Settled) = record { pressed = record { pressing = with_left p 0; written = Ok 0 }; table = call.table; out = call.out }
after_round p call (Ok (Round.Made bytes bound)) =
    record { pressed = record { pressing = with_left p (p.left - 1); written = Ok bytes }; table = call.table; out = call.out }
after_round p call (Ok (Round.Void bytes)) =
    record { pressed = record { pressing = with_left p 0; written = Ok bytes }; table = call.table; out = call.out }
after_round p call (Err x) =
    let text : WriteCall = press_refusal x p.lines call.out in
    record { pressed = after_text p text.answer; table = call.table; out = text.out }

-- number 4 of an output that is too short, unless the head is refused by what is asked before it: 14 is asked after it
abbrev pub short_or : Refusal → Refusal
short_or x = if eqb (number x) 14 then WrongLength else x

abbrev pub head_or_short : Result CaseSize Refusal → Refusal
head_or_short (Err x) = short_or x
head_or_short (Ok s) = WrongLength

-- a refused case is printed and nothing more is due; after a case that was read, up to 100,000 rounds
abbrev pub after_case : List ℕ → CaseCall → Result ℕ RefusedAt → PressingCall
after_case out call (Err x) =
    let text : WriteCall = write_refused_call out x.refusal x.line in
    record {
      pressed = record { pressing = record { case = call.read.case; lines = x.line; left = 0 }; written = text.answer };
      table = call.table;
      out = text.out;
    }
after_case out call (Ok lines) = record {
  pressed = record { pressing = record { case = call.read.case; lines = lines; left = press_limit }; written = Ok 0 };
  table = call.table;
  out = out;
}

-- the case is read alone; with an output that is too short for a text nothing is read, and 4 comes after what the head is asked
unfoldable pub start_pressing : Rulebook → List ℕ → List ℤ → List ℕ → PressingCall
start_pressing b t w out =
    if ltb (length out) text_room
    then record {
      pressed = record { pressing = record { case = case_of b 0 0 0; lines = 0; left = 0 }; written = Err (head_or_short (case_size b t)) };
      table = w;
      out = out;
    }
    else (
    let call : CaseCall = read_case_alone b t w in
    after_case out call call.read.answer
    )

abbrev pub round_next : Pressing → List ℤ → List ℕ → PressingCall
round_next p w out =
    let call : RoundCall = round_call (rules_of p.case) engine_next p.case w out in
    after_round p call call.answer

-- the next round, if one may follow; if none may, what is handed over is asked as the engine's round asks it, and nothing changes
unfoldable pub next_pressing : Pressing → List ℤ → List ℕ → PressingCall
next_pressing p w out =
    if eqb p.left 0
    then record {
      pressed = record { pressing = p; written = answer_of (engine_refusal (rules_of p.case) engine_next p.case w out) 0 };
      table = w;
      out = out;
    }
    else round_next p w out
