-- The replay's record as bytes: its count of rounds, its bound at the round's start, the variable, amount, lines left and last scope of a press or a
-- void line begun (0 where there is none; a void line has no amount), then a byte each for: moved, what is due, a last scope, the standing; then the
-- marks of raised scopes, a byte for each place. Assumes nothing.
use Rattle.definitions.specs.declared.Refusal.{Refusal}
use Rattle.std.specs.Prelude.{Bool, ◌&&◌, List, [], ◌∷◌, ◌++◌, ℕ, ℤ, pos, leb, eqb, get_or, take, drop, if◌then◌else◌, Result, Option, Some, None, ⊤}
use Rattle.definitions.specs.Rules.{scope_places}
use Rattle.definitions.specs.Answers.{refusal_of, outcome_of, outcome_says}
use Rattle.checker.specs.declared.Target.{Target}
use Rattle.checker.specs.declared.Due.{Due}
use Rattle.checker.specs.declared.Replay.{Replay}
use Rattle.encoding.specs.declared.Last.{Last}
use Rattle.encoding.specs.declared.Begun.{Begun}
use Rattle.encoding.specs.Numbers.{number_bytes, number_at, word_of, signed_of}

-- ---- what is due and what stands, as numbers

-- 1 and the scope, or 0
abbrev pub last_recorded : Option ℕ → Last
last_recorded None = record { known = 0; scope = 0 }
last_recorded (Some x) = record { known = 1; scope = x }

abbrev pub raised_of : Last → Option ℕ
raised_of q = if eqb q.known 1 then Some q.scope else None

abbrev pub target_kind : Target → ℕ
target_kind (Target.Press a) = 1
target_kind Target.Void = 2

abbrev pub target_amount : Target → ℤ
target_amount (Target.Press a) = a
target_amount Target.Void = pos 0

abbrev pub none_begun : ℕ → Begun
none_begun kind = record { kind = kind; variable = 0; amount = pos 0; left = 0; last = last_recorded None }

-- what is due by its kind: 0 a move, a bound or a void line, 1 a raise line of a press, 2 one of a void line, 3 nothing
abbrev pub begun_recorded : Due → Begun
begun_recorded Due.MoveOrBound = none_begun 0
begun_recorded (Due.Raise i target left last_one) =
    record { kind = target_kind target; variable = i; amount = target_amount target; left = left; last = last_recorded last_one }
begun_recorded Due.Nothing = none_begun 3

abbrev pub raise_recorded : Begun → Target → Due
raise_recorded q target = Due.Raise q.variable target q.left (raised_of q.last)

abbrev pub due_recorded : Begun → Due
due_recorded q =
    if eqb q.kind 1 then raise_recorded q (Target.Press q.amount)
    else if eqb q.kind 2 then raise_recorded q Target.Void
    else if eqb q.kind 3 then Due.Nothing
    else Due.MoveOrBound

-- what stands by the number that it says, 0 where it is good
abbrev pub standing_at : ℕ → Result ⊤ Refusal
standing_at n = outcome_of (refusal_of n)

abbrev pub flag : Bool → ℕ
flag b = if b then 1 else 0

-- ---- the record

unfoldable pub record_numbers : ℕ → ℤ → Begun → List ℕ
record_numbers rounds start q =
    number_bytes rounds ++ number_bytes (word_of start) ++ number_bytes q.variable ++ number_bytes (word_of q.amount) ++ number_bytes q.left
    ++ number_bytes q.last.scope

unfoldable pub record_tags : Bool → Begun → Result ⊤ Refusal → List ℕ
record_tags moved q standing = flag moved ∷ q.kind ∷ q.last.known ∷ (outcome_says standing).number ∷ []

unfoldable pub record_bytes : Replay → List ℕ
record_bytes p =
    let q = begun_recorded p.due in
    record_numbers p.rounds p.start q ++ record_tags p.moved q p.standing ++ p.raised

-- the bytes that say moved, what is due, a last scope and the standing encode something
unfoldable pub is_record : List ℕ → Bool
is_record bytes = leb (get_or bytes 48 0) 1 && leb (get_or bytes 49 0) 3 && leb (get_or bytes 50 0) 1 && leb (get_or bytes 51 0) 16

-- what the bytes say of what is due
abbrev pub begun_at : List ℕ → Begun
begun_at bytes = record {
  kind = get_or bytes 49 0;
  variable = number_at bytes 16;
  amount = signed_of (number_at bytes 24);
  left = number_at bytes 32;
  last = record { known = get_or bytes 50 0; scope = number_at bytes 40 };
}

-- the record of such bytes; what a press or a void line would hold is not looked at where none is begun, nor an amount of a void line
unfoldable pub record_in : List ℕ → Replay
record_in bytes = record {
  rounds = number_at bytes 0;
  start = signed_of (number_at bytes 8);
  moved = eqb (get_or bytes 48 0) 1;
  raised = take scope_places (drop 52 bytes);
  due = due_recorded (begun_at bytes);
  standing = standing_at (get_or bytes 51 0);
}
