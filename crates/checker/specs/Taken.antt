-- What the private functions answer: a line taken with the record in parts, the raised scopes lent and the rest by value. Assumes nothing.
use Rattle.definitions.specs.declared.Refusal.{Refusal}
use Rattle.std.specs.Prelude.{◌≡◌, false, not, ◌||◌, List, ◌∷◌, ℕ, ◌+◌, ℤ, pos, set, Result, Ok, Err, Some, None, ⊤}
use Rattle.definitions.specs.declared.Case.{Case}
use Rattle.definitions.specs.declared.Line.{Line}
use Rattle.definitions.specs.declared.Refusal.TheVariants.{NotDue, NotRefuted}
use Rattle.definitions.specs.Rules.{rules_of}
use Rattle.definitions.specs.Refusals.{Test, ◌when◌, first_refusal}
use Rattle.definitions.specs.Answers.{outcome_of, unless_refused}
use Rattle.definitions.specs.Valid.{working_weight, handed_over}
use Rattle.definitions.specs.Consistency.{all_refuted}
use Rattle.definitions.specs.Moves.{active_values}
use Rattle.definitions.specs.Lines.{not_due, line_length}
use Rattle.calls.specs.Calls.{is_raised}
use Rattle.checker.specs.declared.Target.{Target}
use Rattle.checker.specs.declared.Replay.{Replay}
use Rattle.checker.specs.declared.Progress.{Progress}
use Rattle.checker.specs.declared.Taken.{Taken}
use Rattle.checker.specs.Checker.{StepCall, BlockCall, Asked, fresh_of, due_kinds, after_target, record_out, target_table, last_tests, of_due, step_by}

abbrev pub replay_of : Progress → List ℕ → Result ⊤ Refusal → Replay
replay_of p raised standing = record {
  rounds = p.rounds;
  start = p.start;
  moved = p.moved;
  raised = raised;
  due = p.due;
  standing = standing;
}

-- the same record while it stands good
abbrev pub good_replay : Progress → List ℕ → Replay
good_replay p raised = replay_of p raised (Ok tt)

-- a fresh record by the bound at the round's start
abbrev pub fresh_from : Result ℤ Refusal → Replay
fresh_from (Ok bound) = fresh_of None bound
fresh_from (Err x) = fresh_of (Some x) (pos 0)

-- the step of a line taken
abbrev pub step_of : Taken → List ℕ → List ℤ → StepCall
step_of t raised w = record {
  stepped = record { replay = replay_of t.progress raised t.answer; answer = t.answer };
  table = w;
}

-- the step of a line to which no number applies, by the record after it
abbrev pub step_taken : Replay → List ℤ → StepCall
step_taken p w = record { stepped = record { replay = p; answer = (Ok tt) }; table = w }

-- a step of which only the numbers after 15 are left to ask
abbrev pub step_next : List ℤ → Replay → Asked → StepCall
step_next w p asked = step_by w p asked (first_refusal asked.later)

-- numbers 2 to 8 and 15 of a line
abbrev pub front_tests : Case → List ℤ → Replay → Line → List Test
front_tests c w p t =
    NotDue when (not_due (rules_of c) (due_kinds p.due) t)
    ∷ handed_over (rules_of c) (working_weight (rules_of c)) c w false (record_out (rules_of c) c p || (of_due (rules_of c) c w p p.due t).out)

-- ---- the last raise line of a press or a void line: number 10, 16 or 11, and the step

abbrev pub whole_tests : Case → List ℤ → ℕ → List ℕ → Target → List Test
whole_tests c w i raised target =
    NotRefuted when (not (all_refuted c w (is_raised raised) i (active_values c w i))) ∷ last_tests (rules_of c) c w i raised target

-- the answer to number 16 or 11, and the table after it
abbrev pub TargetTaken : Case → List ℤ → ℕ → List ℕ → Target → Result ⊤ Refusal → List ℤ → Type 0
TargetTaken c w i raised target answer after =
    (answer ≡ outcome_of (first_refusal (last_tests (rules_of c) c w i raised target)))
    × (after ≡ unless_refused (first_refusal (last_tests (rules_of c) c w i raised target)) (target_table (rules_of c) c w i raised target) w)

abbrev pub last_asked : Case → List ℤ → Replay → ℕ → Target → ℕ → Asked
last_asked c w p i target x =
    let raised = set p.raised x 1 in
    record { out = false; later = whole_tests c w i raised target; table = target_table (rules_of c) c w i raised target; next = after_target p target }

abbrev pub last_step : Case → List ℤ → Replay → ℕ → Target → ℕ → StepCall
last_step c w p i target x = step_next w p (last_asked c w p i target x)

-- ---- lines

-- a line has so many bytes under the case's rules
abbrev pub bytes_per_line : Case → ℕ
bytes_per_line c = line_length (rules_of c).amount_width

-- a block with so many lines more
abbrev pub more_by : ℕ → BlockCall → BlockCall
more_by n x = record {
  block = record { replay = x.block.replay; lines = n + x.block.lines; answer = x.block.answer };
  table = x.table;
}
