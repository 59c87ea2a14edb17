-- Document 02, change 5, "Links that join and leave": the plain replay of a log, whose lines of kind 7 and 8 begin a new stretch. Assumes nothing.
use Rattle.std.specs.Prelude.{Bool, true, false, not, ◌&&◌, ◌||◌, List, [], ◌∷◌, ℕ, ℤ, nat_abs, if◌then◌else◌, Option, Some, None, is_some}
use Rattle.integers.specs.Words.{any}
use Rattle.definitions.specs.declared.Case.{Case}
use Rattle.definitions.specs.declared.Line.{Line}
use Rattle.definitions.specs.declared.Refusal.{Refusal}
use Rattle.definitions.specs.declared.Refusal.TheVariants.{NotInColumns, NotDue, CutShort}
use Rattle.definitions.specs.Rules.{Rules}
use Rattle.definitions.specs.Refusals.{Test, ◌when◌, first_refusal}
use Rattle.definitions.specs.Case.{upper_bound}
use Rattle.definitions.specs.Lines.{read_line, not_due, is_kind, has_kind}
use Rattle.definitions.specs.CaseFiles.{CaseDue, Reading, took}
use Rattle.logs.specs.Leave.{WeightedCase, leave_tests, left_by}
use Rattle.logs.specs.Join.{Joining, begun_join, join_tests, join_line_tests, grown_by}
use Rattle.definitions.specs.Replay.{State, fresh, refused, step_unrefused, at_end}

-- ---- the state: that of the stretch, which is document 01's, and the join begun

pub record LogState : Type 0 where
  pub stretch : State
  pub joining : Option Joining

abbrev pub in_stretch : State → LogState
in_stretch s = record { stretch = s; joining = None }

abbrev pub fresh_log : Case → List ℤ → LogState
fresh_log c w = in_stretch (fresh c w)

-- a case, its starting weights and its working weights, with which a stretch begins: "the next round is compared with the ceiling after" the
-- line, and the count of rounds goes on
abbrev pub new_stretch : State → WeightedCase → LogState
new_stretch s v = in_stretch (record {
  case = v.case;
  starting = v.starting;
  weights = v.weights;
  rounds = s.rounds;
  start = upper_bound v.case v.weights;
  held = None;
  moving = false;
  void = false;
  refusal = None;
})

abbrev pub refused_log : LogState → Refusal → LogState
refused_log s x = record { stretch = refused s.stretch x; joining = s.joining }

-- ---- "These lines stand only between rounds": no press or void line is held, no move is without a bound line after it, no void line is whole

abbrev pub between_rounds : State → Bool
between_rounds s = not (is_some s.held) && not s.moving && not s.void

abbrev pub leaves : State → Line → Bool
leaves s t = between_rounds s && is_kind 7 t

abbrev pub joins : State → Line → Bool
joins s t = between_rounds s && is_kind 8 t

-- kind 7, the link leaves; kind 8, a join is begun, and nothing has changed yet
abbrev pub after_leave : Rules → State → Line → LogState
after_leave r s t = new_stretch s (left_by r s.case (nat_abs t.a) s.starting s.weights)

abbrev pub after_join : State → Line → LogState
after_join s t = record { stretch = s; joining = Some (begun_join s.case s.starting (nat_abs t.a)) }

-- a case line of the join, where `due` is due: "a join takes effect with its last line"
abbrev pub joined_by : State → Reading → List CaseDue → LogState
joined_by s g [] = new_stretch s (grown_by s.case s.weights g)
joined_by s g (due ∷ dues) = record { stretch = s; joining = Some (record { reading = g; dues = due ∷ dues }) }

module _ (r : Rules) where
  -- ---- one line, any bytes: what is asked of it, and what it leaves where no number applies

  abbrev pub leave_line_tests : State → Line → List Test
  leave_line_tests s t = NotDue when (not_due r (7 ∷ []) t) ∷ leave_tests s.case t

  abbrev pub begin_join_tests : State → Line → List Test
  begin_join_tests s t = NotDue when (not_due r (8 ∷ []) t) ∷ join_tests r s.case t

  abbrev pub unless_number : LogState → LogState → Option Refusal → LogState
  unless_number s u None = u
  unless_number s u (Some x) = refused_log s x

  abbrev pub line_between : State → Line → LogState
  line_between s t =
      if leaves s t then unless_number (in_stretch s) (after_leave r s t) (first_refusal (leave_line_tests s t))
      else if joins s t then unless_number (in_stretch s) (after_join s t) (first_refusal (begin_join_tests s t))
      else in_stretch (step_unrefused r s (Some t))

  abbrev pub line_of_join : LogState → Reading → List CaseDue → Line → LogState
  line_of_join s g [] t = refused_log s NotDue
  line_of_join s g (due ∷ dues) t = unless_number s (joined_by s.stretch (took g due (Some t)) dues) (first_refusal (join_line_tests r g due t))

  abbrev pub line_by : LogState → Option Joining → Line → LogState
  line_by s None t = line_between s.stretch t
  line_by s (Some j) t = line_of_join s j.reading j.dues t

  abbrev pub line_read : LogState → Option Line → LogState
  line_read s None = refused_log s NotInColumns
  line_read s (Some t) = line_by s s.joining t

  -- a number that applied is the answer to all later lines, and nothing changes any more
  abbrev pub step_log : LogState → List ℕ → LogState
  step_log s bytes = if is_some s.stretch.refusal then s else line_read s (read_line r.amount_width bytes)

  -- ---- a list of lines: the state after it, and each line's answer

  abbrev pub after_log : LogState → List (List ℕ) → LogState
  after_log s [] = s
  after_log s (t ∷ ts) = after_log (step_log s t) ts

  abbrev pub log_answers : LogState → List (List ℕ) → List (Option Refusal)
  log_answers s [] = []
  log_answers s (t ∷ ts) = (step_log s t).stretch.refusal ∷ log_answers (step_log s t) ts

  -- ---- stretches: a line begins one if it is a leave, or a join's last line, to which no number applies

  abbrev pub begins_stretch : LogState → List ℕ → Bool
  begins_stretch s t =
      not (is_some (step_log s t).stretch.refusal) && not (is_some (step_log s t).joining)
      && (is_some s.joining || (between_rounds s.stretch && has_kind 7 (read_line r.amount_width t)))

  -- no line of the list begins one
  abbrev pub one_stretch : LogState → List (List ℕ) → Bool
  one_stretch s [] = true
  one_stretch s (t ∷ ts) = not (begins_stretch s t) && one_stretch (step_log s t) ts

  -- from a fresh state: a stretch begins with what a list leaves, at first or with its last line
  abbrev pub at_stretch : LogState → List (List ℕ) → Bool
  at_stretch s [] = true
  at_stretch s (t ∷ []) = begins_stretch s t
  at_stretch s (t ∷ u ∷ us) = at_stretch (step_log s t) (u ∷ us)

  -- some line of the list is of kind 7 or 8
  abbrev pub some_link : List (List ℕ) → Bool
  some_link ts = any (λ t. has_kind 7 (read_line r.amount_width t) || has_kind 8 (read_line r.amount_width t)) ts

-- at the end a join that is cut off is 14
abbrev pub log_end : LogState → Option Refusal
log_end s =
    if is_some s.stretch.refusal then s.stretch.refusal
    else if is_some s.joining then Some CutShort
    else at_end s.stretch

abbrev pub keeps_log_rules : Rules → Case → List ℤ → List (List ℕ) → Bool
keeps_log_rules r c w ts = not (is_some (log_end (after_log r (fresh_log c w) ts)))
