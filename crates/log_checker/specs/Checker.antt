-- The replay's calls on all input: a fresh record, a step on one line of any bytes, the end, and a block of lines. They go by the record and the
-- tables that are handed over, whatever these hold, and take nothing from the plain replay. Assumes nothing.
use Rattle.log_checker.specs.declared.JoinBegun.{JoinBegun}
use Rattle.definitions.specs.declared.RefusedAt.{RefusedAt}
use Rattle.std.specs.Prelude.{Bool, true, false, not, ◌&&◌, ◌||◌, List, [], ◌∷◌, ℕ, ℤ, nat_abs, eqb, replicate, if◌then◌else◌, Result, Ok, Err, Option, Some, None, ⊤}
use Rattle.definitions.specs.declared.Case.{Case}
use Rattle.definitions.specs.declared.Line.{Line}
use Rattle.definitions.specs.declared.Refusal.{Refusal}
use Rattle.definitions.specs.declared.Refusal.TheVariants.{NotInColumns, NotDue, OutOfRange, CutShort}
use Rattle.definitions.specs.declared.Judgement.{Judgement}
use Rattle.case_lines.specs.declared.Awaited.{Awaited}
use Rattle.case_lines.specs.declared.Sizes.{Sizes}
use Rattle.checker.specs.declared.Due.{Due}
use Rattle.checker.specs.declared.Replay.{Replay as Stretch}
use Rattle.log_checker.specs.declared.LogRecord.{LogRecord}
use Rattle.definitions.specs.Rules.{Rules, edge_places}
use Rattle.definitions.specs.Refusals.{Test, ◌when◌, first_refusal, sooner}
use Rattle.definitions.specs.Case.{own_length, upper_bound}
use Rattle.definitions.specs.Valid.{both_handed_over}
use Rattle.definitions.specs.Lines.{read_line, not_due, is_kind, whole_lines, lines_in}
use Rattle.definitions.specs.CaseFiles.{CaseDue, Reading, took, zeroed_from}
use Rattle.logs.specs.Leave.{WeightedCase, leave_tests, left_by}
use Rattle.logs.specs.Join.{join_tests, join_line_tests, grown_by}
use Rattle.logs.specs.Waiting.{renumbered, read_so_far, is_last_due, weight_waits, lower_kept, waiting_tests}
use Rattle.case_lines.specs.Dues.{due_awaited, first_due, next_due}
use Rattle.checker.specs.Checker.{Asked, due_kinds, is_short, is_void, refused_replay as refused_stretch, fresh_replay as fresh_stretch, record_out, of_due, taken_lines, first_refused}

-- what stands between lines: the case, both lent tables, the record
pub record Between : Type 0 where
  pub case : Case
  pub starting : List ℤ
  pub table : List ℤ
  pub replay : LogRecord

-- a step, the end and a block, with what is left of what was lent
pub record StepCall : Type 0 where
  pub answer : Result ⊤ Refusal
  pub after : Between

pub record EndCall : Type 0 where
  pub answer : Result ⊤ Refusal
  pub starting : List ℤ

pub record BlockCall : Type 0 where
  pub lines : ℕ
  pub answer : Result ⊤ Refusal
  pub after : Between

-- what a line is asked, in checking order, and what it leaves where no number applies
pub record LineAsked : Type 0 where
  pub tests : List Test
  pub next : Between

-- ---- the record

abbrev pub no_ends : List ℕ
no_ends = replicate edge_places 0

abbrev pub without_join : Stretch → List ℕ → LogRecord
without_join p lower = record { stretch = p; joining = None; lower = lower }

abbrev pub join_begun : ℕ → Awaited → JoinBegun
join_begun edges due = record { edges = edges; due = due }

abbrev pub in_join : LogRecord → ℕ → Awaited → List ℕ → LogRecord
in_join p edges due lower = record { stretch = p.stretch; joining = Some (join_begun edges due); lower = lower }

abbrev pub with_stretch : LogRecord → Stretch → LogRecord
with_stretch p s = record { stretch = s; joining = p.joining; lower = p.lower }

abbrev pub refused_replay : LogRecord → Refusal → LogRecord
refused_replay p x = with_stretch p (refused_stretch p.stretch x)

-- lines of kind 7 and 8 stand between rounds
abbrev pub is_between : Stretch → Bool
is_between s = not (is_short s.due s.moved) && not (is_void s.due)

-- a stretch begins: the next round is compared with this bound, and the count of rounds goes on
abbrev pub next_stretch : Stretch → ℤ → Stretch
next_stretch s bound = record {
  rounds = s.rounds;
  start = bound;
  moved = false;
  raised = s.raised;
  due = Due.MoveOrBound;
  standing = Ok tt;
}

-- with the case and the weights that a stretch begins with
abbrev pub begun_with : LogRecord → WeightedCase → Between
begun_with p v = record {
  case = v.case;
  starting = v.starting;
  table = v.weights;
  replay = without_join (next_stretch p.stretch (upper_bound v.case v.weights)) p.lower;
}

-- the sizes whose lines a join of so many edges has
abbrev pub join_sizes : Case → ℕ → Sizes
join_sizes c p = record { n = 1; d = c.d; m = p; rulebook = c.rulebook }

-- "a refused line or end sets them to 0": the weights that wait
abbrev pub waiting_at : Case → List ℤ → Option JoinBegun → List ℤ
waiting_at c w₀ None = w₀
waiting_at c w₀ (Some j) = zeroed_from (own_length c) w₀

-- the judgement of a log with no number, by what stands after it
abbrev pub good_in : Between → Result Judgement RefusedAt
good_in b =
    if is_void b.replay.stretch.due then Ok Judgement.Void
    else Ok (Judgement.Accepted b.replay.stretch.rounds (upper_bound b.case b.table))

module _ (r : Rules) where
  -- ---- fresh: refused, the record stands refused and is zero else

  unfoldable pub fresh_replay : Case → List ℤ → LogRecord
  fresh_replay c w = without_join (fresh_stretch r c w) no_ends

  -- ---- what is asked of everything handed over, but for the line: 3 to 8 and 15

  abbrev pub lent_tests : Between → Option JoinBegun → List Test
  lent_tests b None = both_handed_over r b.case b.starting b.table (record_out r b.case b.replay.stretch)
  lent_tests b (Some j) =
      waiting_tests r b.case b.starting b.table j.edges (due_awaited j.due) b.replay.lower
      (record_out r b.case b.replay.stretch || not (is_between b.replay.stretch))

  abbrev pub lent_number : Between → Option Refusal
  lent_number b = first_refusal (lent_tests b b.replay.joining)

  -- ---- each line

  abbrev pub of_leave : Between → Line → LineAsked
  of_leave b t = record {
    tests = NotDue when (not_due r (7 ∷ []) t) ∷ leave_tests b.case t;
    next = begun_with b.replay (left_by r b.case (nat_abs t.a) b.starting b.table);
  }

  abbrev pub of_join : Between → Line → LineAsked
  of_join b t = record {
    tests = NotDue when (not_due r (8 ∷ []) t) ∷ join_tests r b.case t;
    next = record {
      case = b.case;
      starting = b.starting;
      table = b.table;
      replay = in_join b.replay (nat_abs t.a) (first_due (join_sizes b.case (nat_abs t.a))) b.replay.lower;
    };
  }

  -- a case line of a join of p edges
  abbrev pub of_join_line : Between → ℕ → Awaited → Line → LineAsked
  of_join_line b p due t =
      let small : CaseDue = due_awaited due in
      let g : Reading = read_so_far b.case b.starting p small b.replay.lower in
      let own : CaseDue = renumbered b.case small in
      record {
        tests = join_line_tests r g own t;
        next =
            if is_last_due b.case p small
            then begun_with b.replay (grown_by b.case b.table (took g own (Some t)))
            else record {
              case = b.case;
              starting = weight_waits b.case b.starting p small t;
              table = b.table;
              replay = in_join b.replay p (next_due (join_sizes b.case p) due) (lower_kept small t b.replay.lower);
            };
      }

  -- a line of the stretch
  abbrev pub of_move : Between → Asked → Line → LineAsked
  of_move b asked t = record {
    tests = NotDue when (not_due r (due_kinds b.replay.stretch.due) t) ∷ OutOfRange when asked.out ∷ asked.later;
    next = record {
      case = b.case;
      starting = b.starting;
      table = asked.table;
      replay = with_stretch b.replay asked.next;
    };
  }

  abbrev pub of_line : Between → Option JoinBegun → Line → LineAsked
  of_line b (Some j) t = of_join_line b j.edges j.due t
  of_line b None t =
      if is_between b.replay.stretch && is_kind 7 t then of_leave b t
      else if is_between b.replay.stretch && is_kind 8 t then of_join b t
      else of_move b (of_due r b.case b.table b.replay.stretch b.replay.stretch.due t) t

  -- ---- step: the first number, in checking order, of the line and of what was handed over. A refused line changes the standing, and sets the
  -- weights that wait to 0; where a number applies to what was handed over, "a refused table or record", nothing but the standing changes

  abbrev pub refused_by : Between → Refusal → Option Refusal → StepCall
  refused_by b x lent = record {
    answer = Err x;
    after = record {
      case = b.case;
      starting = elim lent [ None ↦ waiting_at b.case b.starting b.replay.joining | Some y ↦ b.starting ];
      table = b.table;
      replay = refused_replay b.replay x;
    };
  }

  abbrev pub step_by : Between → LineAsked → Option Refusal → StepCall
  step_by b asked None = record { answer = Ok tt; after = asked.next }
  step_by b asked (Some x) = refused_by b x (lent_number b)

  abbrev pub step_line : Between → Option Line → StepCall
  step_line b None = refused_by b NotInColumns (lent_number b)
  step_line b (Some t) =
      let asked = of_line b b.replay.joining t in
      step_by b asked (sooner (lent_number b) (first_refusal asked.tests))

  -- a number that stands is the answer to every line, and nothing changes any more
  abbrev pub stands : Between → Refusal → StepCall
  stands b x = record { answer = Err x; after = b }

  abbrev pub step_standing : Between → List ℕ → Result ⊤ Refusal → StepCall
  step_standing b bytes (Err x) = stands b x
  step_standing b bytes (Ok tt) = step_line b (read_line r.amount_width bytes)

  unfoldable pub step_replay : Between → List ℕ → StepCall
  step_replay b bytes = step_standing b bytes b.replay.stretch.standing

  -- ---- end: the number that stands, else 3 to 8 and 15 of what was handed over, else 14 if a press, a void line or a join is begun or a move has no
  -- bound line after it; after a whole void line there is no 14

  abbrev pub is_cut_short : LogRecord → Option JoinBegun → Bool
  is_cut_short p None = is_short p.stretch.due p.stretch.moved
  is_cut_short p (Some j) = true

  abbrev pub end_lent : Between → Option Refusal → EndCall
  end_lent b (Some x) = record { answer = Err x; starting = b.starting }
  end_lent b None =
      if is_cut_short b.replay b.replay.joining
      then record { answer = Err CutShort; starting = waiting_at b.case b.starting b.replay.joining }
      else record { answer = Ok tt; starting = b.starting }

  abbrev pub end_standing : Between → Result ⊤ Refusal → EndCall
  end_standing b (Err x) = record { answer = Err x; starting = b.starting }
  end_standing b (Ok tt) = end_lent b (lent_number b)

  unfoldable pub end_replay : Between → EndCall
  end_replay b = end_standing b b.replay.stretch.standing

  -- ---- many lines: the fold of step over what stands between lines

  abbrev pub after_lines : Between → List (List ℕ) → Between
  after_lines b [] = b
  after_lines b (t ∷ ts) = after_lines (step_replay b t).after ts

  -- each line's answer
  abbrev pub line_answers : Between → List (List ℕ) → List (Result ⊤ Refusal)
  line_answers b [] = []
  line_answers b (t ∷ ts) = (step_replay b t).answer ∷ line_answers (step_replay b t).after ts

  -- over the whole lines of these bytes; a part line at their end is not looked at
  unfoldable pub fold_replay : Between → List ℕ → BlockCall
  fold_replay b bytes =
      let lines = lines_in r.amount_width bytes in
      let os = line_answers b lines in
      record { lines = taken_lines os; answer = first_refused os; after = after_lines b lines }

  -- ---- a block: the fold over its whole lines; with none, the number that stands, else 3 to 8 and 15 of what was handed over

  abbrev pub lent_standing : Between → Result ⊤ Refusal → Option Refusal
  lent_standing b (Err x) = Some x
  lent_standing b (Ok tt) = lent_number b

  abbrev pub no_line : Between → Option Refusal → BlockCall
  no_line b None = record { lines = 0; answer = Ok tt; after = b }
  no_line b (Some x) = record {
    lines = 0;
    answer = Err x;
    after = record { case = b.case; starting = b.starting; table = b.table; replay = refused_replay b.replay x };
  }

  unfoldable pub block_replay : Between → List ℕ → BlockCall
  block_replay b bytes =
      if eqb (whole_lines r.amount_width bytes) 0
      then no_line b (lent_standing b b.replay.stretch.standing)
      else fold_replay b bytes

-- what a step and a block of the library hand back and leave
abbrev pub between_of : LogRecord → Case → List ℤ → List ℤ → Between
between_of p c w₀ w = record { case = c; starting = w₀; table = w; replay = p }
