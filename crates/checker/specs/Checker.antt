-- The replay's calls on all input: a fresh record, a step on one line of any bytes, the end, and a block of lines. They go by the record that
-- is handed over, whatever it holds, and take nothing from the plain replay. Assumes nothing.
use Rattle.definitions.specs.declared.RefusedAt.{RefusedAt}
use Rattle.std.specs.Prelude.{Bool, true, false, not, ◌&&◌, ◌||◌, List, [], ◌∷◌, ◌++◌, ℕ, ◌+◌, ◌-◌, ℤ, pos, nat_abs, leb, ltb, eqb, drop, set, replicate, if◌then◌else◌, Result, Ok, Err, Option, Some, None, ⊤}
use Rattle.std.specs.Int.Signed.{lt_z}
use Rattle.integers.specs.Words.{all, within, eq_z}
use Rattle.definitions.specs.declared.Case.{Case}
use Rattle.definitions.specs.declared.Line.{Line}
use Rattle.definitions.specs.declared.Refusal.{Refusal}
use Rattle.definitions.specs.declared.Refusal.TheVariants.{
  NotInColumns,
  NotDue,
  RaiseNotAscending,
  NotRefuted,
  LeavesRange,
  OtherBound,
  BoundNotLower,
  CutShort,
  NotAllBarred,
}
use Rattle.definitions.specs.declared.Judgement.{Judgement}
use Rattle.checker.specs.declared.Target.{Target}
use Rattle.checker.specs.declared.Due.{Due}
use Rattle.checker.specs.declared.Replay.{Replay}
use Rattle.checker.specs.declared.Stepped.{Stepped}
use Rattle.checker.specs.declared.Block.{Block}
use Rattle.definitions.specs.Rules.{Rules, scope_places}
use Rattle.definitions.specs.Refusals.{Test, ◌when◌, first_refusal}
use Rattle.definitions.specs.Answers.{outcome_of}
use Rattle.definitions.specs.Case.{scope_count, upper_bound}
use Rattle.definitions.specs.Valid.{starting_weight, working_weight, limit_test, edge_tests, handed_over}
use Rattle.definitions.specs.Consistency.{all_refuted}
use Rattle.definitions.specs.Moves.{plus, shift_by, press_by, spared, shift_amount, press_amount, active_values, leaves_range}
use Rattle.definitions.specs.Replay.{begin_out, all_barred}
use Rattle.definitions.specs.Lines.{read_line, not_due, is_kind, outside, whole_lines, lines_in}
use Rattle.calls.specs.Calls.{is_raised}

-- what stands between lines: the case, the lent table, the record
pub record Between : Type 0 where
  pub case : Case
  pub table : List ℤ
  pub replay : Replay

-- a step and a block, with the lent table after them
pub record StepCall : Type 0 where
  pub stepped : Stepped
  pub table : List ℤ

pub record BlockCall : Type 0 where
  pub block : Block
  pub table : List ℤ

-- what a kind of line asks, number 5 and then the numbers after 8, and what it leaves where none applies
pub record Asked : Type 0 where
  pub out : Bool
  pub later : List Test
  pub table : List ℤ
  pub next : Replay

-- ---- the record

abbrev pub none_raised : List ℕ
none_raised = replicate scope_places 0

abbrev pub last_out : Case → Option ℕ → Bool
last_out c None = false
last_out c (Some x) = not (ltb x (scope_count c))

abbrev pub not_above_last : Option ℕ → ℕ → Bool
not_above_last None x = false
not_above_last (Some y) x = leb x y

abbrev pub due_kinds : Due → List ℕ
due_kinds Due.MoveOrBound = 1 ∷ 2 ∷ 4 ∷ 5 ∷ []
due_kinds (Due.Raise i target left last_one) = 3 ∷ []
due_kinds Due.Nothing = []

-- at the end: a press or a void line is held, or a move has no bound line after it; a whole void line asks none
abbrev pub is_short : Due → Bool → Bool
is_short Due.MoveOrBound moved = moved
is_short (Due.Raise i target left last_one) moved = true
is_short Due.Nothing moved = false

-- a void line is whole
abbrev pub is_void : Due → Bool
is_void Due.Nothing = true
is_void Due.MoveOrBound = false
is_void (Due.Raise i target left last_one) = false

-- the judgement of a log with no number, by the record and the table after it
abbrev pub good_in : Case → Replay → List ℤ → Result Judgement RefusedAt
good_in c p w = if is_void p.due then Ok Judgement.Void else Ok (Judgement.Accepted p.rounds (upper_bound c w))

abbrev pub fresh_of : Option Refusal → ℤ → Replay
fresh_of None bound = record {
  rounds = 0;
  start = bound;
  moved = false;
  raised = none_raised;
  due = Due.MoveOrBound;
  standing = Ok tt;
}
fresh_of (Some x) bound = record {
  rounds = 0;
  start = pos 0;
  moved = false;
  raised = none_raised;
  due = Due.MoveOrBound;
  standing = Err x;
}

-- ---- the next record: after a shift, inside a press or a void line, after its last raise line, after a bound line, refused

abbrev pub refused_replay : Replay → Refusal → Replay
refused_replay p x = record {
  rounds = p.rounds;
  start = p.start;
  moved = p.moved;
  raised = p.raised;
  due = p.due;
  standing = Err x;
}

abbrev pub after_shift : Replay → Replay
after_shift p = record {
  rounds = p.rounds;
  start = p.start;
  moved = true;
  raised = p.raised;
  due = Due.MoveOrBound;
  standing = Ok tt;
}

abbrev pub in_press : Replay → List ℕ → Due → Replay
in_press p raised due = record {
  rounds = p.rounds;
  start = p.start;
  moved = p.moved;
  raised = raised;
  due = due;
  standing = Ok tt;
}

-- no press, nothing raised
abbrev pub after_press : Replay → Replay
after_press p = record {
  rounds = p.rounds;
  start = p.start;
  moved = true;
  raised = none_raised;
  due = Due.MoveOrBound;
  standing = Ok tt;
}

-- nothing is due any more, nothing raised
abbrev pub after_void_line : Replay → Replay
after_void_line p = record {
  rounds = p.rounds;
  start = p.start;
  moved = p.moved;
  raised = none_raised;
  due = Due.Nothing;
  standing = Ok tt;
}

abbrev pub after_target : Replay → Target → Replay
after_target p (Target.Press a) = after_press p
after_target p Target.Void = after_void_line p

abbrev pub after_bound_line : Replay → ℤ → Replay
after_bound_line p bound = record {
  rounds = p.rounds + 1;
  start = bound;
  moved = false;
  raised = p.raised;
  due = Due.MoveOrBound;
  standing = Ok tt;
}

-- ---- a step by whether a number applies

abbrev pub step_refused : Replay → List ℤ → Refusal → StepCall
step_refused p w x = record { stepped = record { replay = refused_replay p x; answer = Err x }; table = w }

abbrev pub step_by : List ℤ → Replay → Asked → Option Refusal → StepCall
step_by w p asked None = record { stepped = record { replay = asked.next; answer = (Ok tt) }; table = asked.table }
step_by w p asked (Some x) = step_refused p w x

-- ---- the answers to many lines: how many got no number, and the first refusal

abbrev pub taken_lines : List (Result ⊤ Refusal) → ℕ
taken_lines [] = 0
taken_lines ((Ok tt) ∷ os) = 1 + taken_lines os
taken_lines (Err x ∷ os) = 0

abbrev pub first_refused : List (Result ⊤ Refusal) → Result ⊤ Refusal
first_refused [] = Ok tt
first_refused ((Ok tt) ∷ os) = first_refused os
first_refused (Err x ∷ os) = Err x

-- ---- a block of no whole line by whether a number applies; refused, the record stands refused by it

abbrev pub no_line : List ℤ → Replay → Option Refusal → BlockCall
no_line w p None = record { block = record { replay = p; lines = 0; answer = (Ok tt) }; table = w }
no_line w p (Some x) = record { block = record { replay = refused_replay p x; lines = 0; answer = Err x }; table = w }

module _ (r : Rules) where
  -- number 5 of what is due: inside a press or a void line its variable, amount, lines left, last scope, and every scope raised
  abbrev pub target_out : Target → Bool
  target_out (Target.Press a) = not (press_amount r a)
  target_out Target.Void = false

  abbrev pub due_out : Case → List ℕ → Due → Bool
  due_out c raised Due.MoveOrBound = false
  due_out c raised (Due.Raise i target left last_one) =
      not (ltb i c.n) || target_out target || not (within 1 (scope_count c - 1) left) || last_out c last_one
      || not (all (λ b. eqb b 0) (drop (scope_count c) raised))
  due_out c raised Due.Nothing = false

  abbrev pub record_out : Case → Replay → Bool
  record_out c p = ltb r.rounds p.rounds || due_out c p.raised p.due

  -- ---- fresh: refused, the record stands refused and is zero else

  unfoldable pub fresh_replay : Case → List ℤ → Replay
  fresh_replay c w = fresh_of (first_refusal (handed_over r (starting_weight r) c w false false)) (upper_bound c w)

  -- ---- each kind of line

  abbrev pub of_shift : Case → List ℤ → Replay → Line → Asked
  of_shift c w p t =
      let v = plus c (spared c w (shift_by c (nat_abs t.a) (nat_abs t.b) (nat_abs t.c) t.amount)) w in
      record {
        out = outside c.m t.a || outside 2 t.b || outside c.d t.c || not (shift_amount r t.amount);
        later = LeavesRange when (leaves_range r c w v) ∷ [];
        table = v;
        next = after_shift p;
      }

  -- a press or a void line is begun
  abbrev pub of_begin : Case → List ℤ → Replay → Target → Line → Asked
  of_begin c w p target t = record {
    out = begin_out c t || target_out target;
    later = [];
    table = w;
    next = in_press p none_raised (Due.Raise (nat_abs t.a) target (nat_abs t.b) None);
  }

  abbrev pub of_bound : Case → List ℤ → Replay → Line → Asked
  of_bound c w p t = record {
    out = not (ltb p.rounds r.rounds);
    later =
        OtherBound when (not (eq_z t.amount (upper_bound c w)))
        ∷ BoundNotLower when (not (lt_z (upper_bound c w) p.start))
        ∷ [];
    table = w;
    next = after_bound_line p t.amount;
  }

  -- the last raise line: the table after a press, and 11 of it; 16 of a void line
  abbrev pub target_table : Case → List ℤ → ℕ → List ℕ → Target → List ℤ
  target_table c w i raised (Target.Press a) = plus c (spared c w (press_by c w i (active_values c w i) (is_raised raised) a)) w
  target_table c w i raised Target.Void = w

  abbrev pub last_tests : Case → List ℤ → ℕ → List ℕ → Target → List Test
  last_tests c w i raised (Target.Press a) = LeavesRange when (leaves_range r c w (target_table c w i raised (Target.Press a))) ∷ []
  last_tests c w i raised Target.Void = NotAllBarred when (not (all_barred c w i (active_values c w i) (is_raised raised))) ∷ []

  -- a raise line of a press or a void line of variable i, with `left` lines left
  abbrev pub of_raise : Case → List ℤ → Replay → ℕ → Target → ℕ → Option ℕ → Line → Asked
  of_raise c w p i target left last_one t =
      let x = nat_abs t.a in
      let raised = set p.raised x 1 in
      let is_last = eqb left 1 in
      record {
        out = outside (scope_count c) t.a;
        later =
            RaiseNotAscending when (not_above_last last_one x || eqb x i)
            ∷ NotRefuted when (is_last && not (all_refuted c w (is_raised raised) i (active_values c w i)))
            ∷ (if is_last then last_tests c w i raised target else []);
        table = if is_last then target_table c w i raised target else w;
        next = if is_last then after_target p target else in_press p raised (Due.Raise i target (left - 1) (Some x));
      }

  -- with nothing due number 2 applies to every line, so that the rest is never asked
  abbrev pub of_nothing : List ℤ → Replay → Asked
  of_nothing w p = record { out = false; later = []; table = w; next = p }

  abbrev pub of_due : Case → List ℤ → Replay → Due → Line → Asked
  of_due c w p (Due.Raise i target left last_one) t = of_raise c w p i target left last_one t
  of_due c w p Due.MoveOrBound t =
      if is_kind 1 t then of_shift c w p t
      else if is_kind 2 t then of_begin c w p (Target.Press t.amount) t
      else if is_kind 4 t then of_bound c w p t
      else of_begin c w p Target.Void t
  of_due c w p Due.Nothing t = of_nothing w p

  -- ---- step: the answer is the next record's standing; a refused step changes the standing alone

  abbrev pub step_tests : Case → List ℤ → Replay → Line → Asked → List Test
  step_tests c w p t asked =
      NotDue when (not_due r (due_kinds p.due) t)
      ∷ handed_over r (working_weight r) c w false (record_out c p || asked.out)
      ++ asked.later

  abbrev pub step_line : Case → List ℤ → Replay → Option Line → StepCall
  step_line c w p None = step_refused p w NotInColumns
  step_line c w p (Some t) =
      let asked = of_due c w p p.due t in
      step_by w p asked (first_refusal (step_tests c w p t asked))

  abbrev pub step_standing : Case → List ℤ → Replay → List ℕ → Result ⊤ Refusal → StepCall
  step_standing c w p bytes (Err x) = step_refused p w x
  step_standing c w p bytes (Ok tt) = step_line c w p (read_line r.amount_width bytes)

  unfoldable pub step_replay : Case → List ℤ → Replay → List ℕ → StepCall
  step_replay c w p bytes = step_standing c w p bytes p.standing

  -- ---- end: the number that stands, else 3, 5, 6, 7, else 14 if a press or a void line is held or a move has no bound line after it; after a
  -- whole void line there is no 14

  abbrev pub ending_tests : Case → Replay → List Test
  ending_tests c p = limit_test r c ∷ edge_tests r c (record_out c p) ++ (CutShort when (is_short p.due p.moved) ∷ [])

  abbrev pub end_standing : Case → Replay → Result ⊤ Refusal → Result ⊤ Refusal
  end_standing c p (Err x) = Err x
  end_standing c p (Ok tt) = outcome_of (first_refusal (ending_tests c p))

  unfoldable pub end_replay : Case → Replay → Result ⊤ Refusal
  end_replay c p = end_standing c p p.standing

  -- ---- many lines: the fold of step over what stands between lines

  abbrev pub step_between : Between → List ℕ → Between
  step_between b bytes =
      let call = step_replay b.case b.table b.replay bytes in
      record { case = b.case; table = call.table; replay = call.stepped.replay }

  abbrev pub after_lines : Between → List (List ℕ) → Between
  after_lines b [] = b
  after_lines b (t ∷ ts) = after_lines (step_between b t) ts

  -- each line's answer
  abbrev pub line_answers : Between → List (List ℕ) → List (Result ⊤ Refusal)
  line_answers b [] = []
  line_answers b (t ∷ ts) =
      (step_replay b.case b.table b.replay t).stepped.answer ∷ line_answers (step_between b t) ts

  -- over the whole lines of these bytes; a part line at their end is not looked at
  unfoldable pub fold_replay : Case → List ℤ → Replay → List ℕ → BlockCall
  fold_replay c w p bytes =
      let b : Between = record { case = c; table = w; replay = p } in
      let lines = lines_in r.amount_width bytes in
      let os = line_answers b lines in
      record {
        block = record { replay = (after_lines b lines).replay; lines = taken_lines os; answer = first_refused os };
        table = (after_lines b lines).table;
      }

  -- ---- a block: the fold over its whole lines; with none, the number that stands, else 3 to 8 and 15 of what was handed over

  abbrev pub lent_standing : Case → List ℤ → Replay → Result ⊤ Refusal → Option Refusal
  lent_standing c w p (Err x) = Some x
  lent_standing c w p (Ok tt) = first_refusal (handed_over r (working_weight r) c w false (record_out c p))

  unfoldable pub block_replay : Case → List ℤ → Replay → List ℕ → BlockCall
  block_replay c w p bytes =
      if eqb (whole_lines r.amount_width bytes) 0
      then no_line w p (lent_standing c w p p.standing)
      else fold_replay c w p bytes
