-- Document 01, "The plain replay", with void lines (document 02, change 2). Assumes nothing.
use Rattle.std.specs.Prelude.{Bool, true, false, not, ◌&&◌, ◌||◌, List, [], ◌∷◌, ◌++◌, ℕ, ◌+◌, ◌-◌, ℤ, pos, nat_abs, leb, ltb, eqb, if◌then◌else◌, Option, Some, None, is_some}
use Rattle.std.specs.Int.Signed.{lt_z}
use Rattle.integers.specs.Words.{all, any, last, is_in, within_z, eq_z, ◌⇒◌}
use Rattle.definitions.specs.declared.Case.{Case}
use Rattle.definitions.specs.declared.Line.{Line}
use Rattle.definitions.specs.declared.Refusal.{Refusal}
use Rattle.definitions.specs.declared.Refusal.TheVariants.{
  NotInColumns,
  NotDue,
  OutOfRange,
  RaiseNotAscending,
  NotRefuted,
  LeavesRange,
  OtherBound,
  BoundNotLower,
  CutShort,
  NotAllBarred,
}
use Rattle.definitions.specs.Rules.{Rules}
use Rattle.definitions.specs.Refusals.{Test, ◌when◌, first_refusal}
use Rattle.definitions.specs.Case.{values, scopes, scope_count, each_tuple, upper_bound, barred}
use Rattle.definitions.specs.Consistency.{forbidden, all_refuted}
use Rattle.definitions.specs.Moves.{Move, shift, press, shift_amount, press_amount, moved, active_values, leaves_range}
use Rattle.definitions.specs.Lines.{read_line, not_due, is_kind, has_kind, outside}

-- ---- the state

-- what the last raise line completes: a press by an amount, or a void line
pub data Target : Type 0 where
  pressing : ℤ → Target
  voiding : Target

-- a press or a void line held: variable, target, scopes raised in the order of their lines, raise lines left
pub record Held : Type 0 where
  pub variable : ℕ
  pub target : Target
  pub raised : List ℕ
  pub left : ℕ

-- the case and its starting weights; the working weights, the count of rounds, the upper bound at the round's start, the press or void line held;
-- whether a move has no bound line after it; whether a void line is whole; the number that applied to a line
pub record State : Type 0 where
  pub case : Case
  pub starting : List ℤ
  pub weights : List ℤ
  pub rounds : ℕ
  pub start : ℤ
  pub held : Option Held
  pub moving : Bool
  pub void : Bool
  pub refusal : Option Refusal

abbrev pub fresh : Case → List ℤ → State
fresh c w = record {
  case = c;
  starting = w;
  weights = w;
  rounds = 0;
  start = upper_bound c w;
  held = None;
  moving = false;
  void = false;
  refusal = None;
}

-- the state after a move is made, a press or a void line is held, a bound line is taken, a void line is whole, a line is refused
abbrev pub after_move : State → Move → State
after_move s move = record {
  case = s.case;
  starting = s.starting;
  weights = moved s.case move s.weights;
  rounds = s.rounds;
  start = s.start;
  held = None;
  moving = true;
  void = s.void;
  refusal = None;
}

abbrev pub holding : State → Held → State
holding s h = record {
  case = s.case;
  starting = s.starting;
  weights = s.weights;
  rounds = s.rounds;
  start = s.start;
  held = Some h;
  moving = s.moving;
  void = s.void;
  refusal = None;
}

abbrev pub after_bound : State → ℤ → State
after_bound s bound = record {
  case = s.case;
  starting = s.starting;
  weights = s.weights;
  rounds = s.rounds + 1;
  start = bound;
  held = None;
  moving = false;
  void = s.void;
  refusal = None;
}

-- weights and rounds stay
abbrev pub after_void : State → State
after_void s = record {
  case = s.case;
  starting = s.starting;
  weights = s.weights;
  rounds = s.rounds;
  start = s.start;
  held = None;
  moving = s.moving;
  void = true;
  refusal = None;
}

abbrev pub refused : State → Refusal → State
refused s x = record {
  case = s.case;
  starting = s.starting;
  weights = s.weights;
  rounds = s.rounds;
  start = s.start;
  held = s.held;
  moving = s.moving;
  void = s.void;
  refusal = Some x;
}

-- with a press or a void line held only kind 3 is due, otherwise kinds 1, 2, 4 and 5; after a whole void line nothing is due any more
abbrev pub kinds_due : Bool → Option Held → List ℕ
kinds_due true held = []
kinds_due false None = 1 ∷ 2 ∷ 4 ∷ 5 ∷ []
kinds_due false (Some h) = 3 ∷ []

-- ---- kind 1: the shift is made

abbrev pub shift_of : Line → Move
shift_of t = shift (nat_abs t.a) (nat_abs t.b) (nat_abs t.c) t.amount

abbrev pub shift_tests : Rules → State → Line → List Test
shift_tests r s t =
    OutOfRange when (outside s.case.m t.a || outside 2 t.b || outside s.case.d t.c || not (shift_amount r t.amount))
    ∷ LeavesRange when (leaves_range r s.case s.weights (moved s.case (shift_of t) s.weights))
    ∷ []

-- ---- kinds 2 and 5: the press or the void line is held, no scope raised

-- its variable, or its count of raise lines, is outside its range
abbrev pub begin_out : Case → Line → Bool
begin_out c t = outside c.n t.a || not (within_z (pos 1) (pos (scope_count c - 1)) t.b)

abbrev pub press_tests : Rules → State → Line → List Test
press_tests r s t = OutOfRange when (begin_out s.case t || not (press_amount r t.amount)) ∷ []

abbrev pub void_tests : State → Line → List Test
void_tests s t = OutOfRange when (begin_out s.case t) ∷ []

abbrev pub held_of : Target → Line → Held
held_of target t = record { variable = nat_abs t.a; target = target; raised = []; left = nat_abs t.b }

-- ---- kind 3: the scope is raised; with the last one the press is made and let go, or the void line is whole

abbrev pub raising : Held → Line → Held
raising h t = record { variable = h.variable; target = h.target; raised = h.raised ++ (nat_abs t.a ∷ []); left = h.left - 1 }

abbrev pub is_last : Held → Bool
is_last h = eqb h.left 1

-- the values that must be refuted: the active ones
abbrev pub held_values : State → Held → ℕ → Bool
held_values s h = active_values s.case s.weights h.variable

abbrev pub press_of : State → Held → ℤ → Move
press_of s h a = press h.variable (held_values s h) h.raised a

-- a void line's barring condition: all other values of the variable are barred, and all forbidden tuples
abbrev pub all_barred : Case → List ℤ → ℕ → (ℕ → Bool) → (ℕ → Bool) → Bool
all_barred c w i refuted_ones R =
    all (λ k. not (refuted_ones k) ⇒ barred c w i k 0) (values c)
    && all (λ x. all (λ b. b) (each_tuple c x (λ k l. forbidden c w R x k l ⇒ barred c w x k l))) (scopes c)

-- not above the previous raise line
abbrev pub not_above : Option ℕ → ℕ → Bool
not_above None x = false
not_above (Some y) x = leb x y

-- with the last raise line: 11 of a press, 16 of a void line
abbrev pub target_tests : Rules → State → Held → Target → List Test
target_tests r s h (pressing a) = LeavesRange when (leaves_range r s.case s.weights (moved s.case (press_of s h a) s.weights)) ∷ []
target_tests r s h voiding = NotAllBarred when (not (all_barred s.case s.weights h.variable (held_values s h) (is_in h.raised))) ∷ []

abbrev pub raise_tests : Rules → State → Held → Line → List Test
raise_tests r s h t =
    OutOfRange when (outside (scope_count s.case) t.a)
    ∷ RaiseNotAscending when (not_above (last h.raised) (nat_abs t.a) || eqb (nat_abs t.a) h.variable)
    ∷ NotRefuted when (is_last h && not (all_refuted s.case s.weights (is_in (raising h t).raised) h.variable (held_values s h)))
    ∷ (if is_last h then target_tests r s (raising h t) h.target else [])

-- ---- kind 4: rounds grow by one; its amount is the upper bound at the next round's start

abbrev pub bound_tests : Rules → State → Line → List Test
bound_tests r s t =
    OutOfRange when (not (ltb s.rounds r.rounds))
    ∷ OtherBound when (not (eq_z t.amount (upper_bound s.case s.weights)))
    ∷ BoundNotLower when (not (lt_z (upper_bound s.case s.weights) s.start))
    ∷ []

-- ---- what a line to which no number applies leaves

abbrev pub completed : State → Held → Target → State
completed s h (pressing a) = after_move s (press_of s h a)
completed s h voiding = after_void s

abbrev pub taken : State → Option Held → Option Line → State
taken s held None = s
taken s (Some h) (Some t) = if is_last h then completed s (raising h t) h.target else holding s (raising h t)
taken s None (Some t) =
    if is_kind 1 t then after_move s (shift_of t)
    else if is_kind 2 t then holding s (held_of (pressing t.amount) t)
    else if is_kind 4 t then after_bound s t.amount
    else holding s (held_of voiding t)

abbrev pub answered : State → Option Line → Option Refusal → State
answered s t None = taken s s.held t
answered s t (Some x) = refused s x

module _ (r : Rules) where
  -- ---- one line, any bytes
  abbrev pub tests_of_kind : State → Option Held → Line → List Test
  tests_of_kind s (Some h) t = raise_tests r s h t
  tests_of_kind s None t =
      if is_kind 1 t then shift_tests r s t
      else if is_kind 2 t then press_tests r s t
      else if is_kind 4 t then bound_tests r s t
      else void_tests s t

  abbrev pub line_tests : State → Option Line → List Test
  line_tests s None = NotInColumns when true ∷ []
  line_tests s (Some t) = NotDue when (not_due r (kinds_due s.void s.held) t) ∷ tests_of_kind s s.held t

  abbrev pub step_unrefused : State → Option Line → State
  step_unrefused s t = answered s t (first_refusal (line_tests s t))

  -- a number that applied is the answer to all later lines, and nothing changes any more
  abbrev pub step : State → List ℕ → State
  step s bytes = if is_some s.refusal then s else step_unrefused s (read_line r.amount_width bytes)

  -- ---- a list of lines: the state after it, and each line's answer
  abbrev pub after : State → List (List ℕ) → State
  after s [] = s
  after s (t ∷ ts) = after (step s t) ts

  abbrev pub answers : State → List (List ℕ) → List (Option Refusal)
  answers s [] = []
  answers s (t ∷ ts) = (step s t).refusal ∷ answers (step s t) ts

-- at the end a list with no number so far gets 14 if a press or a void line is held or a move has no bound line after it; a whole void line asks
-- no bound line of its round
abbrev pub at_end : State → Option Refusal
at_end s =
    if is_some s.refusal then s.refusal
    else if not s.void && (is_some s.held || s.moving) then Some CutShort
    else None

-- a list with no number keeps the line rules
abbrev pub keeps_rules : Rules → Case → List ℤ → List (List ℕ) → Bool
keeps_rules r c w ts = not (is_some (at_end (after r (fresh c w) ts)))

-- some line of the list is a press line
abbrev pub some_press : Rules → List (List ℕ) → Bool
some_press r ts = any (λ t. has_kind 2 (read_line r.amount_width t)) ts
