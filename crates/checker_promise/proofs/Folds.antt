-- The library's replay folded over a list of lines is the plain replay of the list: each line's answer, the end's, and the table, the rounds
-- and the record after it. Assumes nothing.
use mathlib.Core.Path.{◌≡◌, refl, sym, ap, ap₂, subst, ◌∙◌}
use mathlib.Core.Bool.{Bool, true, false, not, ◌&&◌, ◌||◌, or-false}
use mathlib.Core.Logic.{⊎_elim}
use mathlib.Core.List.{List, [], ◌∷◌, ◌++◌, map}
use Prim.Native.Nat.{ℕ, ◌-◌, ◌≤◌, ◌<◌}
use native.Mathlib.Omega.{arith}
use lib.IntN.{ℤ, pos, negsuc, nat_abs}
use lib.Dec.{T, not_T, eqb, lt→ltb}
use lib.ListN.{set}
use Rattle.std.specs.Prelude.{if◌then◌else◌, Option, Some, None, is_some}
use Rattle.integers.specs.Words.{any, last, is_in, within_z}
use Rattle.integers.specs.Lists.{any-in}
use Rattle.integers.specs.Tests.{tests, either, is_true, is_false, not-eqb-iff, and-iff, not-or-iff, not-not-iff, and_left, and_right, if-false}
use Rattle.integers.specs.Options.{some_inj, none-some, last-append}
use Rattle.integers.specs.Linear.{flat, zs, ◌▸◌}
use Rattle.definitions.specs.declared.Case.{Case}
use Rattle.definitions.specs.declared.Line.{Line}
use Rattle.definitions.specs.declared.Refusal.{Refusal}
use Rattle.definitions.specs.declared.Refusal.TheVariants.{NotDue, OutOfRange, RaiseNotAscending, NotRefuted, LeavesRange, CutShort, NotAllBarred}
use Rattle.definitions.specs.Rules.{Rules, Coherent, scopes_at_most, scope_places}
use Rattle.definitions.specs.Refusals.{Test, ◌when◌, first_refusal}
use Rattle.definitions.specs.Answers.{outcome_of}
use Rattle.definitions.specs.Case.{scope_count}
use Rattle.definitions.specs.Valid.{working_weight, limit_test, length_test, edge_tests, weight_test, scope_test, handed_over, valid}
use Rattle.definitions.specs.Moves.{press_amount, leaves_range}
use Rattle.calls.specs.Calls.{is_raised}
use Rattle.definitions.specs.Lines.{read_line, not_due, is_kind, unused_zero, outside}
use Rattle.definitions.specs.Replay.{Target, pressing, voiding, Held, State, fresh, after_move, holding, after_bound, kinds_due, shift_of, held_of}
use Rattle.definitions.specs.Replay.{shift_tests, begin_out, press_tests, void_tests, raising, press_of, target_tests as plain_tests, completed}
use Rattle.definitions.specs.Replay.{bound_tests, is_last, tests_of_kind, line_tests, taken, answered, step_unrefused, step, after, answers, at_end}
use Rattle.checker.specs.declared.Target.{Target as Aim}
use Rattle.checker.specs.declared.Due.{Due}
use Rattle.checker.specs.Checker.{Between, StepCall, Asked, due_kinds, is_short, none_raised, target_out, due_out, after_press, after_target}
use Rattle.checker.specs.Checker.{record_out, fresh_replay, of_shift, of_begin, of_bound, target_table, last_tests, of_due, step_by, step_tests}
use Rattle.checker.specs.Taken.{step_taken}
use Rattle.checker.specs.Checker.{step_line, step_standing, step_replay, end_standing, end_replay, step_between, after_lines, line_answers}
use Rattle.theory.proofs.Validity.{none-applies, Handed, handed, valid-facts}
use Rattle.theory.proofs.Replays.{TargetSound, inside, Quiet, Sound, sound-step, sound-fresh, case-after, handed-step, handed-after, none-iff}
use Rattle.checker_promise.specs.Lists.{begun}
use Rattle.checker_promise.proofs.Agrees.{target_of, due_of, record_of, call_of, Marked, MarkedIn, Agrees}
use Rattle.checker_promise.proofs.Agrees.{marked-begun, marks-raised, marked-raised, refuted-alike, press-alike, bars-alike, above-alike}

-- ---- the numbers of what is handed over never apply

quiet-skip : (ts us : List Test) → Quiet ts → first_refusal (ts ++ us) ≡ first_refusal us
quiet-skip [] us q = refl
quiet-skip (t ∷ ts) us q = if-false _ _ t.applies (and_left (not t.applies) _ q) ∙ quiet-skip ts us (and_right (not t.applies) _ q)

module _ {r : Rules} {range : ℤ → Bool} {c : Case} {w : List ℤ} (h : Handed r range c w) where
  handed-quiet : Quiet (handed_over r range c w false false)
  handed-quiet = (none-applies (handed_over r range c w false false)).0 ((handed r range c w false false).1 (h, tt, tt))

  pub handed-unrefused : first_refusal (handed_over r range c w false false) ≡ None
  handed-unrefused = (none-iff (first_refusal (handed_over r range c w false false))).0 ((handed r range c w false false).1 (h, tt, tt))

  -- but number 5 of the line itself
  pub handed-first : (out : Bool) (later : List Test) → first_refusal (handed_over r range c w false out ++ later) ≡ first_refusal (OutOfRange when out ∷ later)
  handed-first true later =
      let p = simp and-iff at handed-quiet in
      quiet-skip (limit_test r c ∷ length_test r c w false ∷ []) (edge_tests r c true ++ (weight_test range c w ∷ scope_test c w ∷ []) ++ later)
      (simp and-iff (p.0, (p.1.0, tt)))
  handed-first false later = quiet-skip (handed_over r range c w false false) later handed-quiet

  edges-quiet : Quiet (limit_test r c ∷ edge_tests r c false)
  edges-quiet = let p = simp and-iff at handed-quiet in simp and-iff (p.0, (p.1.1.0, (p.1.1.1.0, (p.1.1.1.1.0, tt))))

counted : (m : ℕ) (z : ℤ) → T (not (not (within_z (pos 1) (pos m) z))) → (1 ≤ nat_abs z) × (nat_abs z ≤ m)
counted m (pos n) t = (t ▸ simp flat (omega zs), t ▸ simp flat (omega zs))
counted m (negsuc n) t = absurd t

due-alike : (v : Bool) (h : Option Held) → due_kinds (due_of v h) ≡ kinds_due v h
due-alike true h = refl
due-alike false None = refl
due-alike false (Some h) = refl

pub short-alike : (v : Bool) (h : Option Held) (m : Bool) → is_short (due_of v h) m ≡ (not v && (is_some h || m))
short-alike true h m = refl
short-alike false None m = refl
short-alike false (Some h) m = refl

-- with nothing due number 2 applies
nothing-due : (r : Rules) (t : Line) → not_due r [] t ≡ true
nothing-due r t = is_true (not_due r [] t) (not_T (any (λ k. is_kind k.kind t && is_in [] k.kind && unused_zero k t) r.kinds) (λ s.
    let (k, m, u) = (any-in (λ k. is_kind k.kind t && is_in [] k.kind && unused_zero k t) r.kinds).0 s in
    absurd (and_right (is_kind k.kind t) false (and_left (is_kind k.kind t && false) (unused_zero k t) u))))

-- ---- one line

-- the call leads to a state
abbrev Reaches : Rules → StepCall → State → Type 0
Reaches r call u = (bytes : List ℕ) × (call ≡ call_of u bytes) × MarkedIn r u bytes

module _ {r : Rules} {s : State} {bytes : List ℕ} (placed : scopes_at_most r ≤ scope_places) (v : Sound r s)
    (hand : Handed r (working_weight r) s.case s.weights) (k : MarkedIn r s bytes) where
  fits : scope_count s.case ≤ scope_places
  fits = omega (arith, placed, hand.variables-most, hand.edges_most)

  target-in : (target : Target) → TargetSound r target → T (not (target_out r (target_of target)))
  target-in (pressing a) t = (not-not-iff (press_amount r a)).1 t
  target-in voiding t = tt

  pub record-in : T (not (record_out r s.case (record_of s bytes)))
  record-in = simp not-or-iff (simp tests (omega (arith, v.few)), due_in s.void s.held refl)
    where
      due_in : (v : Bool) (h : Option Held) → s.held ≡ h → T (not (due_out r s.case bytes (due_of v h)))
      due_in true h e = tt
      due_in false None e = tt
      due_in false (Some h) e =
          let o = v.press-held h e in
          let m = k h e in
          simp (not-or-iff, not-not-iff) (
            (
              ((lt→ltb h.variable s.case.n o.variable, target-in h.target o.amount), simp tests (m.some_left, m.left-most)),
              m.last-in,
            ),
            m.past,
          )

  -- a line of kind 1, of kind 2, of kind 4, of another, where nothing is held
  abbrev unheld : Bool → Bool → Bool → Line → Asked
  unheld a b d t =
      if a then of_shift r s.case s.weights (record_of s bytes) t
      else if b then of_begin r s.case s.weights (record_of s bytes) (Aim.Press t.amount) t
      else if d then of_bound r s.case s.weights (record_of s bytes) t
      else of_begin r s.case s.weights (record_of s bytes) Aim.Void t

  -- what is due asks the same of a line: the first number is the same
  abbrev asked : Option Held → Line → Asked
  asked h t = of_due r s.case s.weights (record_of s bytes) (due_of false h) t

  -- a raise line of a press or a void line held
  module _ (t : Line) (h : Held) (e : s.held ≡ Some h) where
    abbrev marked : List ℕ
    marked = set bytes (nat_abs t.a) 1

    module _ (i : T (not (outside (scope_count s.case) t.a))) where
      marks-same : (x : ℕ) → x < scope_count s.case → is_raised marked x ≡ is_in (raising h t).raised x
      marks-same = marks-raised r s.case fits (k h e) (inside (scope_count s.case) t.a i)

      targets-alike : (target : Target)
          → last_tests r s.case s.weights h.variable marked (target_of target) ≡ plain_tests r s (raising h t) target
      targets-alike (pressing a) = ap (λ (v : List ℤ). LeavesRange when (leaves_range r s.case s.weights v) ∷ [])
          (press-alike s.case s.weights marks-same h.variable a)
      targets-alike voiding = ap (λ (b : Bool). NotAllBarred when (not b) ∷ []) (bars-alike s.case s.weights marks-same h.variable)

  asks-alike : (t : Line) (h : Option Held) → s.held ≡ h → first_refusal (OutOfRange when (asked h t).out ∷ (asked h t).later) ≡ first_refusal (tests_of_kind r s h t)
  asks-alike t None e = go (is_kind 1 t) (is_kind 2 t) (is_kind 4 t)
    where
      go : (a b d : Bool) → first_refusal (OutOfRange when (unheld a b d t).out ∷ (unheld a b d t).later)
          ≡ first_refusal (if a then shift_tests r s t else if b then press_tests r s t else if d then bound_tests r s t else void_tests s t)
      go true b d = refl
      go false true d = refl
      go false false true = refl
      go false false false = ap (λ (b : Bool). first_refusal (OutOfRange when b ∷ [])) (or-false (begin_out s.case t))
  asks-alike t (Some h) e = go (outside (scope_count s.case) t.a) (above-alike (last h.raised) (nat_abs t.a))
      (λ i. refuted-alike s.case s.weights (marks-same t h e i) h.variable) (λ i. targets-alike t h e i h.target)
    where
      go : (out : Bool) {a b d g : Bool} {x y : List Test} → a ≡ b → (T (not out) → d ≡ g) → (T (not out) → x ≡ y)
          → first_refusal (OutOfRange when out ∷ RaiseNotAscending when (a || eqb (nat_abs t.a) h.variable) ∷ NotRefuted when (is_last h && not d)
          ∷ (if is_last h then x else []))
          ≡ first_refusal (OutOfRange when out ∷ RaiseNotAscending when (b || eqb (nat_abs t.a) h.variable) ∷ NotRefuted when (is_last h && not g)
          ∷ (if is_last h then y else []))
      go true p q z = refl
      go false p q z = rw (p, q tt, z tt)

  module _ (going : s.void ≡ false) where
    -- what a line leaves is on its way still
    call-going : (u : State) (marks : List ℕ) → u.void ≡ false → call_of u marks ≡ record {
      stepped = record {
        replay = record {
          rounds = u.rounds;
          start = u.start;
          moved = u.moving;
          raised = marks;
          due = due_of false u.held;
          standing = outcome_of u.refusal;
        };
        answer = outcome_of u.refusal;
      };
      table = u.weights;
    }
    call-going u marks e = rw e

    begins : (target : Target) (t : Line) → T (not (begin_out s.case t))
        → Reaches r (step_by s.weights (record_of s bytes) (of_begin r s.case s.weights (record_of s bytes) (target_of target) t) None)
        (holding s (held_of target t))
    begins target t q =
        let p = simp not-or-iff at q in
        let (least, most) = counted (scope_count s.case - 1) t.b p.1 in (
          none_raised,
          sym (call-going (holding s (held_of target t)) none_raised going),
          λ h e. subst (λ (h : Held). Marked r s.case h (none_raised)) (some_inj e)
              (marked-begun r s.case fits (nat_abs t.a) target (nat_abs t.b) least most),
        )

    completes : (t : Line) (h : Held) (e : s.held ≡ Some h) → T (not (outside (scope_count s.case) t.a)) → (target : Target)
        → Reaches r (step_taken (after_target (record_of s bytes) (target_of target))
        (target_table r s.case s.weights h.variable (marked t h e) (target_of target))) (completed s (raising h t) target)
    completes t h e i (pressing a) = (
      none_raised,
      ap (step_taken (after_press (record_of s bytes))) (press-alike s.case s.weights (marks-same t h e i) h.variable a)
          ∙ sym (call-going (after_move s (press_of s (raising h t) a)) none_raised going),
      λ g f. absurd (none-some f),
    )
    completes t h e i voiding = (none_raised, refl, λ g f. absurd (none-some f))

    -- where none applies it leaves the same
    takes-alike : (t : Line) (h : Option Held) → s.held ≡ h → Quiet (tests_of_kind r s h t)
        → Reaches r (step_by s.weights (record_of s bytes) (asked h t) None) (taken s h (Some t))
    takes-alike t None e q = go (is_kind 1 t) (is_kind 2 t) (is_kind 4 t) q
      where
        go : (a b d : Bool) → Quiet (if a then shift_tests r s t else if b then press_tests r s t else if d then bound_tests r s t else void_tests s t)
            → Reaches r (step_by s.weights (record_of s bytes) (unheld a b d t) None)
            (if a then after_move s (shift_of t) else if b then holding s (held_of (pressing t.amount) t) else if d then after_bound s t.amount
            else holding s (held_of voiding t))
        go true b d q = (bytes, sym (call-going (after_move s (shift_of t)) bytes going), λ h e. absurd (none-some e))
        go false true d q = begins (pressing t.amount) t
            ((not-or-iff (begin_out s.case t) (not (press_amount r t.amount))).0
            (and_left (not (begin_out s.case t || not (press_amount r t.amount))) true q)).0
        go false false true q = (bytes, sym (call-going (after_bound s t.amount) bytes going), λ h e. absurd (none-some e))
        go false false false q = begins voiding t (and_left (not (begin_out s.case t)) true q)
    takes-alike t (Some h) e q =
        let x = nat_abs t.a in
        let within_all : T (not (outside (scope_count s.case) t.a)) = and_left (not (outside (scope_count s.case) t.a)) _ q in
        ⊎_elim
        (λ l. rw (is_true (is_last h) l) (completes t h e within_all h.target))
        (λ l. rw (is_false (is_last h) l) (
          set bytes x 1,
          rw (going, last-append h.raised [] x),
          λ g f. subst (λ (g : Held). Marked r s.case g (set bytes x 1)) (some_inj f)
              (marked-raised r s.case fits (k h e) (inside (scope_count s.case) t.a within_all)
              (omega (arith, (k h e).some_left, (not-eqb-iff h.left 1).0 l))),
        ))
        (either (is_last h))

  pub line-reaches : (t : Option Line) → Reaches r (step_line r s.case s.weights (record_of s bytes) t) (step_unrefused r s t)
  line-reaches None = (bytes, refl, k)
  line-reaches (Some t) = go s.void refl
    where
      handing : (o : Option Held)
          → first_refusal (handed_over r (working_weight r) s.case s.weights false (record_out r s.case (record_of s bytes) || (asked o t).out)
          ++ (asked o t).later) ≡ first_refusal (OutOfRange when (asked o t).out ∷ (asked o t).later)
      handing o = rw (is_false (record_out r s.case (record_of s bytes)) record-in) (handed-first hand (asked o t).out (asked o t).later)

      same : s.void ≡ false → first_refusal (step_tests r s.case s.weights (record_of s bytes) t (asked s.held t)) ≡ first_refusal (line_tests r s (Some t))
      same e =
          rw (due-alike s.void s.held)
          (ap (λ (o : Option Refusal). if not_due r (kinds_due s.void s.held) t then Some NotDue else o) (handing s.held ∙ asks-alike t s.held refl))

      further : s.void ≡ false → (o : Option Refusal) → first_refusal (line_tests r s (Some t)) ≡ o
          → Reaches r (step_by s.weights (record_of s bytes) (asked s.held t) o) (answered s (Some t) o)
      further f None e = takes-alike f t s.held refl
          (and_right (not (not_due r (kinds_due s.void s.held) t)) _ ((none-applies (line_tests r s (Some t))).0 (rw e tt)))
      further f (Some x) e = (bytes, refl, k)

      asks : Asked
      asks = of_due r s.case s.weights (record_of s bytes) (due_of s.void s.held) t

      -- after a void line nothing is due
      shut : s.void ≡ true → (rest : List Test) → first_refusal (NotDue when (not_due r (kinds_due s.void s.held) t) ∷ rest) ≡ Some NotDue
      shut e rest = ap (λ (v : Bool). first_refusal (NotDue when (not_due r (kinds_due v s.held) t) ∷ rest)) e
          ∙ ap (λ (b : Bool). first_refusal (NotDue when b ∷ rest)) (nothing-due r t)

      told : s.void ≡ true → first_refusal (step_tests r s.case s.weights (record_of s bytes) t asks) ≡ Some NotDue
      told e = rw (due-alike s.void s.held) (shut e (handed_over r (working_weight r) s.case s.weights false
          (record_out r s.case (record_of s bytes) || asks.out) ++ asks.later))

      go : (v : Bool) → s.void ≡ v → Reaches r (step_line r s.case s.weights (record_of s bytes) (Some t)) (step_unrefused r s (Some t))
      go true e =
          subst (λ (o : Option Refusal). Reaches r (step_by s.weights (record_of s bytes) asks o) (step_unrefused r s (Some t)))
          (sym (told e))
          (subst (λ (o : Option Refusal). Reaches r (step_by s.weights (record_of s bytes) asks (Some NotDue)) (answered s (Some t) o))
          (sym (shut e (tests_of_kind r s s.held t))) (bytes, refl, k))
      go false e = subst
          (λ (d : Due). Reaches r (step_by s.weights (record_of s bytes) (of_due r s.case s.weights (record_of s bytes) d t)
          (first_refusal (step_tests r s.case s.weights (record_of s bytes) t (of_due r s.case s.weights (record_of s bytes) d t))))
          (step_unrefused r s (Some t))) (sym (ap (λ (v : Bool). due_of v s.held) e))
          (subst (λ (o : Option Refusal). Reaches r (step_by s.weights (record_of s bytes) (asked s.held t) o) (step_unrefused r s (Some t))) (sym (same e))
          (further e (first_refusal (line_tests r s (Some t))) refl))

  step-reaches : (t : List ℕ) → Reaches r (step_replay r s.case s.weights (record_of s bytes) t) (step r s t)
  unfolding step_replay
  step-reaches t = go s.refusal refl
    where
      go : (x : Option Refusal) → s.refusal ≡ x → Reaches r (step_standing r s.case s.weights (record_of s bytes) t (outcome_of x))
          (if is_some x then s else step_unrefused r s (read_line r.amount_width t))
      go None e = line-reaches (read_line r.amount_width t)
      go (Some x) e = (bytes, rw e, k)

-- ---- every line keeps the agreement, and its answer is the plain replay's

module _ {r : Rules} {s : State} {b : Between} (a : Agrees r s b) where
  step_is : (t : List ℕ) → Reaches r (step_replay r b.case b.table b.replay t) (step r s t)
  step_is t = subst (λ (d : Between). Reaches r (step_replay r d.case d.table d.replay t) (step r s t)) (sym a.same)
      (step-reaches a.placed a.sound a.handed a.marked t)

  pub agrees-step : (t : List ℕ) → Agrees r (step r s t) (step_between r b t)
  agrees-step t =
      let (bytes, e, m) = step_is t in
      record {
        bytes = bytes;
        same = ap₂ (λ (c : Case) (call : StepCall). between c call) (ap (λ (d : Between). d.case) a.same ∙ sym (case-after r s (t ∷ []))) e;
        marked = m;
        sound = sound-step r s t a.sound;
        handed = handed-step a.sound a.handed t;
        placed = a.placed;
      }
    where
      between : Case → StepCall → Between
      between c call = record { case = c; table = call.table; replay = call.stepped.replay }

  pub answer-agrees : (t : List ℕ) → (step_replay r b.case b.table b.replay t).stepped.answer ≡ outcome_of (step r s t).refusal
  answer-agrees t = ap (λ (call : StepCall). call.stepped.answer) (step_is t).1

  pub end-agrees : end_replay r b.case b.replay ≡ outcome_of (at_end s)
  unfolding end_replay
  end-agrees = ap (λ (d : Between). end_replay r d.case d.replay) a.same ∙ go s.refusal
    where
      go : (x : Option Refusal) → end_standing r s.case (record_of s a.bytes) (outcome_of x)
          ≡ outcome_of (if is_some x then x else if not s.void && (is_some s.held || s.moving) then Some CutShort else None)
      go (Some x) = refl
      go None =
          rw (
            is_false (record_out r s.case (record_of s a.bytes)) (record-in a.placed a.sound a.handed a.marked),
            short-alike s.void s.held s.moving,
          )
          (ap outcome_of (quiet-skip (limit_test r s.case ∷ edge_tests r s.case false) (CutShort when (not s.void && (is_some s.held || s.moving)) ∷ [])
          (edges-quiet a.handed)))

-- ---- lists of lines

pub fold-agrees : {r : Rules} {s : State} {b : Between} → Agrees r s b → (ts : List (List ℕ)) → Agrees r (after r s ts) (after_lines r b ts)
fold-agrees a [] = a
fold-agrees {r = r} {s = s} {b = b} a (t ∷ ts) = fold-agrees {s = step r s t} (agrees-step a t) ts

pub answers_agree : {r : Rules} {s : State} {b : Between} → Agrees r s b → (ts : List (List ℕ)) → line_answers r b ts ≡ map outcome_of (answers r s ts)
answers_agree a [] = refl
answers_agree {r = r} {s = s} {b = b} a (t ∷ ts) = ap₂ ◌∷◌ (answer-agrees a t) (answers_agree {s = step r s t} (agrees-step a t) ts)

module _ {r : Rules} (coherent : Coherent r) (c : Case) (w : List ℤ) (t : T (valid r c w)) where
  pub agrees-fresh : Agrees r (fresh c w) (begun r c w)
  unfolding fresh_replay
  agrees-fresh = record {
    bytes = none_raised;
    same = rw (handed-unrefused (valid-facts r c w t));
    marked = λ h e. absurd (none-some e);
    sound = sound-fresh coherent c w t;
    handed = handed-after coherent c w t [];
    placed = coherent.scopes-placed;
  }
