-- The plain replay's state beside what stands between the lines of the library's replay: the same but for the bytes that mark the scopes that a
-- press or a void line has raised. Nothing that a line does with a set of raised scopes tells the bytes from the list. Assumes nothing.
use mathlib.Core.Path.{◌≡◌, refl, sym, ap, ◌∙◌}
use mathlib.Core.Bool.{Bool, true, false, not, ◌&&◌, or-true, or-false}
use mathlib.Core.Logic.{⊎_elim}
use mathlib.Core.List.{List, [], ◌∷◌, ◌++◌}
use Prim.Native.Nat.{ℕ, ◌+◌, ◌-◌, ◌≤◌, ◌<◌}
use native.Mathlib.Omega.{arith}
use lib.IntN.{ℤ, pos, neg_ℤ, ◌+ℤ◌}
use lib.Dec.{T, eqb, eqb→eq}
use lib.ListN.{length, drop, set, length-drop, length-set, length-replicate, get_or-replicate}
use lib.Seq.{get_or-drop, get_or-set_same, get_or-set_other, drop-set-lt}
use Rattle.std.specs.Prelude.{if◌then◌else◌, Option, Some, None}
use Rattle.integers.specs.Words.{all, last, is_in, ◌⇒◌}
use Rattle.integers.specs.Tests.{tests, either, is_true, is_false, not-eqb-iff}
use Rattle.integers.specs.Options.{last-append}
use Rattle.integers.specs.Lists.{all_same, is_in-append}
use Rattle.integers.specs.Tables.{all_get_d}
use Rattle.definitions.specs.declared.Case.{Case}
use Rattle.checker.specs.declared.Target.{Target as Aim}
use Rattle.checker.specs.declared.Due.{Due}
use Rattle.checker.specs.declared.Replay.{Replay}
use Rattle.definitions.specs.Rules.{Rules, scopes_at_most, scope_places}
use Rattle.definitions.specs.Answers.{outcome_of}
use Rattle.definitions.specs.Case.{scope_count, values, active, barred}
use Rattle.definitions.specs.Valid.{working_weight}
use Rattle.definitions.specs.Consistency.{all_refuted}
use Rattle.definitions.specs.Moves.{plus, spared, only_where, press_by, active_values}
use Rattle.definitions.specs.Replay.{Target, pressing, voiding, Held, State, not_above, all_barred}
use Rattle.checker.specs.Checker.{Between, StepCall, last_out, not_above_last, none_raised}
use Rattle.definitions.proofs.Refutation.{refuted-same}
use Rattle.calls.specs.Calls.{is_raised}
use Rattle.theory.proofs.Places.{each-cong, plus-cong}
use Rattle.theory.proofs.Validity.{Handed}
use Rattle.theory.proofs.Replays.{Sound}

-- ---- the record of a state, with these bytes for the raised scopes

abbrev pub last_of : Option ℕ → Option ℕ
last_of None = None
last_of (Some x) = Some x

abbrev pub target_of : Target → Aim
target_of (pressing a) = Aim.Press a
target_of voiding = Aim.Void

abbrev pub due_of : Bool → Option Held → Due
due_of true held = Due.Nothing
due_of false None = Due.MoveOrBound
due_of false (Some h) = Due.Raise h.variable (target_of h.target) h.left (last_of (last h.raised))

abbrev pub record_of : State → List ℕ → Replay
record_of s bytes = record {
  rounds = s.rounds;
  start = s.start;
  moved = s.moving;
  raised = bytes;
  due = due_of s.void s.held;
  standing = outcome_of s.refusal;
}

abbrev pub between_of : State → List ℕ → Between
between_of s bytes = record { case = s.case; table = s.weights; replay = record_of s bytes }

-- the step that leads to it
abbrev pub call_of : State → List ℕ → StepCall
call_of s bytes = record { stepped = record { replay = record_of s bytes; answer = outcome_of s.refusal }; table = s.weights }

-- ---- the bytes of a press or a void line held, and what its record is asked

pub record Marked (r : Rules) (c : Case) (h : Held) (bytes : List ℕ) : Type 0 where
  pub long : length bytes ≡ scope_places
  -- not 0 exactly where the scope is raised, and 0 past the case's scopes
  pub marks : (x : ℕ) → x < scope_count c → is_raised bytes x ≡ is_in h.raised x
  pub past : T (all (λ b. eqb b 0) (drop (scope_count c) bytes))
  pub last-in : T (not (last_out c (last_of (last h.raised))))
  pub some_left : 1 ≤ h.left
  pub left-most : h.left ≤ scope_count c - 1

abbrev pub MarkedIn : Rules → State → List ℕ → Type 0
MarkedIn r s bytes = (h : Held) → s.held ≡ Some h → Marked r s.case h bytes

-- ---- the two replays at the same line: the same but for the bytes, and nothing but the line's own numbers applies
pub record Agrees (r : Rules) (s : State) (b : Between) : Type 0 where
  pub bytes : List ℕ
  pub same : b ≡ between_of s bytes
  pub marked : MarkedIn r s bytes
  pub sound : Sound r s
  pub handed : Handed r (working_weight r) s.case s.weights
  pub placed : scopes_at_most r ≤ scope_places

-- ---- a press or a void line begun, and a scope raised

module _ (r : Rules) (c : Case) (fits : scope_count c ≤ scope_places) where
  pub marked-begun : (i : ℕ) (target : Target) (left : ℕ) → 1 ≤ left → left ≤ scope_count c - 1
      → Marked r c (record { variable = i; target = target; raised = []; left = left }) (none_raised)
  marked-begun i target left some_left most = record {
    long = length-replicate {A = ℕ} scope_places 0;
    marks = λ x h. ap (λ (b : ℕ). not (eqb b 0)) (get_or-replicate scope_places x 0 0 (omega arith));
    past = (all_get_d (λ b. eqb b 0) (drop (scope_count c) (none_raised)) 0).1 (λ i h.
        rw (
          get_or-drop (scope_count c) (none_raised) i 0,
          get_or-replicate {A = ℕ} scope_places (scope_count c + i) 0 0
              (omega (arith, length-drop (scope_count c) (none_raised), length-replicate {A = ℕ} scope_places 0)),
        ) tt);
    last-in = tt;
    some_left = some_left;
    left-most = most;
  }

  module _ {h : Held} {bytes : List ℕ} (k : Marked r c h bytes) {x : ℕ} (below : x < scope_count c) where
    pub marks-raised : (y : ℕ) → y < scope_count c → is_raised (set bytes x 1) y ≡ is_in (h.raised ++ (x ∷ [])) y
    marks-raised y g = ⊎_elim
        (λ t. rw (is_in-append, is_true (eqb x y) t, ← (eqb→eq x y t), get_or-set_same bytes x 1 0 (omega (arith, k.long))) (sym (or-true (is_in h.raised x))))
        (λ t. rw (is_in-append, is_false (eqb x y) t, get_or-set_other bytes x y 1 0 (λ e. (not-eqb-iff x y).0 t (sym e)), k.marks y g)
        (sym (or-false (is_in h.raised y))))
        (either (eqb x y))

    pub marked-raised : 1 < h.left → Marked r c (record { variable = h.variable; target = h.target; raised = h.raised ++ (x ∷ []); left = h.left - 1 })
        (set bytes x 1)
    marked-raised more = record {
      long = length-set bytes x 1 ∙ k.long;
      marks = marks-raised;
      past = rw (drop-set-lt (scope_count c) bytes x 1 below) k.past;
      last-in = rw (last-append h.raised [] x) (simp tests (omega arith));
      some_left = omega arith;
      left-most = omega (arith, k.left-most);
    }

-- ---- raised scopes count only by what they are at the case's scopes

module _ (c : Case) (w : List ℤ) {R Q : ℕ → Bool} (same : (x : ℕ) → x < scope_count c → R x ≡ Q x) (i : ℕ) where
  pub refuted-alike : all_refuted c w R i (active_values c w i) ≡ all_refuted c w Q i (active_values c w i)
  refuted-alike = all_same c.d (λ k h. ap (λ (b : Bool). active_values c w i k ⇒ b) (refuted-same c w w R Q i k (λ p g. refl) same))

  pub press-alike : (a : ℤ)
      → plus c (spared c w (press_by c w i (active_values c w i) R a)) w ≡ plus c (spared c w (press_by c w i (active_values c w i) Q a)) w
  press-alike a = plus-cong c (spared c w (press_by c w i (active_values c w i) R a)) w (spared c w (press_by c w i (active_values c w i) Q a)) (λ x k l t.
      ap (λ (b : Bool). if barred c w x k l then pos 0 else (only_where (eqb x i && active_values c w i k) (neg_ℤ a) +ℤ only_where (b && not (active c w x k l)) a))
      (same x t.scope))

  pub bars-alike : all_barred c w i (active_values c w i) R ≡ all_barred c w i (active_values c w i) Q
  bars-alike = ap (λ (b : Bool). all (λ k. not (active_values c w i k) ⇒ barred c w i k 0) (values c) && b) (all_same (scope_count c) (λ x h.
      ap (all (λ b. b)) (each-cong c x h (λ k l t. ap (λ (b : Bool). (b && not (active c w x k l)) ⇒ barred c w x k l) (same x h)))))

pub above-alike : (o : Option ℕ) (x : ℕ) → not_above_last (last_of o) x ≡ not_above o x
above-alike None x = refl
above-alike (Some y) x = refl
