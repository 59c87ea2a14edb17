-- A line taken with the record in parts is the step of the whole record: refused, and done. Assumes nothing.
use mathlib.Core.Path.{◌≡◌, refl, sym, ap, ◌∙◌}
use mathlib.Core.Bool.{true, false, not}
use mathlib.Core.List.{List, [], ◌∷◌}
use Prim.Native.Nat.{ℕ, zero, suc, ◌-◌}
use lib.IntN.{ℤ, pos, nat_abs}
use lib.Dec.{T, eqb}
use borrow.Author.Tests.{lt-ltb}
use lib.Signed.{le_z, lt_z}
use lib.ListN.{length, get_or, set, replicate, length-set}
use Rattle.std.specs.Prelude.{Result, Ok, Err, Option, Some, None, ⊤}
use Rattle.integers.specs.Words.{eq_z, within_z}
use Rattle.integers.specs.Tests.{is_true, is_false, not-or-iff, not-not-iff}
use Rattle.integers.specs.Linear.{flat, zs}
use Rattle.definitions.specs.declared.Case.{Case}
use Rattle.definitions.specs.declared.Line.{Line}
use Rattle.definitions.specs.declared.Refusal.{Refusal}
use Rattle.definitions.specs.declared.Refusal.TheVariants.{NotInColumns, RaiseNotAscending, OtherBound, BoundNotLower}
use Rattle.definitions.specs.Rules.{rules_of, scope_places}
use Rattle.definitions.specs.Refusals.{first_refusal}
use Rattle.definitions.specs.Answers.{outcome_of, unless_refused}
use Rattle.definitions.specs.Case.{scope_count, upper_bound}
use Rattle.definitions.specs.Lines.{read_line}
use Rattle.calls.specs.Calls.{shift_out, read_line_answer}
use Rattle.definitions.specs.Moves.{shift_amount}
use Rattle.definitions.specs.Replay.{begin_out}
use Rattle.theory.proofs.Replays.{inside}
use Rattle.tables.proofs.Order.{outcome-done, outcome-refused}
use Rattle.checker.specs.declared.Target.{Target}
use Rattle.checker.specs.declared.Due.{Due}
use Rattle.checker.specs.declared.Replay.{Replay}
use Rattle.checker.specs.declared.Progress.{Progress}
use Rattle.checker.specs.declared.Taken.{Taken}
use Rattle.checker.specs.Checker.{
  Asked,
  none_raised,
  not_above_last,
  in_press,
  of_shift,
  of_begin,
  of_bound,
  of_raise,
  step_refused,
  step_by,
  step_line,
  step_standing,
  step_replay,
}
use Rattle.checker.proofs.Numbers.{inside-from-zero, count-in-range}
use Rattle.checker.specs.Taken.{good_replay, step_of, step_next, last_asked, last_step}

abbrev refused_with : Progress → Refusal → Taken
refused_with p x = record { progress = p; answer = Err x }

-- ---- a call that changes a table unless a refusal applies

module _ (f : Option Refusal) (v w : List ℤ) {o : Result ⊤ Refusal} {u : List ℤ} (d : o ≡ outcome_of f) (e : u ≡ unless_refused f v w) where
  pub change-refused : {x : Refusal} → o ≡ Err x → (f ≡ Some x) × (u ≡ w)
  change-refused g = let h = outcome-refused (sym g ∙ d) in (h, rw h at e)

  pub change-done : o ≡ Ok tt → (f ≡ None) × (u ≡ v)
  change-done g = let h = outcome-done (sym g ∙ d) in (h, rw h at e)

-- ---- the step

module _ (t : Taken) (u w : List ℤ) where
  -- refused: nothing but the standing changes
  pub step-refused : {q : Progress} {x : Refusal} (raised : List ℕ) → t ≡ refused_with q x → u ≡ w → step_of t raised u ≡ step_refused (good_replay q raised) w x
  step-refused raised d e = rw (d, e)

  pub taken_refused : {q : Progress} {x : Refusal} (raised : List ℕ) (a : Asked) → t ≡ refused_with q x → u ≡ w → first_refusal a.later ≡ Some x
      → step_of t raised u ≡ step_next w (good_replay q raised) a
  taken_refused {q} raised a d e f = step-refused raised d e ∙ ap (step_by w (good_replay q raised) a) (sym f)

  pub taken-done : {q : Progress} (raised : List ℕ) (p : Replay) (a : Asked) → t ≡ record { progress = q; answer = (Ok tt) } → u ≡ a.table
      → good_replay q raised ≡ a.next → first_refusal a.later ≡ None
      → step_of t raised u ≡ step_next w p a
  taken-done raised p a d e n f = rw (d, e, n, f)

-- ---- a bound line, with the upper bound at hand

module _ (c : Case) (w : List ℤ) (p : Replay) (t : Line) {b : ℤ} (k : b ≡ upper_bound c w) where
  pub other-bound : false ≡ eq_z t.amount b → first_refusal (of_bound (rules_of c) c w p t).later ≡ Some OtherBound
  other-bound e = rw (← k, ← e)

  pub not_lower : true ≡ eq_z t.amount b → le_z p.start b ≡ true → first_refusal (of_bound (rules_of c) c w p t).later ≡ Some BoundNotLower
  not_lower e l = rw (← k, ← e, is_false (lt_z b p.start) (simp flat (omega zs)))

  pub lower : true ≡ eq_z t.amount b → le_z p.start b ≡ false → first_refusal (of_bound (rules_of c) c w p t).later ≡ None
  lower e l = rw (← k, ← e, is_true (lt_z b p.start) (simp flat (omega zs)))

-- ---- a shift's line

module _ (c : Case) (w : List ℤ) (p : Replay) (t : Line) (o : T (not (of_shift (rules_of c) c w p t).out)) where
  pub shift-counts : (lt_z t.a (pos 0) ≡ false) × (lt_z t.b (pos 0) ≡ false) × (lt_z t.c (pos 0) ≡ false)
  shift-counts = let (((a, b), k), m) = simp not-or-iff at o in
      (inside-from-zero c.m t.a a, inside-from-zero 2 t.b b, inside-from-zero c.d t.c k)

  pub shift-inside : shift_out (rules_of c) c (nat_abs t.a) (nat_abs t.b) (nat_abs t.c) t.amount ≡ false
  shift-inside =
      let (((a, b), k), m) = simp not-or-iff at o in
      rw (
        lt-ltb (nat_abs t.a) c.m (inside c.m t.a a),
        lt-ltb (nat_abs t.b) 2 (inside 2 t.b b),
        lt-ltb (nat_abs t.c) c.d
            (inside c.d t.c k),
      )
      (is_false (not (shift_amount (rules_of c) t.amount)) m)

-- ---- the line that begins a press or a void line

pub begin-counts : (c : Case) (t : Line) → T (not (begin_out c t)) → (lt_z t.a (pos 0) ≡ false) × (lt_z t.b (pos 0) ≡ false)
begin-counts c t o =
    let (a, b) = simp not-or-iff at o in
    (inside-from-zero c.n t.a a, (count-in-range (scope_count c - 1) t.b ((not-not-iff (within_z (pos 1) (pos (scope_count c - 1)) t.b)).0 b)).0)

pub begin-record : (c : Case) (w : List ℤ) (q : Progress) (raised : List ℕ) (target : Target) (t : Line) {i n : ℕ} {zeros : List ℕ} → i ≡ nat_abs t.a
    → n ≡ nat_abs t.b → zeros ≡ none_raised
    → good_replay (record { rounds = q.rounds; start = q.start; moved = q.moved; due = Due.Raise i target n None }) zeros
    ≡ (of_begin (rules_of c) c w (good_replay q raised) target t).next
begin-record c w q raised target t {n} {zeros} d f g =
    ap (λ (i : ℕ). in_press (good_replay q raised) zeros (Due.Raise i target n None)) d
    ∙ ap (λ (n : ℕ). in_press (good_replay q raised) zeros (Due.Raise (nat_abs t.a) target n None)) f
    ∙ ap (λ (l : List ℕ). in_press (good_replay q raised) l (Due.Raise (nat_abs t.a) target (nat_abs t.b) None)) g

-- ---- a raise line

same_step : (w : List ℤ) (p : Replay) (a b : Asked) (o : Option Refusal) → a.table ≡ b.table → a.next ≡ b.next → step_by w p a o ≡ step_by w p b o
same_step w p a b None d e = rw (d, e)
same_step w p a b (Some x) d e = refl

module _ (c : Case) (w : List ℤ) (p : Replay) (i : ℕ) (target : Target) (left : ℕ) (last_one : Option ℕ) (t : Line) where
  pub raise-below : not_above_last last_one (nat_abs t.a) ≡ true → first_refusal (of_raise (rules_of c) c w p i target left last_one t).later ≡ Some RaiseNotAscending
  raise-below e = rw e

  module _ (above : not_above_last last_one (nat_abs t.a) ≡ false) where
    pub raise-own : eqb (nat_abs t.a) i ≡ true → first_refusal (of_raise (rules_of c) c w p i target left last_one t).later ≡ Some RaiseNotAscending
    raise-own e = rw (above, e)

    module _ (other : eqb (nat_abs t.a) i ≡ false) where
      pub raise-last : eqb left 1 ≡ true → last_step c w p i target (nat_abs t.a) ≡ step_next w p (of_raise (rules_of c) c w p i target left last_one t)
      raise-last e =
          let k = last_asked c w p i target (nat_abs t.a) in
          let m = of_raise (rules_of c) c w p i target left last_one t in
          let o : first_refusal k.later ≡ first_refusal m.later = rw (above, other, e) in
          let u : k.table ≡ m.table = rw e in
          let n : k.next ≡ m.next = rw e in
          ap (step_by w p k) o ∙ same_step w p k m (first_refusal m.later) u n

      pub raise-more : eqb left 1 ≡ false → first_refusal (of_raise (rules_of c) c w p i target left last_one t).later ≡ None
      raise-more e = rw (above, other, e)

-- a scope raised, and lines left
module _ (c : Case) (w : List ℤ) (q : Progress) (raised : List ℕ) (i : ℕ) (target : Target) (left : ℕ) (last_one : Option ℕ) (t : Line)
    (e : eqb left 1 ≡ false) where
  pub raise-table : w ≡ (of_raise (rules_of c) c w (good_replay q raised) i target left last_one t).table
  raise-table = rw e

  pub raise-record : {x : ℕ} → x ≡ nat_abs t.a
      → good_replay (record { rounds = q.rounds; start = q.start; moved = q.moved; due = Due.Raise i target (left - 1) (Some x) })
      (set raised x 1)
      ≡ (of_raise (rules_of c) c w (good_replay q raised) i target left last_one t).next
  raise-record {x} d =
      ap (λ (x : ℕ). in_press (good_replay q raised) (set raised x 1) (Due.Raise i target (left - 1) (Some x))) d ∙ rw e

-- after the last raise line no scope is marked
pub cleared : (raised : List ℕ) (x : ℕ) (l : List ℕ) → length raised ≡ scope_places → l ≡ replicate (length (set raised x 1)) 0 → l ≡ none_raised
cleared raised x l h e = e ∙ ap (λ (n : ℕ). replicate n 0) (length-set raised x 1 ∙ h)

-- a byte put back
pub put_back : (l : List ℕ) (x v : ℕ) → set (set l x v) x (get_or l x 0) ≡ l
put_back [] x v = refl
put_back (y ∷ l) zero v = refl
put_back (y ∷ l) (suc x) v = ap (λ (k : List ℕ). y ∷ k) (put_back l x v)

-- ---- a line that was read

abbrev read_or_not : Option Line → Result Line Refusal
read_or_not o = elim o [ None ↦ Err NotInColumns | Some l ↦ Ok l ]

found : (o : Option Line) {t : Line} → read_or_not o ≡ Ok t → o ≡ Some t
found None e = cc
found (Some l) e = cc

missing : (o : Option Line) {x : Refusal} → read_or_not o ≡ Err x → o ≡ None
missing None e = refl
missing (Some l) e = cc

module _ (c : Case) (bytes : List ℕ) {r : Result Line Refusal} (e : r ≡ read_line_answer (rules_of c) bytes) where
  pub line-found : {t : Line} → r ≡ Ok t → read_line (rules_of c).amount_width bytes ≡ Some t
  unfolding read_line_answer
  line-found d = found (read_line (rules_of c).amount_width bytes) (sym e ∙ d)

  pub line-missing : {x : Refusal} → r ≡ Err x → read_line (rules_of c).amount_width bytes ≡ None
  unfolding read_line_answer
  line-missing d = missing (read_line (rules_of c).amount_width bytes) (sym e ∙ d)

  module _ (w : List ℤ) (p : Replay) (good : p.standing ≡ Ok tt) where
    pub step-missing : {x : Refusal} → r ≡ Err x → step_replay (rules_of c) c w p bytes ≡ step_refused p w NotInColumns
    unfolding step_replay
    step-missing d = ap (step_standing (rules_of c) c w p bytes) good ∙ ap (step_line (rules_of c) c w p) (line-missing d)

    pub step-line : {t : Line} → r ≡ Ok t → step_replay (rules_of c) c w p bytes ≡ step_line (rules_of c) c w p (Some t)
    unfolding step_replay
    step-line d = ap (step_standing (rules_of c) c w p bytes) good ∙ ap (step_line (rules_of c) c w p) (line-found d)
