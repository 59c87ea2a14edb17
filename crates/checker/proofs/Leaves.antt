-- What a line that is done leaves: a checked case and table, the same tuples barred, and a record in range. It holds of every record, case and
-- table. Assumes nothing.
use mathlib.Core.Path.{◌≡◌, refl, ap, ◌∙◌}
use mathlib.Core.Bool.{Bool, true, false, not, ◌&&◌, ◌||◌}
use mathlib.Core.Logic.{⊎_elim}
use mathlib.Core.List.{List, [], ◌∷◌, ◌++◌}
use Prim.Native.Nat.{ℕ, ◌+◌, ◌-◌, ◌≤◌, ◌<◌}
use native.Mathlib.Omega.{arith}
use lib.IntN.{ℤ, pos, nat_abs}
use lib.Dec.{T, eqb, ltb, lt→ltb, ltb→lt}
use lib.ListN.{drop, set, length-drop, length-replicate, get_or-replicate}
use lib.Seq.{get_or-drop, drop-set-lt}
use Rattle.std.specs.Prelude.{if◌then◌else◌, Result, Ok, Err, Option, Some, None, ⊤}
use Rattle.integers.specs.Words.{all, within_z}
use Rattle.integers.specs.Tests.{tests, either, is_true, is_false, false-is, not-or-iff, not-not-iff, not-eqb-iff, if-false}
use Rattle.integers.specs.Tables.{all_get_d}
use Rattle.definitions.specs.declared.Case.{Case}
use Rattle.definitions.specs.declared.Line.{Line}
use Rattle.definitions.specs.declared.Refusal.{Refusal}
use Rattle.definitions.specs.declared.Refusal.TheVariants.{NotDue, RaiseNotAscending, NotRefuted, LeavesRange}
use Rattle.definitions.specs.Rules.{Rules, Coherent, scope_places}
use Rattle.definitions.specs.Refusals.{Test, ◌when◌, first_refusal}
use Rattle.definitions.specs.Case.{scope_count, barred}
use Rattle.definitions.specs.Valid.{working_weight, handed_over}
use Rattle.definitions.specs.Consistency.{all_refuted}
use Rattle.definitions.specs.Moves.{shift_by, press_by, active_values, leaves_range}
use Rattle.definitions.specs.Replay.{begin_out}
use Rattle.definitions.specs.Lines.{read_line, not_due, is_kind, outside}
use Rattle.calls.specs.Calls.{is_raised}
use Rattle.theory.proofs.Places.{IsTuple}
use Rattle.theory.proofs.Barred.{bars-kept}
use Rattle.theory.proofs.Validity.{Handed, handed-spared}
use Rattle.theory.proofs.Replays.{inside}
use Rattle.checker.specs.declared.Target.{Target}
use Rattle.checker.specs.declared.Due.{Due}
use Rattle.checker.specs.declared.Replay.{Replay}
use Rattle.checker.specs.Checker.{StepCall, Asked, none_raised, not_above_last, due_kinds, target_out, due_out, record_out, after_target, of_shift, of_begin}
use Rattle.checker.specs.Taken.{step_taken}
use Rattle.checker.specs.Checker.{target_table, last_tests, of_bound, of_raise, of_due, step_by, step_tests, step_line, step_standing, step_replay}
use Rattle.checker.proofs.Numbers.{count-in-range}
use Rattle.checker.proofs.Front.{neither, lent-known}
use Rattle.checker.proofs.LineKinds.{twice-not, nothing-due}

never : {x : Refusal} → ◌≡◌ {A = Result ⊤ Refusal} (Err x) (Ok tt) → ⊥
never {x} e = let z : ◌≡◌ {A = ℕ} 0 1 = cc in omega arith

-- no number of two lists applies
none_both : (ts us : List Test) → first_refusal (ts ++ us) ≡ None → (first_refusal ts ≡ None) × (first_refusal us ≡ None)
none_both [] us e = (refl, e)
none_both (t ∷ ts) us e =
    let (n, f) = neither t.applies t.refusal (first_refusal (ts ++ us)) e in
    let (g, l) = none_both ts us f in
    (if-false (Some t.refusal) (first_refusal ts) t.applies n ∙ g, l)

-- what stands after it
pub record Left (r : Rules) (c : Case) (w : List ℤ) (call : StepCall) : Type 0 where
  pub handed-over : Handed r (working_weight r) c call.table
  pub bars : (x k l : ℕ) → IsTuple c x k l → barred c call.table x k l ≡ barred c w x k l
  pub record-in : T (not (record_out r c call.stepped.replay))
  pub good : call.stepped.replay.standing ≡ Ok tt

module _ {r : Rules} (coherent : Coherent r) (c : Case) (w : List ℤ) (p : Replay) (h : Handed r (working_weight r) c w)
    (known : T (not (record_out r c p))) where
  few : T (not (ltb r.rounds p.rounds))
  few = ((not-or-iff (ltb r.rounds p.rounds) (due_out r c p.raised p.due)).0 known).0

  none-past : T (all (λ b. eqb b 0) (drop (scope_count c) none_raised))
  none-past = (all_get_d (λ b. eqb b 0) (drop (scope_count c) none_raised) 0).1 (λ i l.
      rw (
        get_or-drop (scope_count c) none_raised i 0,
        get_or-replicate {A = ℕ} scope_places (scope_count c + i) 0 0
            (omega (arith, length-drop (scope_count c) none_raised, length-replicate {A = ℕ} scope_places 0)),
      ) tt)

  abbrev After : Asked → Type 0
  After a = T (not a.out) → first_refusal a.later ≡ None → Left r c w (step_by w p a None)

  after-shift : (t : Line) → After (of_shift r c w p t)
  after-shift t o e = record {
    handed-over = handed-spared coherent (shift_by c (nat_abs t.a) (nat_abs t.b) (nat_abs t.c) t.amount) h
        (neither (leaves_range r c w (of_shift r c w p t).table) LeavesRange None e).0;
    bars = λ x k l u. bars-kept c w (shift_by c (nat_abs t.a) (nat_abs t.b) (nat_abs t.c) t.amount) coherent
        (neither (leaves_range r c w (of_shift r c w p t).table) LeavesRange None e).0 u;
    record-in = (not-or-iff (ltb r.rounds p.rounds) false).1 (few, tt);
    good = refl;
  }

  after-begin : (target : Target) (t : Line) → After (of_begin r c w p target t)
  after-begin target t o e =
      let (q, m) = (not-or-iff (begin_out c t) (target_out r target)).0 o in
      let (a, b) = (not-or-iff (outside c.n t.a) (not (within_z (pos 1) (pos (scope_count c - 1)) t.b))).0 q in
      let (from-0, least, most) = count-in-range (scope_count c - 1) t.b ((not-not-iff (within_z (pos 1) (pos (scope_count c - 1)) t.b)).0 b) in
      record {
        handed-over = h;
        bars = λ x k l u. refl;
        record-in = simp (not-or-iff, not-not-iff) (
          few,
          ((((lt→ltb (nat_abs t.a) c.n (inside c.n t.a a), m), simp tests (least, most)), tt), none-past),
        );
        good = refl;
      }

  after-bound : (t : Line) → After (of_bound r c w p t)
  after-bound t o e = record {
    handed-over = h;
    bars = λ x k l u. refl;
    record-in = (not-or-iff (ltb r.rounds (p.rounds + 1)) false).1
        (simp tests (omega (arith, ltb→lt p.rounds r.rounds ((not-not-iff (ltb p.rounds r.rounds)).0 o))), tt);
    good = refl;
  }

  module _ (i : ℕ) (target : Target) (left : ℕ) (last_one : Option ℕ) (d : p.due ≡ Due.Raise i target left last_one) where
    -- what the press or the void line begun is known to be
    pub held : (i < c.n) × T (not (target_out r target)) × (1 ≤ left) × (left ≤ scope_count c - 1)
        × T (all (λ b. eqb b 0) (drop (scope_count c) p.raised))
    held =
        let u = ((not-or-iff (ltb r.rounds p.rounds) (due_out r c p.raised p.due)).0 known).1 in
        let ((((x, m), l), o), z) = simp (not-or-iff, not-not-iff) at (rw d at u) in
        let (least, most) = simp tests at l in
        (ltb→lt i c.n x, m, least, most, z)

    -- with its last raise line
    after-target : (raised : List ℕ) (target : Target) → first_refusal (last_tests r c w i raised target) ≡ None
        → Left r c w (step_taken (after_target p target) (target_table r c w i raised target))
    after-target raised (Target.Press a) e = record {
      handed-over = handed-spared coherent (press_by c w i (active_values c w i) (is_raised raised) a) h
          (neither (leaves_range r c w (target_table r c w i raised (Target.Press a))) LeavesRange None e).0;
      bars = λ x k l u. bars-kept c w (press_by c w i (active_values c w i) (is_raised raised) a) coherent
          (neither (leaves_range r c w (target_table r c w i raised (Target.Press a))) LeavesRange None e).0 u;
      record-in = (not-or-iff (ltb r.rounds p.rounds) false).1 (few, tt);
      good = refl;
    }
    after-target raised Target.Void e =
        record {
          handed-over = h;
          bars = λ x k l u. refl;
          record-in = (not-or-iff (ltb r.rounds p.rounds) false).1 (few, tt);
          good = refl;
        }

    after-raise : (t : Line) → After (of_raise r c w p i target left last_one t)
    after-raise t o e = ⊎_elim
        (λ l. rw (is_true (eqb left 1) l) (after-target (set p.raised (nat_abs t.a) 1) target (rw (is_true (eqb left 1) l) at (later e))))
        (λ l. rw (is_false (eqb left 1) l) (
        let (x, m, least, most, z) = held in
        let below = inside (scope_count c) t.a o in
        record {
          handed-over = h;
          bars = λ x k l u. refl;
          record-in = simp (not-or-iff, not-not-iff) (
            few,
            (
              (
                ((lt→ltb i c.n x, m), simp tests (omega (arith, (not-eqb-iff left 1).0 l), omega arith)),
                lt→ltb (nat_abs t.a)
                    (scope_count c) below,
              ),
              rw (drop-set-lt (scope_count c) p.raised (nat_abs t.a) 1 below) z,
            ),
          );
          good = refl;
        }))
        (either (eqb left 1))
      where
        -- numbers 9 and 10 do not apply
        later : first_refusal (of_raise r c w p i target left last_one t).later ≡ None
            → first_refusal (if eqb left 1 then last_tests r c w i (set p.raised (nat_abs t.a) 1) target else []) ≡ None
        later e = (neither (eqb left 1 && not (all_refuted c w (is_raised (set p.raised (nat_abs t.a) 1)) i (active_values c w i))) NotRefuted _
            (neither (not_above_last last_one (nat_abs t.a) || eqb (nat_abs t.a) i) RaiseNotAscending _ e).1).1

  after-kind : (due : Due) → p.due ≡ due → (t : Line) → not_due r (due_kinds due) t ≡ false → After (of_due r c w p due t)
  after-kind (Due.Raise i target left last_one) d t n = after-raise i target left last_one d t
  after-kind Due.MoveOrBound d t n = go (is_kind 1 t) (is_kind 2 t) (is_kind 4 t)
    where
      go : (x y z : Bool) → After (if x then of_shift r c w p t else if y then of_begin r c w p (Target.Press t.amount) t
          else if z then of_bound r c w p t else of_begin r c w p Target.Void t)
      go true y z = after-shift t
      go false true z = after-begin (Target.Press t.amount) t
      go false false true = after-bound t
      go false false false = after-begin Target.Void t
  after-kind Due.Nothing d t n = let z : true ≡ false = ap not (nothing-due coherent t) ∙ twice-not (not_due r [] t) ∙ n in absurd (false-is true z)

-- a line of any bytes that is done
module _ {r : Rules} (coherent : Coherent r) (c : Case) (w : List ℤ) (p : Replay) where
  line-leaves : (t : Option Line) → (step_line r c w p t).stepped.answer ≡ Ok tt → Left r c w (step_line r c w p t)
  line-leaves None e = absurd (never e)
  line-leaves (Some t) e = go (first_refusal (step_tests r c w p t asked)) refl e
    where
      asked : Asked
      asked = of_due r c w p p.due t

      go : (o : Option Refusal) → first_refusal (step_tests r c w p t asked) ≡ o → (step_by w p asked o).stepped.answer ≡ Ok tt → Left r c w (step_by w p asked o)
      go (Some x) d e = absurd (never e)
      go None d e =
          let (f, l) = none_both
          (NotDue when (not_due r (due_kinds p.due) t) ∷ handed_over r (working_weight r) c w false (record_out r c p || asked.out))
          asked.later d in
          let (u, g) = neither (not_due r (due_kinds p.due) t) NotDue
          (first_refusal (handed_over r (working_weight r) c w false (record_out r c p || asked.out))) f in
          let (h, k, o) = lent-known r c w p asked.out g in
          after-kind coherent c w p h k p.due refl t (is_false (not_due r (due_kinds p.due) t) u) o l

  pub step-leaves : (t : List ℕ) → (step_replay r c w p t).stepped.answer ≡ Ok tt → Left r c w (step_replay r c w p t)
  unfolding step_replay
  step-leaves t = go p.standing
    where
      go : (s : Result ⊤ Refusal) → (step_standing r c w p t s).stepped.answer ≡ Ok tt → Left r c w (step_standing r c w p t s)
      go (Err x) e = absurd (never e)
      go (Ok tt) e = line-leaves (read_line r.amount_width t) e
