-- Where nothing handed over is refused and no join is begun, a line that changes no links is the stretch's: the step is that of the stretch, and
-- what it leaves is good again. Lines that change links are never due in a stretch. Assumes nothing.
use Rattle.log_checker.specs.declared.JoinBegun.{JoinBegun}
use Rattle.std.specs.Prelude.{Result, Ok, Err, Option, Some, None, ⊤, None}
use mathlib.Core.Path.{◌≡◌, refl, sym, ap, subst, ◌∙◌}
use mathlib.Core.Logic.{◌≢◌, ⊎_elim}
use mathlib.Core.Bool.{Bool, true, false, not, ◌&&◌, ◌||◌}
use mathlib.Core.List.{List, ◌∷◌}
use Prim.Native.Nat.{ℕ}
use native.Mathlib.Omega.{arith}
use lib.IntN.{pos}
use lib.Dec.{T, T_not, not_T}
use Rattle.integers.specs.Words.{any, is_in}
use Rattle.integers.specs.Lists.{any-in}
use Rattle.integers.specs.Tests.{is_true, and_left, and_right, or_cases}
use Rattle.integers.specs.Linear.{T-eq}
use Rattle.definitions.specs.declared.Line.{Line}
use Rattle.definitions.specs.declared.Refusal.{Refusal}
use Rattle.definitions.specs.declared.Refusal.TheVariants.{NotDue, OutOfRange}
use Rattle.definitions.specs.Rules.{Rules, coherent, rules_of}
use Rattle.definitions.specs.Refusals.{◌when◌, first_refusal, sooner}
use Rattle.definitions.specs.Valid.{both_handed_over}
use Rattle.definitions.specs.Lines.{read_line, not_due, is_kind, unused_zero}
use Rattle.theory.proofs.Validity.{BothHanded, both-handed}
use Rattle.theory.proofs.Replays.{none-iff}
use Rattle.checker.specs.declared.Due.{Due}
use Rattle.checker.specs.declared.Replay.{Replay as Stretch}
use Rattle.checker.specs.Checker.{Asked, due_kinds, record_out, of_due}
use Rattle.checker.specs.Checker.{StepCall as StretchCall, step_refused as refused_step, step_by as stretch_by, step_line as stretch_line}
use Rattle.checker.specs.Checker.{step_standing as stretch_standing, step_replay as step_stretch}
use Rattle.checker.proofs.Front.{good-out, good-next, good-not-due}
use Rattle.checker.proofs.Leaves.{step-leaves}
use Rattle.log_checker.specs.Checker.{Between, LineAsked, is_between, lent_tests, lent_number, of_move, of_line, step_by, step_line}
use Rattle.log_checker.specs.Checker.{step_standing, step_replay}
use Rattle.log_checker.specs.Taken.{Settled, changes_links, step_refused, lifted}

-- ---- kinds 7 and 8 are never among those that are due in a stretch

module _ (r : Rules) (t : Line) where
  other-kind : (k : ℕ) (due : List ℕ) → T (is_kind k t) → is_in due k ≡ false → not_due r due t ≡ true
  other-kind k due h n = is_true (not_due r due t) (not_T (any (λ q. is_kind q.kind t && is_in due q.kind && unused_zero q t) r.kinds) (λ s.
      let (q, m, u) = (any-in (λ q. is_kind q.kind t && is_in due q.kind && unused_zero q t) r.kinds).0 s in
      let v = and_left (is_kind q.kind t && is_in due q.kind) (unused_zero q t) u in
      let d : pos k ≡ pos q.kind =
      sym ((T-eq t.kind (pos k)).0 h) ∙ (T-eq t.kind (pos q.kind)).0 (and_left (is_kind q.kind t) (is_in due q.kind) v) in
      let e : k ≡ q.kind = cc in
      T_not (is_in due k) (rw n tt) (subst (λ (j : ℕ). T (is_in due j)) (sym e) (and_right (is_kind q.kind t) (is_in due q.kind) v))))

  pub never-due : (due : Due) → T (changes_links (Some t)) → not_due r (due_kinds due) t ≡ true
  never-due due h = ⊎_elim (λ u. other-kind 7 (due_kinds due) u (seven due)) (λ u. other-kind 8 (due_kinds due) u (eight due))
      (or_cases (is_kind 7 t) (is_kind 8 t) h)
    where
      seven : (due : Due) → is_in (due_kinds due) 7 ≡ false
      seven Due.MoveOrBound = refl
      seven (Due.Raise i target left last_one) = refl
      seven Due.Nothing = refl

      eight : (due : Due) → is_in (due_kinds due) 8 ≡ false
      eight Due.MoveOrBound = refl
      eight (Due.Raise i target left last_one) = refl
      eight Due.Nothing = refl

-- ---- what is known

module _ (b : Between) where
  -- of both tables and the record, by whether a number applies
  pub lent_both : b.replay.joining ≡ None → lent_number (rules_of b.case) b ≡ None
      → BothHanded (rules_of b.case) b.case b.starting b.table × T (not (record_out (rules_of b.case) b.case b.replay.stretch))
  lent_both j e =
      let r = rules_of b.case in
      let out = record_out r b.case b.replay.stretch in
      (both-handed r b.case b.starting b.table out).0
      ((none-iff (first_refusal (both_handed_over r b.case b.starting b.table out))).1
      (ap (λ (k : Option JoinBegun). first_refusal (lent_tests r b k)) (sym j) ∙ e))

  pub both-lent : b.replay.joining ≡ None → BothHanded (rules_of b.case) b.case b.starting b.table
      → T (not (record_out (rules_of b.case) b.case b.replay.stretch)) → lent_number (rules_of b.case) b ≡ None
  both-lent j h o =
      let r = rules_of b.case in
      let out = record_out r b.case b.replay.stretch in
      ap (λ (k : Option JoinBegun). first_refusal (lent_tests r b k)) j
      ∙ (none-iff (first_refusal (both_handed_over r b.case b.starting b.table out))).0 ((both-handed r b.case b.starting b.table out).1 (h, o))

  module _ (s : Settled b) where
    pub settled-both : BothHanded (rules_of b.case) b.case b.starting b.table
    settled-both = (lent_both s.unjoined s.lent.unrefused).0

    pub settled-in : T (not (record_out (rules_of b.case) b.case b.replay.stretch))
    settled-in = (lent_both s.unjoined s.lent.unrefused).1

-- ---- a line

module _ (b : Between) (s : Settled b) where
  abbrev r : Rules
  r = rules_of b.case

  abbrev p : Stretch
  p = b.replay.stretch

  pub refused-alone : (x : Refusal) (a : LineAsked) → step_by r b a (Some x) ≡ step_refused b x
  refused-alone x a = rw (s.lent.unrefused, s.unjoined)

  module _ (t : Line) where
    abbrev asked : Asked
    asked = of_due r b.case b.table p p.due t

    -- the line's first number
    number : Option Refusal
    number = first_refusal (of_move r b asked t).tests

    by_number : (o : Option Refusal) → step_by r b (of_move r b asked t) o ≡ lifted b (stretch_by b.table p asked o)
    by_number None = refl
    by_number (Some x) = refused-alone x (of_move r b asked t)

    same_number : stretch_line r b.case b.table p (Some t) ≡ stretch_by b.table p asked number
    unfolding number
    same_number = go (not_due r (due_kinds p.due) t) asked.out refl refl
      where
        go : (x y : Bool) → not_due r (due_kinds p.due) t ≡ x → asked.out ≡ y
            → stretch_line r b.case b.table p (Some t)
            ≡ stretch_by b.table p asked (first_refusal (NotDue when x ∷ OutOfRange when y ∷ asked.later))
        go true y d e = good-not-due b.case b.table p t d
        go false true d e = good-out b.case b.table p t (settled-both b s).now (settled-in b s) d e
        go false false d e = good-next b.case b.table p t (settled-both b s).now (settled-in b s) d e

    lift-line : (is_between p && is_kind 7 t) ≡ false → (is_between p && is_kind 8 t) ≡ false
        → step_line r b (Some t) ≡ lifted b (stretch_line r b.case b.table p (Some t))
    unfolding number
    lift-line d e =
        let f : of_line r b b.replay.joining t ≡ of_move r b asked t = ap (λ (j : Option JoinBegun). of_line r b j t) s.unjoined ∙ rw (d, e) in
        ap (λ (a : LineAsked). step_by r b a (sooner (lent_number r b) (first_refusal a.tests))) f
        ∙ ap (λ (o : Option Refusal). step_by r b (of_move r b asked t) (sooner o number)) s.lent.unrefused
        ∙ by_number number ∙ ap (lifted b) (sym same_number)

  abbrev read : List ℕ → Option Line
  read bytes = read_line r.amount_width bytes

  -- ---- a line of any bytes
  pub lift-step : (bytes : List ℕ) → T (not (is_between p && changes_links (read bytes))) → step_replay r b bytes ≡ lifted b (step_stretch r b.case b.table p bytes)
  unfolding step_replay step_stretch
  lift-step bytes n =
      ap (step_standing r b bytes) s.lent.good ∙ go (read bytes) n
      ∙ ap (λ (x : Result ⊤ Refusal). lifted b (stretch_standing r b.case b.table p bytes x)) (sym s.lent.good)
    where
      neither : (x y z : Bool) → T (not (x && (y || z))) → ((x && y) ≡ false) × ((x && z) ≡ false)
      neither true true z t = absurd t
      neither true false true t = absurd t
      neither true false false t = (refl, refl)
      neither false y z t = (refl, refl)

      go : (o : Option Line) → T (not (is_between p && changes_links o)) → step_line r b o ≡ lifted b (stretch_line r b.case b.table p o)
      go None t = rw (s.lent.unrefused, s.unjoined)
      go (Some t) u = let (d, e) = neither (is_between p) (is_kind 7 t) (is_kind 8 t) u in lift-line t d e

  pub links-not-due : (bytes : List ℕ) → T (changes_links (read bytes)) → step_stretch r b.case b.table p bytes ≡ refused_step p b.table NotDue
  unfolding step_stretch
  links-not-due bytes h = ap (stretch_standing r b.case b.table p bytes) s.lent.good ∙ go (read bytes) h
    where
      go : (o : Option Line) → T (changes_links o) → stretch_line r b.case b.table p o ≡ refused_step p b.table NotDue
      go None u = absurd u
      go (Some t) u = good-not-due b.case b.table p t (never-due r t p.due u)

  abbrev step : List ℕ → StretchCall
  step bytes = step_stretch r b.case b.table p bytes

  never : {x : Refusal} → ◌≡◌ {A = Result ⊤ Refusal} (Err x) (Ok tt) → ⊥
  never {x} e = let z : ◌≡◌ {A = ℕ} 0 1 = cc in omega arith

  -- a line that the stretch takes
  pub lift-done : (bytes : List ℕ) → (step bytes).stepped.answer ≡ Ok tt → step_replay r b bytes ≡ lifted b (step bytes)
  lift-done bytes e = lift-step bytes (not_T (is_between p && changes_links (read bytes)) (λ t.
      never (ap (λ (k : StretchCall). k.stepped.answer) (sym (links-not-due bytes (and_right (is_between p) (changes_links (read bytes)) t))) ∙ e)))

  -- a line that it refuses, but by number 2 between rounds
  pub lift-refused : (bytes : List ℕ) {x : Refusal} → (step bytes).stepped.answer ≡ Err x → (T (is_between p) → x ≢ NotDue)
      → step_replay r b bytes ≡ lifted b (step bytes)
  lift-refused bytes {x} e n = lift-step bytes (not_T (is_between p && changes_links (read bytes)) (λ t.
      let d = ap (λ (k : StretchCall). k.stepped.answer) (sym (links-not-due bytes (and_right (is_between p) (changes_links (read bytes)) t))) ∙ e in
      n (and_left (is_between p) (changes_links (read bytes)) t) (cc)))

  -- what it leaves
  pub settled-after : (bytes : List ℕ) → (step bytes).stepped.answer ≡ Ok tt → Settled (lifted b (step bytes)).after
  settled-after bytes e =
      let h = settled-both b s in
      let l = step-leaves (coherent b.case.rulebook) b.case b.table p bytes e in
      let a = (lifted b (step bytes)).after in
      record {
        lent = record {
          good = l.good;
          unrefused = both-lent a s.unjoined
              (record { first = h.first; now = l.handed-over; bars = λ x k q u. l.bars x k q u ∙ h.bars x k q u }) l.record-in;
        };
        unjoined = s.unjoined;
      }
