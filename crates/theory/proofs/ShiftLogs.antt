-- Lines of which none is a press line: no press is ever held, so that every move is a shift, and every lawful objective stays. Assumes nothing.
use mathlib.Core.Path.{◌≡◌, refl, sym, ap, ◌∙◌}
use mathlib.Core.Bool.{Bool, true, false, not}
use mathlib.Core.List.{List, [], ◌∷◌}
use Prim.Native.Nat.{ℕ}
use lib.IntN.{ℤ}
use lib.Dec.{T}
use Rattle.std.specs.Prelude.{if◌then◌else◌, Option, Some, None, is_some}
use Rattle.integers.specs.Tests.{if-cases, not-or-iff}
use Rattle.integers.specs.Options.{some_inj, none-some}
use Rattle.definitions.specs.declared.Case.{Case}
use Rattle.definitions.specs.declared.Line.{Line}
use Rattle.definitions.specs.declared.Refusal.{Refusal}
use Rattle.definitions.specs.Rules.{Rules, Coherent}
use Rattle.definitions.specs.Refusals.{first_refusal}
use Rattle.definitions.specs.Case.{objective, is_lawful}
use Rattle.definitions.specs.Valid.{valid}
use Rattle.definitions.specs.Lines.{read_line, is_kind, has_kind}
use Rattle.definitions.specs.Replay.{Target, pressing, voiding, Held, State, fresh, after_move, holding, after_bound, shift_of, held_of, raising, is_last}
use Rattle.definitions.specs.Replay.{completed, line_tests, taken, answered, step_unrefused, step, after, some_press}
use Rattle.theory.proofs.Shifts.{shift-moves}
use Rattle.theory.proofs.Barred.{lawful-same}
use Rattle.theory.proofs.Replays.{Stepped, stays, refuses, shifts, holds, raises, presses, voids, bounds, stepped, Sound, sound-step, sound-fresh}
use Rattle.theory.proofs.Replays.{sound-after, case-after, starting-after}

-- what is held is no press
abbrev NonePressed : State → Type 0
NonePressed s = (h : Held) → s.held ≡ Some h → h.target ≡ voiding

module _ (r : Rules) (s : State) (free : NonePressed s) where
  completed-free : (h : Held) (target : Target) → NonePressed (completed s h target)
  completed-free h (pressing a) g e = absurd (none-some e)
  completed-free h voiding g e = absurd (none-some e)

  taken_free : (held : Option Held) → s.held ≡ held → (t : Line) → T (not (is_kind 2 t)) → NonePressed (taken s held (Some t))
  taken_free (Some h) e t n = if-cases NonePressed (is_last h) (completed s (raising h t) h.target) (holding s (raising h t))
      (λ b. completed-free (raising h t) h.target) (λ b g q. ap (λ (h : Held). h.target) (sym (some_inj q)) ∙ free h e)
  taken_free None e t n = go (is_kind 1 t) (is_kind 2 t) (is_kind 4 t) n
    where
      go : (a b d : Bool) → T (not b) → NonePressed (if a then after_move s (shift_of t) else if b then holding s (held_of (pressing t.amount) t)
          else if d then after_bound s t.amount else holding s (held_of voiding t))
      go true b d n h q = absurd (none-some q)
      go false true d n h q = absurd n
      go false false true n h q = absurd (none-some q)
      go false false false n h q = ap (λ (h : Held). h.target) (sym (some_inj q))

  answered-free : (t : Option Line) → T (not (has_kind 2 t)) → (o : Option Refusal) → NonePressed (answered s t o)
  answered-free t n (Some x) = free
  answered-free None n None = free
  answered-free (Some t) n None = taken_free s.held refl t n

  step-free : (t : List ℕ) → T (not (has_kind 2 (read_line r.amount_width t))) → NonePressed (step r s t)
  step-free t n = if-cases NonePressed (is_some s.refusal) s (step_unrefused r s (read_line r.amount_width t)) (λ b. free)
      (λ b. answered-free (read_line r.amount_width t) n (first_refusal (line_tests r s (read_line r.amount_width t))))

-- every lawful objective is as at the start
abbrev Kept : State → Type 0
Kept s = (p : List ℕ) → T (is_lawful s.case s.starting p) → objective s.case s.weights p ≡ objective s.case s.starting p

kept-stepped : {r : Rules} {s u : State} → Sound r s → NonePressed s → Kept s → Stepped r s u → Kept u
kept-stepped sound free kept stays = kept
kept-stepped sound free kept (refuses x) = kept
kept-stepped {s = s} sound free kept (shifts e end v a h) = λ p t.
    shift-moves s.case e end v a sound.shape h.edge p s.weights (lawful-same s.case s.starting s.weights sound.bars sound.shape p t)
    ∙ kept p t
kept-stepped sound free kept (holds h k) = kept
kept-stepped sound free kept (raises h x left e n) = kept
kept-stepped sound free kept (presses h a x e d n f i) = λ p t. let q : pressing a ≡ voiding = sym d ∙ free h e in cc
kept-stepped sound free kept (voids h x e f b) = kept
kept-stepped sound free kept (bounds z h e l) = kept

kept-after : {r : Rules} (s : State) (ts : List (List ℕ)) → T (not (some_press r ts)) → Sound r s → NonePressed s → Kept s → Kept (after r s ts)
kept-after s [] n sound free kept = kept
kept-after {r} s (t ∷ ts) n sound free kept =
    let (one, rest) = (not-or-iff (has_kind 2 (read_line r.amount_width t)) (some_press r ts)).0 n in
    kept-after (step r s t) ts rest (sound-step r s t sound) (step-free r s free t one) (kept-stepped sound free kept (stepped r s t))

module _ {r : Rules} (coherent : Coherent r) (c : Case) (w : List ℤ) (t : T (valid r c w)) (ts : List (List ℕ)) where
  abbrev worked : List ℤ
  worked = (after r (fresh c w) ts).weights

  pub lines-kept : T (not (some_press r ts)) → (p : List ℕ) → T (is_lawful c w p) → objective c worked p ≡ objective c w p
  lines-kept n p a = rw (case-after r (fresh c w) ts, starting-after r (fresh c w) ts) at
      (kept-after (fresh c w) ts n (sound-fresh coherent c w t) (λ h e. absurd (none-some e)) (λ p a. refl) p
      (rw (case-after r (fresh c w) ts, starting-after r (fresh c w) ts) a))

  -- an assignment that is lawful after the lines was so before them
  pub lines-lawful : (p : List ℕ) → T (is_lawful c worked p) → T (is_lawful c w p)
  lines-lawful p a =
      let sound = sound-after r (fresh c w) ts (sound-fresh coherent c w t) in
      rw (case-after r (fresh c w) ts, starting-after r (fresh c w) ts) at
      (lawful-same (after r (fresh c w) ts).case worked (after r (fresh c w) ts).starting (λ x k l u. sym (sound.bars x k l u)) sound.shape p
      (rw (case-after r (fresh c w) ts) a))
