-- Raise lines of a press or a void line that are not its last: each goes one line on. Assumes nothing.
use Rattle.std.specs.Prelude.{Ok, Option, Some}
use mathlib.Core.Path.{◌≡◌, refl, sym, ap, subst, ◌∙◌}
use mathlib.Core.Logic.{◌≢◌}
use mathlib.Core.Bool.{false, not}
use mathlib.Core.List.{List, [], ◌∷◌}
use Prim.Native.Nat.{ℕ, zero, suc, ◌+◌, ◌-◌, ◌≤◌, ◌<◌}
use native.Mathlib.Numerals.{add-one}
use native.Mathlib.Omega.{arith}
use lib.IntN.{ℤ, pos}
use lib.Dec.{T, eqb, ltb, ltb→lt}
use lib.ListN.{length, take, drop, set}
use lib.Seq.{drop-drop}
use borrow.Author.Tests.{lt-ltb, le-leb, lt-leb, ne_eqb, not-true}
use Rattle.integers.specs.Tests.{not-or-iff, not-not-iff}
use Rattle.definitions.specs.declared.Case.{Case}
use Rattle.definitions.specs.Rules.{coherent, rules_of}
use Rattle.definitions.specs.Case.{scope_count}
use Rattle.definitions.specs.Valid.{working_weight}
use Rattle.definitions.specs.Lines.{read_line, line_length, not_due, outside}
use Rattle.definitions.specs.RoundLines.{raise_line}
use Rattle.theory.proofs.Validity.{Handed}
use Rattle.checker.specs.declared.Target.{Target}
use Rattle.checker.specs.declared.Due.{Due}
use Rattle.checker.specs.declared.Progress.{Progress}
use Rattle.checker.specs.declared.Replay.{Replay}
use Rattle.checker.specs.declared.Taken.{Taken}
use Rattle.checker.specs.Checker.{not_above_last, due_out, record_out, of_raise, step_line, step_replay}
use Rattle.checker.specs.Taken.{good_replay, step_of, bytes_per_line}
use Rattle.checker.specs.Raising.{held_progress, last_under, raising_progress, Onward}
use Rattle.checker.proofs.LineKinds.{raise-due}
use Rattle.checker.proofs.Front.{good-next}
use Rattle.checker.proofs.Fold.{turn-done}
use Rattle.checker.proofs.Taking.{taken-done, raise-more, raise-table, raise-record}

above-last : (next x : ℕ) → next ≤ x → not_above_last (last_under next) x ≡ false
above-last zero x h = refl
above-last (suc y) x h = lt-leb x y (omega arith)

pub scope-before : (n : ℕ) → n ≢ 0 → Some (n - 1) ≡ last_under n
scope-before zero h = absurd (h refl)
scope-before (suc n) h = ap Some (omega arith)

in-scopes : (n x : ℕ) → x < n → outside n (pos x) ≡ false
in-scopes n x h = rw (le-leb 0 x (omega arith), lt-ltb x n h)

raise-line-due : (c : Case) (x : ℕ) → not_due (rules_of c) (3 ∷ []) (raise_line x) ≡ false
raise-line-due c x = not-true _ (sym (raise-due (coherent c.rulebook) (raise_line x)))

-- one line
module _ (b s i left next x : ℕ) (raised t : List ℕ) (long : b ≤ length t)
    (read : (width : ℕ) → line_length width ≡ b → read_line width (take b t) ≡ Some (raise_line x)) (more : 1 < left) (below : x < s) (above : next ≤ x)
    (other : x ≢ i) (q : Progress) (target : Target) where
  abbrev after : Taken
  after = record { progress = held_progress q i target (left - 1) (Some x); answer = (Ok tt) }

  step : (c : Case) (w : List ℤ) → Handed (rules_of c) (working_weight (rules_of c)) c w → bytes_per_line c ≡ b → scope_count c ≡ s
      → T (not (record_out (rules_of c) c (good_replay (raising_progress q i target left next) raised)))
      → step_of after (set raised x 1) w ≡ step_replay (rules_of c) c w (good_replay (raising_progress q i target left next) raised) (take b t)
  unfolding step_replay
  step c w h l e r =
      let o = raising_progress q i target left next in
      let p = good_replay o raised in
      let m : eqb left 1 ≡ false = ne_eqb left 1 (λ z. absurd (omega arith)) in
      taken-done after w w (set raised x 1) p (of_raise (rules_of c) c w p i target left (last_under next) (raise_line x)) refl
      (raise-table c w o raised i target left (last_under next) (raise_line x) m)
      (raise-record c w o raised i target left (last_under next) (raise_line x) m refl)
      (raise-more c w p i target left (last_under next) (raise_line x) (above-last next x above) (ne_eqb x i other) m)
      ∙ sym (good-next c w p (raise_line x) h r (raise-line-due c x) (in-scopes (scope_count c) x (omega arith)))
      ∙ sym (ap (step_line (rules_of c) c w p) (read (rules_of c).amount_width l))

  raise-step : (n : ℕ)
      → Onward b s n (raising_progress q i target left next) raised t (n + 1) (raising_progress q i target (left - 1) (x + 1)) (set raised x 1) (drop b t)
  raise-step n = record {
    goes = λ c w h l e r.
        let m : bytes_per_line c ≤ length t = rw l long in
        let f = rw (← l) at (step c w h l e r) in
        let (d, k, o) = turn-done c w (good_replay (raising_progress q i target left next) raised) t m after (set raised x 1) w f n refl in
        rw (add-one x, ← l) (d, o);
  }

-- no line, and a line more
module _ (b s i left next : ℕ) (raised bytes : List ℕ) (from : ℕ) where
  -- some lines, after which so many are left
  abbrev pub Raised : ℕ → ℕ → List ℕ → ℕ → Type 0
  Raised more above marked at =
      (q : Progress) (target : Target) (n : ℕ)
      → Onward b s n (raising_progress q i target left next) raised (drop from bytes) (n + (left - more)) (raising_progress q i target more above) marked
      (drop at bytes)

  pub no-raise-line : Raised left next raised from
  no-raise-line q target n = record { goes = λ c w h l e r. let z : n + (left - left) ≡ n = omega arith in rw z (refl, r) }

  pub one-raise-line : (more above at x : ℕ) (marked : List ℕ) → Raised more above marked at → b ≤ length (drop at bytes)
      → ((width : ℕ) → line_length width ≡ b → read_line width (take b (drop at bytes)) ≡ Some (raise_line x))
      → 1 < more → more ≤ left → x < s → above ≤ x → x ≢ i → Raised (more - 1) (x + 1) (set marked x 1) (at + b)
  one-raise-line more above at x marked before long read h l below up other q target n = record {
    goes = λ c w k m e r.
        let (d, o) = (before q target n).goes c w k m e r in
        let (f, u) = (raise-step b s i more above x marked (drop at bytes) long read h below up other q target (n + (left - more))).goes c w k m e o in
        let z : n + (left - (more - 1)) ≡ n + (left - more) + 1 = omega arith in
        rw (z, ← (drop-drop b at bytes)) (d ∙ f, u);
  }

-- the last scope of a press or a void line in range
module _ (c : Case) (p : Replay) (i : ℕ) (target : Target) (left : ℕ) (last_one : Option ℕ) where
  pub last-below : p.due ≡ Due.Raise i target left last_one → T (not (record_out (rules_of c) c p)) → (x : ℕ) → last_one ≡ Some x → x < scope_count c
  last-below d r x e =
      let u = ((not-or-iff (ltb (rules_of c).rounds p.rounds) (due_out (rules_of c) c p.raised p.due)).0 r).1 in
      let ((((v, m), l), o), z) = simp (not-or-iff, not-not-iff) at (rw d at u) in
      ltb→lt x (scope_count c) ((not-not-iff (ltb x (scope_count c))).0 (rw e at o))

pub held_whole : (q : Progress) {i : ℕ} {target : Target} {left : ℕ} {last_one : Option ℕ} → q.due ≡ Due.Raise i target left last_one
    → held_progress q i target left last_one ≡ q
held_whole q e = ap (λ (d : Due). record { rounds = q.rounds; start = q.start; moved = q.moved; due = d }) (sym e)

held-as : (q : Progress) (i : ℕ) (target : Target) (left : ℕ) {k l : Option ℕ} → k ≡ l → held_progress q i target left k ≡ held_progress q i target left l
held-as q i target left e = ap (λ (x : Option ℕ). held_progress q i target left x) e

pub onward-as : {b s n m : ℕ} {p u q v : Progress} {raised marked t x : List ℕ} → p ≡ u → q ≡ v → Onward b s n p raised t m q marked x
    → Onward b s n u raised t m v marked x
onward-as {b} {s} {n} {m} {p} {u} {q} {v} {raised} {marked} {t} {x} d e h =
    subst (λ (y : Progress). Onward b s n y raised t m v marked x) d (subst (λ (y : Progress). Onward b s n p raised t m y marked x) e h)

-- a press or a void line begun, its lines taken, with the record put together again
pub held_on : {o s i left more : ℕ} (next above : ℕ) {n m : ℕ} (q : Progress) {target : Target} {k l : Option ℕ} {v : Progress} {raised marked t x : List ℕ}
    → last_under next ≡ k → l ≡ last_under above → v ≡ held_progress q i target more l
    → Onward o s n (raising_progress q i target left next) raised t m (raising_progress q i target more above) marked x
    → Onward o s n (held_progress q i target left k) raised t m v marked x
held_on {i} {left} {more} next above q {target} d e g h = onward-as (held-as q i target left d) (sym (g ∙ held-as q i target more e)) h
