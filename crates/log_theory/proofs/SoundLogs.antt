-- Change 5 of document 02 of the plain replay of a log, whoever wrote it: after any lines the total of each lawful plan of the case as it then
-- stands, plus the carry, is at least its starting total, the upper bound is at least that too, and the rounds of a stretch number at most the
-- upper bound at its start less any such starting total. Assumes nothing.
use Rattle.std.specs.Prelude.{Some, None}
use mathlib.Core.Path.{◌≡◌, refl, sym, ap, ap₂, subst, ◌∙◌}
use mathlib.Core.Bool.{false, not}
use mathlib.Core.List.{List, [], ◌∷◌}
use Prim.Native.Nat.{ℕ, suc, ◌+◌, ◌-◌, ◌≤◌, ◌<◌}
use native.Mathlib.Omega.{arith}
use lib.IntN.{ℤ, pos, ◌+ℤ◌}
use lib.Dec.{T}
use lib.Signed.{◌≤ℤ◌}
use lib.ListN.{length, drop, length-drop}
use Rattle.integers.specs.Tests.{and_right, if-cases}
use Rattle.integers.specs.Options.{some_inj, none-some}
use Rattle.integers.specs.Linear.{flat, zs, ◌▸◌, ≤ℤ-trans}
use Rattle.definitions.specs.declared.Case.{Case}
use Rattle.definitions.specs.declared.Line.{Line}
use Rattle.definitions.specs.Rules.{Rules, Coherent, coherent, rules_of}
use Rattle.definitions.specs.Refusals.{first_refusal}
use Rattle.definitions.specs.Case.{objective, upper_bound, is_lawful}
use Rattle.definitions.specs.Valid.{starting_weight, valid}
use Rattle.definitions.specs.CaseFiles.{CaseDue, Reading, took}
use Rattle.definitions.specs.Replay.{State, fresh}
use Rattle.logs.specs.Leave.{WeightedCase, restarts, left_by}
use Rattle.logs.specs.Join.{join_dues, Joining, begun_join, join_line_tests, grown_by}
use Rattle.logs.specs.Logs.{LogState, fresh_log, new_stretch, between_rounds, step_log, after_log, begins_stretch, one_stretch}
use Rattle.theory.proofs.Totals.{bound-above}
use Rattle.theory.proofs.Barred.{lawful-iff}
use Rattle.theory.proofs.Validity.{valid-facts, valid-carry, Handed, working-handed, BothHanded}
use Rattle.theory.proofs.Replays.{Stepped, stays, refuses, shifts, holds, raises, presses, voids, bounds, stepped, stepped_same}
use Rattle.theory.proofs.Replays.{Sound, sound-stepped, sound-step, handed-step, bound-from}
use Rattle.theory.proofs.Leave.{left-kept, left-handed}
use Rattle.theory.proofs.Join.{joined-kept, joined-handed}
use Rattle.case_theory.proofs.CaseDues.{State as Lists}
use Rattle.case_theory.proofs.CaseTests.{case-kinds}
use Rattle.logs.specs.Waiting.{renumbered}
use Rattle.case_theory.proofs.JoinReads.{join_lines, grown_reading, took-after, JoinRead}
use Rattle.case_theory.proofs.JoinReads.{begun, begun-reading, join-begun, join-next, join-valid, join-grown}
use Rattle.log_theory.proofs.LogSteps.{LogStepped, unchanged, numbered, in-stretch, link-leaves, join-begins, join-reads, join-ends, log-stepped}
use Rattle.log_theory.proofs.JoinDues.{join-length, join-due}
use Rattle.log_theory.proofs.Stretches.{begins-between, stretch-same, stretch-counted}

-- ---- what is kept

-- a join begun: so many edges are added, so many of its lines are read, and another is due
pub record SoundJoin (r : Rules) (c : Case) (w₀ : List ℤ) (j : Joining) : Type 0 where
  pub added : ℕ
  pub taken : ℕ
  pub state : Lists
  pub reading : j.reading ≡ grown_reading c added state
  pub due : j.dues ≡ drop taken (join_dues c added)
  pub some-due : taken < join_lines c added
  pub read : JoinRead c w₀ added taken state
  pub variables : c.n < r.variables
  pub edges : c.m + added ≤ r.edges
  pub few : added ≤ c.n

pub record SoundLog (r : Rules) (s : LogState) : Type 0 where
  pub sound : Sound r s.stretch
  pub both : BothHanded r s.stretch.case s.stretch.starting s.stretch.weights
  pub under : r ≡ rules_of s.stretch.case
  pub start-now : T (between_rounds s.stretch) → s.stretch.start ≡ upper_bound s.stretch.case s.stretch.weights
  pub join : (j : Joining) → s.joining ≡ Some j → T (between_rounds s.stretch) × SoundJoin r s.stretch.case s.stretch.starting j

-- between rounds the bound at the round's start is that of the weights
now-stepped : {r : Rules} {s u : State} → Stepped r s u → (T (between_rounds s) → s.start ≡ upper_bound s.case s.weights)
    → T (between_rounds u) → u.start ≡ upper_bound u.case u.weights
now-stepped stays h = h
now-stepped (refuses x) h = h
now-stepped (shifts e end v a k) h = λ b. absurd b
now-stepped (holds g k) h = λ b. absurd b
now-stepped (raises g x left e n) h = λ b. absurd b
now-stepped (presses g a x e d n f i) h = λ b. absurd b
now-stepped {s} (voids g x e f k) h = λ b. absurd (and_right (not s.moving) false b)
now-stepped (bounds z k e l) h = λ b. e

-- a case and tables with which a stretch begins
new-sound : {r : Rules} → Coherent r → (s : State) → s.rounds ≤ r.rounds → (v : WeightedCase) → BothHanded r v.case v.starting v.weights
    → ((p : List ℕ) → T (is_lawful v.case v.starting p)
    → objective v.case v.starting p ≤ℤ (objective v.case v.weights p +ℤ v.case.carry))
    → r ≡ rules_of v.case → SoundLog r (new_stretch s v)
new-sound coherent s few v b kept under = record {
  sound = record {
    rules = coherent;
    shape = b.first.shape;
    own = b.first.own-fits;
    long = b.now.long ∙ sym b.first.long;
    bars = b.bars;
    kept = kept;
    under = λ p a. ≤ℤ-trans (kept p a) (bound-above b.first.shape p ((lawful-iff v.case v.starting p).0 a).0 v.weights);
    few = few;
    press-held = λ h e. absurd (none-some e);
    none-lawful = λ f. absurd f;
  };
  both = b;
  under = under;
  start-now = λ b. refl;
  join = λ j e. absurd (none-some e);
}

pub sound-log-fresh : (c : Case) (w : List ℤ) → T (valid (rules_of c) c w) → SoundLog (rules_of c) (fresh_log c w)
sound-log-fresh c w t =
    let h = valid-facts (rules_of c) c w t in
    let k = coherent c.rulebook in
    new-sound k (fresh c w) (omega arith) (record { case = c; starting = w; weights = w })
    (record { first = h; now = working-handed k h; bars = λ x k l u. refl })
    (λ p a. valid-carry (rules_of c) c w t ▸ simp flat (omega zs)) refl

-- ---- a line of a join

module _ {r : Rules} {c : Case} {w₀ : List ℤ} (under : r ≡ rules_of c) (v : Handed r (starting_weight r) c w₀) where
  -- no line is read
  begun-sound : (p : ℕ) → c.n < r.variables → c.m + p ≤ r.edges → p ≤ c.n → SoundJoin r c w₀ (begun_join c w₀ p)
  begun-sound p m f l =
      let g = rw under at v in
      let m' = rw under at m in
      let f' = rw under at f in
      record {
        added = p;
        taken = 0;
        state = begun c w₀ p g m' f';
        reading = begun-reading c w₀ p g m' f';
        due = refl;
        some-due = omega (arith, v.shape.some-value);
        read = join-begun c w₀ p g m' f';
        variables = m;
        edges = f;
        few = l;
      }

  module _ {j : Joining} (k : SoundJoin r c w₀ j) {due : CaseDue} {dues : List CaseDue} (t : Line) (e : j.dues ≡ due ∷ dues)
      (f : first_refusal (join_line_tests r j.reading due t) ≡ None) where
    -- one more is read
    record Taken : Type 0 where
      state : Lists
      read : JoinRead c w₀ k.added (suc k.taken) state
      reading : took j.reading due (Some t) ≡ grown_reading c k.added state
      later : dues ≡ drop (suc k.taken) (join_dues c k.added)
      left : length dues ≡ join_lines c k.added - suc k.taken

    line_taken : Taken
    line_taken =
        let (x, u, a, b) = join-due c k.added k.taken k.some-due in
        let z : due ∷ dues ≡ renumbered c x ∷ drop (suc k.taken) (join_dues c k.added) = sym e ∙ k.due ∙ b in
        let d : due ≡ renumbered c x = cc in
        let l : dues ≡ drop (suc k.taken) (join_dues c k.added) = cc in
        record {
          state = _;
          read = join-next c w₀ k.added (case-kinds (coherent c.rulebook))
              (omega (arith, rw under at k.edges, (coherent c.rulebook).edges_placed)) k.taken k.state x t k.read u a
              (rw (under, k.reading, d) at f);
          reading = ap₂ (λ (g : Reading) (y : CaseDue). took g y (Some t)) k.reading d ∙ took-after c k.added k.state (renumbered c x) t;
          later = l;
          left = ap length l ∙ length-drop (suc k.taken) (join_dues c k.added) ∙ ap (λ (n : ℕ). n - suc k.taken) (join-length c k.added);
        }

    -- another is due
    reads-sound : 0 < length dues → SoundJoin r c w₀ (record { reading = took j.reading due (Some t); dues = dues })
    reads-sound some_left = let h = line_taken in record {
      added = k.added;
      taken = suc k.taken;
      state = h.state;
      reading = h.reading;
      due = h.later;
      some-due = omega (arith, h.left);
      read = h.read;
      variables = k.variables;
      edges = k.edges;
      few = k.few;
    }

    -- it was the last
    ends-sound : length dues ≡ 0 → Coherent r → (s : State) → s.rounds ≤ r.rounds → (w : List ℤ) → BothHanded r c w₀ w
        → ((p : List ℕ) → T (is_lawful c w₀ p) → objective c w₀ p ≤ℤ (objective c w p +ℤ c.carry))
        → SoundLog r (new_stretch s (grown_by c w (took j.reading due (Some t))))
    ends-sound last coherent s few w both kept =
        let h = line_taken in
        let q : suc k.taken ≡ join_lines c k.added = omega (arith, h.left, k.some-due) in
        let d = subst (λ (q : ℕ). JoinRead c w₀ k.added q h.state) q h.read in
        let a = rw under at v in
        let m = rw under at k.variables in
        let f = rw under at k.edges in
        let g = join-grown c w₀ k.added a m f h.state d in
        let o = rw (← under) at (join-valid c w₀ k.added a m f h.state d) in
        subst (λ (g : Reading). SoundLog r (new_stretch s (grown_by c w g))) (sym h.reading)
        (new-sound coherent s few (grown_by c w (grown_reading c k.added h.state)) (joined-handed g w coherent both o) (joined-kept g w kept) under)

-- ---- every line keeps it

pub sound-log-step : (r : Rules) (s : LogState) (t : List ℕ) → SoundLog r s → SoundLog r (step_log r s t)
sound-log-step r s t v = go (log-stepped r s t)
  where
    c : Case
    c = s.stretch.case

    go : {u : LogState} → LogStepped r s t u → SoundLog r u
    go (unchanged x e) = v
    go (numbered x) =
        record { sound = sound-stepped v.sound (refuses x); both = v.both; under = v.under; start-now = v.start-now; join = v.join }
    go (in-stretch e o) =
        let k = sound-step r s.stretch t v.sound in
        let d = stepped_same (stepped r s.stretch t) in
        record {
          sound = k;
          both = record { first = rw (d.0, d.1) v.both.first; now = handed-step v.sound v.both.now t; bars = k.bars };
          under = v.under ∙ ap rules_of (sym d.0);
          start-now = now-stepped (stepped r s.stretch t) v.start-now;
          join = λ j e. absurd (none-some e);
        }
    go (link-leaves i b k m l) =
        let w₀ = s.stretch.starting in
        let w = s.stretch.weights in
        new-sound v.sound.rules s.stretch v.sound.few (left_by r c i w₀ w) (left-handed r c i w₀ w v.sound.shape l m v.sound.rules v.both)
        (left-kept r c i w₀ w v.sound.shape l m v.sound.kept)
        (if-cases (λ (u : WeightedCase). r ≡ rules_of u.case) (restarts r c i w₀ w) _ _ (λ y. v.under) (λ y. v.under))
    go (join-begins p b m f l) = record {
      sound = v.sound;
      both = v.both;
      under = v.under;
      start-now = v.start-now;
      join = λ j e. (b, subst (SoundJoin r c s.stretch.starting) (some_inj e) (begun-sound v.under v.both.first p m f l));
    }
    go (join-reads j due later dues l d e f) = record {
      sound = v.sound;
      both = v.both;
      under = v.under;
      start-now = v.start-now;
      join = λ i q. (
        (v.join j d).0,
        subst (SoundJoin r c s.stretch.starting) (some_inj q) (reads-sound v.under v.both.first (v.join j d).1 l e f (omega arith)),
      );
    }
    go (join-ends j due l d e f) = ends-sound v.under v.both.first (v.join j d).1 l e f refl v.sound.rules s.stretch v.sound.few
        s.stretch.weights v.both v.sound.kept

pub sound-log-after : (r : Rules) (s : LogState) (ts : List (List ℕ)) → SoundLog r s → SoundLog r (after_log r s ts)
sound-log-after r s [] v = v
sound-log-after r s (t ∷ ts) v = sound-log-after r (step_log r s t) ts (sound-log-step r s t v)

-- ---- what change 5 says of it

module _ {r : Rules} {s : LogState} (v : SoundLog r s) where
  -- "a lawful plan's working total plus carry is at least its starting total in the case as it then stands"
  pub log-kept : (p : List ℕ) → T (is_lawful s.stretch.case s.stretch.starting p)
      → objective s.stretch.case s.stretch.starting p ≤ℤ (objective s.stretch.case s.stretch.weights p +ℤ s.stretch.case.carry)
  log-kept = v.sound.kept

  pub log-bound : (p : List ℕ) → T (is_lawful s.stretch.case s.stretch.starting p)
      → objective s.stretch.case s.stretch.starting p ≤ℤ upper_bound s.stretch.case s.stretch.weights
  log-bound = bound-from v.sound

  -- a whole void line means that no lawful plan exists
  pub log-void : T s.stretch.void → (p : List ℕ) → T (is_lawful s.stretch.case s.stretch.starting p) → ⊥
  log-void = v.sound.none-lawful

  -- "the stretch's rounds number no more than the ceiling at its start, after the line that begins it, minus that starting total"
  pub stretch-rounds : T (between_rounds s.stretch) → (ts : List (List ℕ)) → T (one_stretch r s ts)
      → (p : List ℕ) → T (is_lawful s.stretch.case s.stretch.starting p)
      → (pos (after_log r s ts).stretch.rounds +ℤ objective s.stretch.case s.stretch.starting p)
      ≤ℤ (pos s.stretch.rounds +ℤ upper_bound s.stretch.case s.stretch.weights)
  stretch-rounds b ts o p a =
      let (d, e) = stretch-same r s ts o in
      let u = rw (d, e) at ((sound-log-after r s ts v).sound.under p (rw (d, e) a)) in
      u ▸ v.start-now b ▸ stretch-counted r s ts o ▸ simp flat (omega zs)

-- so it is of each stretch, from the line that begins it
pub begun-rounds : {r : Rules} {s : LogState} → SoundLog r s → (t : List ℕ) → T (begins_stretch r s t) → let u = (step_log r s t).stretch in
    (ts : List (List ℕ)) → T (one_stretch r (step_log r s t) ts) → (p : List ℕ) → T (is_lawful u.case u.starting p)
    → (pos (after_log r s (t ∷ ts)).stretch.rounds +ℤ objective u.case u.starting p) ≤ℤ (pos u.rounds +ℤ upper_bound u.case u.weights)
begun-rounds {r} {s} v t b = stretch-rounds (sound-log-step r s t v) (begins-between r s t b)
