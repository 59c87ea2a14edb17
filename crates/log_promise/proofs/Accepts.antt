-- The checker's promise holds for every valid case and every list of byte strings, whoever wrote them. Assumes nothing.
use Rattle.std.specs.Prelude.{Ok, Option, Some, None}
use mathlib.Core.Path.{◌≡◌, refl, sym, ap, subst, ◌∙◌}
use mathlib.Core.Bool.{Bool, true, false, not, ◌&&◌}
use mathlib.Core.Logic.{◌↔◌}
use mathlib.Core.List.{List, [], ◌∷◌, ◌++◌, map}
use Prim.Native.Nat.{ℕ}
use native.Mathlib.Omega.{arith}
use lib.IntN.{ℤ}
use lib.Dec.{T}
use Rattle.integers.specs.Tests.{not-or-iff, is_false}
use Rattle.integers.specs.Options.{none-some}
use Rattle.integers.specs.Linear.{flat, zs, ◌▸◌}
use Rattle.integers.specs.Lists.{map-map, map-cong}
use Rattle.definitions.specs.declared.Case.{Case}
use Rattle.definitions.specs.declared.Refusal.{Refusal}
use Rattle.definitions.specs.Rules.{Rules, coherent, rules_of}
use Rattle.definitions.specs.Answers.{outcome_of, outcome_says, figure_says, answer_of}
use Rattle.definitions.specs.Case.{own_length, upper_bound}
use Rattle.definitions.specs.CaseFiles.{zeroed_from}
use Rattle.definitions.specs.Lines.{read_line}
use Rattle.definitions.specs.Valid.{working_weight, valid}
use Rattle.calls.specs.Calls.{upper_bound_answer}
use Rattle.definitions.specs.Replay.{Held, State, fresh, step, after}
use Rattle.logs.specs.Logs.{LogState, in_stretch, fresh_log, between_rounds, step_log, after_log, log_answers, log_end, keeps_log_rules}
use Rattle.logs.specs.Logs.{at_stretch, some_link}
use Rattle.checker.specs.declared.Due.{Due}
use Rattle.checker.specs.Checker.{is_void}
use Rattle.log_checker.specs.Checker.{Between, end_replay, after_lines, line_answers}
use Rattle.theory.proofs.Validity.{Handed, valid-carry}
use Rattle.theory.proofs.ShiftLogs.{lines-kept}
use Rattle.theory.proofs.Replays.{none-iff}
use Rattle.log_theory.proofs.LogSteps.{moves_link, step_same, log-no-number}
use Rattle.log_theory.proofs.Stretches.{begins-between, stretch-same}
use Rattle.log_theory.proofs.SoundLogs.{log-kept, log-bound, log-void, stretch-rounds}
use Rattle.log_promise.specs.Lists.{begun, Accepted, number_says, plainly, ReplayTrusted}
use Rattle.checker_promise.proofs.Agrees.{due_of}
use Rattle.checker_promise.proofs.Folds.{handed-unrefused}
use Rattle.log_promise.proofs.LogAgrees.{AgreesLog, agrees-fresh, fold-agrees, answers_agree, end-agrees, end-starting}

-- the library's upper bound of a table that every call takes
bound-answered : {r : Rules} (c : Case) (v : List ℤ) → Handed r (working_weight r) c v → upper_bound_answer r c v ≡ Ok (upper_bound c v)
unfolding upper_bound_answer
bound-answered {r} c v h = ap (λ (o : Option Refusal). answer_of o (upper_bound c v)) (handed-unrefused h)

outcome-says : (o : Option Refusal) → outcome_says (outcome_of o) ≡ number_says o
outcome-says None = refl
outcome-says (Some x) = refl

done_none : (o : Option Refusal) → outcome_of o ≡ Ok tt → o ≡ None
done_none None e = refl
done_none (Some x) e = cc

nothing-void : (v : Bool) (h : Option Held) → due_of v h ≡ Due.Nothing ↔ T v
nothing-void true h = (λ e. tt, λ t. refl)
nothing-void false None = (λ e. let z : ◌≡◌ {A = ℕ} 0 1 = cc in absurd (omega arith), λ t. absurd t)
nothing-void false (Some h) = (λ e. let z : ◌≡◌ {A = ℕ} 0 1 = cc in absurd (omega arith), λ t. absurd t)

over-due : (v : Bool) (h : Option Held) → is_void (due_of v h) ≡ v
over-due true h = refl
over-due false None = refl
over-due false (Some h) = refl

-- ---- lists of lines

module _ (r : Rules) where
  after-append : (s : LogState) (us vs : List (List ℕ)) → after_log r s (us ++ vs) ≡ after_log r (after_log r s us) vs
  after-append s [] vs = refl
  after-append s (u ∷ us) vs = after-append (step_log r s u) us vs

  -- a stretch begins between rounds
  at-between : (s : LogState) → T (between_rounds s.stretch) → (us : List (List ℕ)) → T (at_stretch r s us) → T (between_rounds (after_log r s us).stretch)
  at-between s b [] t = b
  at-between s b (u ∷ []) t = begins-between r s u t
  at-between s b (u ∷ v ∷ us) t = go (step_log r s u) v us t
    where
      go : (s : LogState) (v : List ℕ) (us : List (List ℕ)) → T (at_stretch r s (v ∷ us)) → T (between_rounds (after_log r s (v ∷ us)).stretch)
      go s v [] t = begins-between r s v t
      go s v (u ∷ us) t = go (step_log r s v) u us t

  -- a list with no line of kind 7 or 8 is one of a stretch
  pub unlinked : (s : State) (ts : List (List ℕ)) → T (not (some_link r ts)) → after_log r (in_stretch s) ts ≡ in_stretch (after r s ts)
  unlinked s [] n = refl
  unlinked s (t ∷ ts) n =
      let (a, b) = (not-or-iff (moves_link (read_line r.amount_width t)) (some_link r ts)).0 n in
      let e : step_log r (in_stretch s) t ≡ in_stretch (step r s t) =
      step_same r s t (rw (is_false (moves_link (read_line r.amount_width t)) a) (never (between_rounds s))) in
      ap (λ (u : LogState). after_log r u ts) e ∙ unlinked (step r s t) ts b
    where
      never : (b : Bool) → T (not (b && false))
      never true = tt
      never false = tt

-- no number at the end: none before it
end_none : (s : LogState) → log_end s ≡ None → s.stretch.refusal ≡ None
end_none s e = go s.stretch.refusal refl
  where
    go : (o : Option Refusal) → s.stretch.refusal ≡ o → s.stretch.refusal ≡ None
    go None d = d
    go (Some x) d = let f : log_end s ≡ Some x = rw d in absurd (none-some (sym e ∙ f))

module _ (c : Case) (w : List ℤ) (t : T (valid (rules_of c) c w)) where
  abbrev r : Rules
  r = rules_of c

  module _ (ts : List (List ℕ)) where
    abbrev left : LogState
    left = after_log r (fresh_log c w) ts

    abbrev reached : Between
    reached = after_lines r (begun r c w) ts

    pub there : AgreesLog r left reached
    there = fold-agrees (agrees-fresh c w t) ts

    pub answers-are : line_answers r (begun r c w) ts ≡ map outcome_of (log_answers r (fresh_log c w) ts)
    answers-are = answers_agree (agrees-fresh c w t) ts

    pub end_is : (end_replay r reached).answer ≡ outcome_of (log_end left)
    end_is = end-agrees there

    pub case-is : reached.case ≡ left.stretch.case
    case-is = ap (λ (b : Between). b.case) there.same

    pub weights-are : reached.table ≡ left.stretch.weights
    weights-are = ap (λ (b : Between). b.table) there.same

    starting-are : zeroed_from (own_length reached.case) reached.starting ≡ left.stretch.starting
    starting-are = ap (λ (b : Between). zeroed_from (own_length b.case) b.starting) there.same ∙ there.parts.starting

    pub rounds-are : reached.replay.stretch.rounds ≡ left.stretch.rounds
    rounds-are = ap (λ (b : Between). b.replay.stretch.rounds) there.same

    pub void-told : is_void reached.replay.stretch.due ≡ left.stretch.void
    void-told = ap (λ (b : Between). is_void b.replay.stretch.due) there.same ∙ over-due left.stretch.void left.stretch.held

    void-is : reached.replay.stretch.due ≡ Due.Nothing ↔ T left.stretch.void
    void-is = subst (λ (d : Due). d ≡ Due.Nothing ↔ T left.stretch.void) (sym (ap (λ (b : Between). b.replay.stretch.due) there.same))
        (nothing-void left.stretch.void left.stretch.held)

    accepts : Accepted r c w ts ↔ T (keeps_log_rules r c w ts)
    accepts = (
      λ a. (none-iff (log_end left)).1 (done_none (log_end left) (sym end_is ∙ a.end)),
      λ k.
          let e = (none-iff (log_end left)).0 k in
          record {
            each = answers-are ∙ ap (map outcome_of) ((log-no-number r (fresh_log c w) ts).0 (end_none left e)).1 ∙ map-map outcome_of (λ t. None) ts;
            end = end_is ∙ ap outcome_of e;
          },
    )

    says-are : map outcome_says (line_answers r (begun r c w) ts) ≡ map number_says (log_answers r (fresh_log c w) ts)
    says-are =
        ap (map outcome_says) answers-are ∙ map-map outcome_says outcome_of (log_answers r (fresh_log c w) ts)
        ∙ map-cong (log_answers r (fresh_log c w) ts) (λ o m. outcome-says o)

  pub replay-trusted : ReplayTrusted r c w
  replay-trusted ts =
      let v = (there ts).sound in
      let s = plainly r c w ts in
      record {
        each-answer = says-are ts;
        end-answer = ap outcome_says (end_is ts) ∙ outcome-says (log_end (left ts));
        case = case-is ts;
        starting = starting-are ts;
        starting-refused = λ x e. ap (λ (b : Between). b.starting) (there ts).same ∙ (there ts).parts.cleared x e;
        starting-end = end-starting (there ts);
        weights = weights-are ts;
        bound = rw (case-is ts, weights-are ts) (ap figure_says (bound-answered s.case s.weights v.both.now));
        rounds = rounds-are ts;
        accepted = accepts ts;
        total-least = log-kept v;
        bound-least = log-bound v;
        rounds-most = λ us vs e a one p l.
            let u = left us in
            let joined : after_log r u vs ≡ left ts = sym (after-append r (fresh_log c w) us vs) ∙ ap (after_log r (fresh_log c w)) (sym e) in
            let (d, f) = stretch-same r u vs one in
            let case : s.case ≡ u.stretch.case = sym (ap (λ (x : LogState). x.stretch.case) joined) ∙ d in
            let starts : s.starting ≡ u.stretch.starting = sym (ap (λ (x : LogState). x.stretch.starting) joined) ∙ f in
            let q = stretch-rounds (there us).sound (at-between r (fresh_log c w) tt us a) vs one p (rw (← case, ← starts) l) in
            rw (rounds-are ts, ← joined, case, starts) (q ▸ simp flat (omega zs));
        first-stretch = λ one. let (d, e) = stretch-same r (fresh_log c w) ts one in (d, e, ap (λ (c : Case). c.carry) d ∙ valid-carry r c w t);
        total-same = λ n m p a. rw (weights-are ts, unlinked r (fresh c w) ts m) (lines-kept (coherent c.rulebook) c w t ts n p a);
        void-due = void-is ts;
        none-lawful = λ e. log-void v ((void-is ts).0 e);
      }
