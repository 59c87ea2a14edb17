-- The checker's promise holds for every valid case and every list of byte strings, whoever wrote them. Assumes nothing.
use Rattle.std.specs.Prelude.{Ok, Option, Some, None}
use mathlib.Core.Path.{◌≡◌, refl, sym, ap, subst, ◌∙◌}
use mathlib.Core.Bool.{Bool, true, false}
use mathlib.Core.Logic.{◌↔◌}
use mathlib.Core.List.{List, map}
use Prim.Native.Nat.{ℕ}
use native.Mathlib.Omega.{arith}
use lib.IntN.{ℤ}
use lib.Dec.{T}
use Rattle.integers.specs.Linear.{flat, zs, ◌▸◌}
use Rattle.integers.specs.Lists.{map-map, map-cong}
use Rattle.definitions.specs.declared.Case.{Case}
use Rattle.definitions.specs.declared.Refusal.{Refusal}
use Rattle.definitions.specs.Rules.{Rules, Coherent, coherent, rules_of}
use Rattle.definitions.specs.Answers.{outcome_of, outcome_says, figure_says, answer_of}
use Rattle.definitions.specs.Case.{upper_bound}
use Rattle.definitions.specs.Valid.{working_weight, valid}
use Rattle.calls.specs.Calls.{upper_bound_answer}
use Rattle.definitions.specs.Replay.{Held, fresh, after, answers, at_end, keeps_rules}
use Rattle.checker.specs.declared.Due.{Due}
use Rattle.checker.specs.Checker.{Between, is_void, end_replay, after_lines, line_answers}
use Rattle.theory.proofs.Validity.{Handed}
use Rattle.theory.proofs.ShiftLogs.{lines-kept}
use Rattle.theory.proofs.Replays.{handed-after, case-after, total_kept, bound-sound, rounds-few, void-sound, accepted-iff, keeps-iff}
use Rattle.checker_promise.specs.Lists.{begun, Accepted, number_says, ReplayTrusted}
use Rattle.checker_promise.proofs.Agrees.{due_of, Agrees}
use Rattle.checker_promise.proofs.Folds.{handed-unrefused, agrees-fresh, fold-agrees, answers_agree, end-agrees}

-- the library's upper bound of a table that every call takes
bound-answered : {r : Rules} (c : Case) (v : List ℤ) → Handed r (working_weight r) c v → upper_bound_answer r c v ≡ Ok (upper_bound c v)
unfolding upper_bound_answer
bound-answered {r} c v h = ap (λ (o : Option Refusal). answer_of o (upper_bound c v))
    (handed-unrefused h)

outcome-says : (o : Option Refusal) → outcome_says (outcome_of o) ≡ number_says o
outcome-says None = refl
outcome-says (Some x) = refl

done_none : (o : Option Refusal) → outcome_of o ≡ Ok tt → o ≡ None
done_none None e = refl
done_none (Some x) e = cc

nothing-void : (v : Bool) (h : Option Held) → due_of v h ≡ Due.Nothing ↔ T v
nothing-void true h = (λ e. tt, λ t. refl)
nothing-void false None = (λ e. let z : ◌≡◌ {A = ℕ} 0 1 = cc in absurd (omega arith), λ t. absurd t)
nothing-void false (Some h) = (λ e. let z : ◌≡◌ {A = ℕ} 0 1 = cc in absurd (omega arith), λ t. absurd t)

over-due : (v : Bool) (h : Option Held) → is_void (due_of v h) ≡ v
over-due true h = refl
over-due false None = refl
over-due false (Some h) = refl

module _ {r : Rules} (coherent : Coherent r) (c : Case) (w : List ℤ) (t : T (valid r c w)) where
  module _ (ts : List (List ℕ)) where
    there : Agrees r (after r (fresh c w) ts) (after_lines r (begun r c w) ts)
    there = fold-agrees (agrees-fresh coherent c w t) ts

    pub answers-are : line_answers r (begun r c w) ts ≡ map outcome_of (answers r (fresh c w) ts)
    answers-are = answers_agree (agrees-fresh coherent c w t) ts

    pub end_is : end_replay r c (after_lines r (begun r c w) ts).replay ≡ outcome_of (at_end (after r (fresh c w) ts))
    end_is =
        subst (λ (d : Case). end_replay r d (after_lines r (begun r c w) ts).replay ≡ outcome_of (at_end (after r (fresh c w) ts)))
        (ap (λ (b : Between). b.case) there.same ∙ case-after r (fresh c w) ts) (end-agrees there)

    pub weights-are : (after_lines r (begun r c w) ts).table ≡ (after r (fresh c w) ts).weights
    weights-are = ap (λ (b : Between). b.table) there.same

    pub rounds-are : (after_lines r (begun r c w) ts).replay.rounds ≡ (after r (fresh c w) ts).rounds
    rounds-are = ap (λ (b : Between). b.replay.rounds) there.same

    pub void-told : is_void (after_lines r (begun r c w) ts).replay.due ≡ (after r (fresh c w) ts).void
    void-told = ap (λ (b : Between). is_void b.replay.due) there.same ∙ over-due (after r (fresh c w) ts).void (after r (fresh c w) ts).held

    void-is : (after_lines r (begun r c w) ts).replay.due ≡ Due.Nothing ↔ T (after r (fresh c w) ts).void
    void-is = subst (λ (d : Due). d ≡ Due.Nothing ↔ T (after r (fresh c w) ts).void) (sym (ap (λ (b : Between). b.replay.due) there.same))
        (nothing-void (after r (fresh c w) ts).void (after r (fresh c w) ts).held)

    accepts : Accepted r c w ts ↔ T (keeps_rules r c w ts)
    accepts = (
      λ a. (keeps-iff r c w ts).1 (done_none (at_end (after r (fresh c w) ts)) (sym end_is ∙ a.end)),
      λ k.
          let e = (keeps-iff r c w ts).0 k in
          record {
            each = answers-are ∙ ap (map outcome_of) ((accepted-iff r c w ts).0 e).0 ∙ map-map outcome_of (λ t. None) ts;
            end = end_is ∙ ap outcome_of e;
          },
    )

    says-are : map outcome_says (line_answers r (begun r c w) ts) ≡ map number_says (answers r (fresh c w) ts)
    says-are =
        ap (map outcome_says) answers-are ∙ map-map outcome_says outcome_of (answers r (fresh c w) ts)
        ∙ map-cong (answers r (fresh c w) ts) (λ o m. outcome-says o)

  pub replay-trusted : ReplayTrusted r c w
  replay-trusted ts = record {
    each-answer = says-are ts;
    end-answer = ap outcome_says (end_is ts) ∙ outcome-says (at_end (after r (fresh c w) ts));
    weights = weights-are ts;
    bound =
        ap (λ (v : List ℤ). figure_says (upper_bound_answer r c v)) (weights-are ts)
        ∙ ap figure_says (bound-answered c (after r (fresh c w) ts).weights (handed-after coherent c w t ts));
    rounds = rounds-are ts;
    accepted = accepts ts;
    total-least = λ p a. rw (weights-are ts) (total_kept coherent c w t ts p a);
    total-same = λ n p a. rw (weights-are ts) (lines-kept coherent c w t ts n p a);
    bound-least = λ p a. rw (weights-are ts) (bound-sound coherent c w t ts p a);
    void-due = void-is ts;
    none-lawful = λ e. void-sound coherent c w t ts ((void-is ts).0 e);
    rounds-most = λ p a. rw (rounds-are ts) (rounds-few coherent c w t ts p a ▸ simp flat (omega zs));
  }

-- by the rules of the case
pub rules-trusted : (c : Case) (w : List ℤ) → T (valid (rules_of c) c w) → ReplayTrusted (rules_of c) c w
rules-trusted c = replay-trusted (coherent c.rulebook) c
