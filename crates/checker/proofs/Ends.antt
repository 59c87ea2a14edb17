-- The numbers of a fresh record and of the end, and a record that is whole. Assumes nothing.
use Rattle.std.specs.Prelude.{Result, Ok, Err, Option, Some, None, ⊤}
use mathlib.Core.Path.{◌≡◌, sym, ap, ◌∙◌}
use mathlib.Core.Bool.{Bool, true, false}
use mathlib.Core.List.{List, [], ◌∷◌}
use lib.IntN.{ℤ, pos}
use Rattle.definitions.specs.declared.Case.{Case}
use Rattle.definitions.specs.declared.Refusal.{Refusal}
use Rattle.definitions.specs.declared.Refusal.TheVariants.{CutShort}
use Rattle.definitions.specs.Rules.{coherent, rules_of}
use Rattle.definitions.specs.Refusals.{Test, ◌when◌, first_refusal}
use Rattle.definitions.specs.Answers.{outcome_of}
use Rattle.definitions.specs.Case.{upper_bound}
use Rattle.definitions.specs.Valid.{starting_weight, working_weight, limit_test, edge_tests, handed_over}
use Rattle.theory.proofs.Validity.{Handed, handed, working-handed}
use Rattle.theory.proofs.Replays.{none-iff}
use Rattle.tables.specs.Scopes.{greatest_sum}
use Rattle.tables.proofs.Order.{outcome-done, outcome-refused, first_next, first_stops}
use Rattle.tables.proofs.Answered.{greatest-sum-known}
use Rattle.checker.specs.declared.Replay.{Replay}
use Rattle.checker.specs.declared.Progress.{Progress}
use Rattle.checker.specs.Checker.{is_short, fresh_of, record_out, fresh_replay, ending_tests}
use Rattle.checker.specs.Taken.{good_replay, fresh_from}

-- ---- a fresh record

module _ (c : Case) (w : List ℤ) where
  abbrev asked : Option Refusal
  asked = first_refusal (handed_over (rules_of c) (starting_weight (rules_of c)) c w false false)

  pub fresh-refused : {x : Refusal} → Err x ≡ outcome_of asked → fresh_of (Some x) (pos 0) ≡ fresh_replay (rules_of c) c w
  unfolding fresh_replay
  fresh-refused {x} e = let d : asked ≡ Some x = outcome-refused e in ap (λ (o : Option Refusal). fresh_of o (upper_bound c w)) (sym d)

  module _ (e : Ok tt ≡ outcome_of asked) where
    pub fresh-handed : Handed (rules_of c) (working_weight (rules_of c)) c w
    fresh-handed =
        let h = ((handed (rules_of c) (starting_weight (rules_of c)) c w false false).0 ((none-iff asked).1 (outcome-done e))).0 in
        working-handed (coherent c.rulebook) h

    pub fresh-good : fresh_from (greatest_sum (rules_of c) c w) ≡ fresh_replay (rules_of c) c w
    unfolding fresh_replay
    fresh-good =
        let n : asked ≡ None = outcome-done e in
        ap fresh_from (greatest-sum-known fresh-handed) ∙ ap (λ (o : Option Refusal). fresh_of o (upper_bound c w)) (sym n)

-- ---- the end

module _ (c : Case) (p : Replay) {out : Bool} {r : Result ⊤ Refusal} (o : out ≡ record_out (rules_of c) c p)
    (e : r ≡ outcome_of (first_refusal (limit_test (rules_of c) c ∷ edge_tests (rules_of c) c out))) where
  abbrev front : List Test
  front = limit_test (rules_of c) c ∷ edge_tests (rules_of c) c (record_out (rules_of c) c p)

  abbrev cut : List Test
  cut = CutShort when (is_short p.due p.moved) ∷ []

  answered : r ≡ outcome_of (first_refusal front)
  answered = e ∙ ap (λ (b : Bool). outcome_of (first_refusal (limit_test (rules_of c) c ∷ edge_tests (rules_of c) c b))) o

  pub end-stopped : {x : Refusal} → r ≡ Err x → Err x ≡ outcome_of (first_refusal (ending_tests (rules_of c) c p))
  end-stopped d = ap outcome_of (sym (first_stops cut front (outcome-refused (sym d ∙ answered))))

  module _ (d : r ≡ Ok tt) where
    next : outcome_of (first_refusal cut) ≡ outcome_of (first_refusal (ending_tests (rules_of c) c p))
    next = ap outcome_of (sym (first_next cut front (outcome-done (sym d ∙ answered))))

    pub end-cut : (is_short p.due p.moved) ≡ true → Err CutShort ≡ outcome_of (first_refusal (ending_tests (rules_of c) c p))
    end-cut b = ap (λ (k : Bool). outcome_of (first_refusal (CutShort when k ∷ []))) (sym b) ∙ next

    pub end-done : (is_short p.due p.moved) ≡ false → Ok tt ≡ outcome_of (first_refusal (ending_tests (rules_of c) c p))
    end-done b = ap (λ (k : Bool). outcome_of (first_refusal (CutShort when k ∷ []))) (sym b) ∙ next

-- ---- the parts of a record that stands good make it whole

abbrev pub parts_of : Replay → Progress
parts_of p = record { rounds = p.rounds; start = p.start; moved = p.moved; due = p.due }

pub whole_again : (p : Replay) {q : Progress} → p.standing ≡ Ok tt → q ≡ parts_of p → good_replay q p.raised ≡ p
whole_again p g e =
    ap (λ (q : Progress). good_replay q p.raised) e
    ∙ ap (λ (s : Result ⊤ Refusal). record { rounds = p.rounds; start = p.start; moved = p.moved; raised = p.raised; due = p.due; standing = s }) (sym g)
