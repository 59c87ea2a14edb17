-- The check of a case without a table: what is answered where a number applies, and what is known where none does; what the answers say of walks
-- (`acyclic-yes`, `acyclic-no`). Assumes nothing.
use mathlib.Core.Path.{◌≡◌, refl, sym, ap}
use mathlib.Core.Bool.{Bool, true, false}
use mathlib.Core.List.{◌∷◌}
use lib.Dec.{T_not}
use Rattle.std.specs.Prelude.{Ok, Err, Option, Some, None}
use Rattle.integers.specs.Tests.{tests, true-is, false-is}
use Rattle.definitions.specs.declared.Case.{Case}
use Rattle.definitions.specs.declared.Refusal.{Refusal}
use Rattle.definitions.specs.Rules.{rules_of}
use Rattle.definitions.specs.Refusals.{first_refusal}
use Rattle.definitions.specs.Answers.{outcome_of, answer_of}
use Rattle.definitions.specs.Valid.{limit_test, edge_tests}
use Rattle.definitions.specs.Graph.{Acyclic, is_acyclic}
use Rattle.calls.specs.Calls.{is_acyclic_answer}
use Rattle.theory.proofs.Words.{none_below}
use Rattle.theory.proofs.Shape.{Shape}
use Rattle.theory.proofs.Validity.{none-applies, not-and-iff}
use Rattle.graph_theory.proofs.Walks.{acyclic-iff}
use Rattle.tables.specs.Scopes.{Limited}
use Rattle.tables.proofs.Order.{limited-by, outcome-done, outcome-refused}

module _ (c : Case) where
  abbrev asked : Option Refusal
  asked = first_refusal (limit_test (rules_of c) c ∷ edge_tests (rules_of c) c false)

  pub acyclic-refused : {x : Refusal} → Err x ≡ outcome_of asked → Err x ≡ is_acyclic_answer (rules_of c) c
  unfolding is_acyclic_answer
  acyclic-refused {x} e = let d : asked ≡ Some x = outcome-refused e in rw d

  module _ (e : Ok tt ≡ outcome_of asked) where
    pub acyclic-given : {b : Bool} → b ≡ is_acyclic c → Ok b ≡ is_acyclic_answer (rules_of c) c
    unfolding is_acyclic_answer
    acyclic-given i = let d : asked ≡ None = outcome-done e in rw (d, i)

    pub checked : Shape c × Limited c
    checked =
        let d : asked ≡ None = outcome-done e in
        let p = simp (tests, not-and-iff, none_below) at ((none-applies (limit_test (rules_of c) c ∷ edge_tests (rules_of c) c false)).0 (rw d tt)) in (
          record {
            some-variable = p.0.0.0.0;
            some-value = p.0.0.1.0;
            ascending = p.1.1.0;
            below-n = λ e h. (p.1.0.1 e h).1;
          },
          limited-by c p.0.0.0.0 p.0.0.0.1 p.0.0.1.0 p.0.0.1.1 p.0.1.1,
        )

  -- ---- the answers speak of walks

  told : (o : Option Refusal) (b d : Bool) → answer_of o b ≡ Ok d → (o ≡ None) × (b ≡ d)
  told None true true q = (refl, refl)
  told None true false q = (refl, cc)
  told None false true q = (refl, cc)
  told None false false q = (refl, refl)
  told (Some x) b true q = (cc, cc)
  told (Some x) b false q = (cc, cc)

  pub acyclic-yes : is_acyclic_answer (rules_of c) c ≡ Ok true → Acyclic c
  unfolding is_acyclic_answer
  acyclic-yes q = let (d, e) = told asked (is_acyclic c) true q in (acyclic-iff c (checked (ap outcome_of (sym d))).0).0 (true-is (is_acyclic c) e)

  pub acyclic-no : is_acyclic_answer (rules_of c) c ≡ Ok false → Acyclic c → ⊥
  unfolding is_acyclic_answer
  acyclic-no q acyclic =
      let (d, e) = told asked (is_acyclic c) false q in
      T_not (is_acyclic c) (false-is (is_acyclic c) e) ((acyclic-iff c (checked (ap outcome_of (sym d))).0).1 acyclic)
