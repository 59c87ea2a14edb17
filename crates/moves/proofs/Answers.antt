-- A move after the check of what is handed over. Assumes nothing.
use Rattle.std.specs.Prelude.{Ok, Err}
use mathlib.Core.Path.{◌≡◌, sym, ap}
use mathlib.Core.List.{List, ◌++◌}
use lib.IntN.{ℤ}
use Rattle.definitions.specs.declared.Case.{Case}
use Rattle.definitions.specs.declared.Refusal.{Refusal}
use Rattle.definitions.specs.Rules.{Rules}
use Rattle.definitions.specs.Refusals.{Test, first_refusal}
use Rattle.definitions.specs.Answers.{outcome_of, unless_refused}
use Rattle.definitions.specs.Moves.{Move, moved}
use Rattle.calls.specs.Calls.{move_call}
use Rattle.tables.proofs.Order.{outcome-done, outcome-refused, first_next, first_stops}

module _ (r : Rules) (c : Case) (w : List ℤ) (move : Move) (tests rest : List Test) where
  module _ {x : Refusal} (e : Err x ≡ outcome_of (first_refusal tests)) where
    pub refused-answer : Err x ≡ (move_call r c w move (tests ++ rest)).answer
    refused-answer = ap outcome_of (sym (first_stops rest tests (outcome-refused e)))

    pub refused-table : w ≡ (move_call r c w move (tests ++ rest)).table
    refused-table = ap (λ o. unless_refused o (moved c move w) w) (sym (first_stops rest tests (outcome-refused e)))

  module _ (e : Ok tt ≡ outcome_of (first_refusal tests)) where
    pub next-answer : (move_call r c w move rest).answer ≡ (move_call r c w move (tests ++ rest)).answer
    next-answer = ap outcome_of (sym (first_next rest tests (outcome-done e)))

    pub next-table : (move_call r c w move rest).table ≡ (move_call r c w move (tests ++ rest)).table
    next-table = ap (λ o. unless_refused o (moved c move w) w) (sym (first_next rest tests (outcome-done e)))
