use Rattle.std.specs.Prelude.{Result, ⊤}
use Rattle.definitions.specs.declared.Refusal.{Refusal}
use mathlib.Core.Path.{◌≡◌, sym, ap, ap₂, ◌∙◌}
use mathlib.Core.Bool.{Bool, not}
use mathlib.Core.List.{List, [], ◌∷◌}
use lib.IntN.{ℤ, pos}
use mir.Syntax.{w64}
use Rattle.integers.specs.Words.{minus}
use Rattle.integers.specs.Linear.{read_back}
use Rattle.definitions.specs.declared.Case.{Case}
use Rattle.definitions.specs.declared.Refusal.TheVariants.{WeightOutOfRange}
use Rattle.definitions.specs.Rules.{rules_of}
use Rattle.definitions.specs.Refusals.{◌when◌, first_refusal}
use Rattle.definitions.specs.Answers.{outcome_of}
use Rattle.definitions.specs.Case.{own_length}
use Rattle.definitions.specs.Valid.{starting_weight, working_weight, all_weights, zeros_from, same_bars, scope_test}
use Rattle.tables.specs.Scopes.{tuple_tests}
use Rattle.tables.specs.Both.{is_first}
use Rattle.tables.proofs.Paired.{rest-asked}
use Rattle.tables.proofs.both.both_outcome.Goals as goal
use Rattle.tables.proofs.both.both_outcome.Goals.{After-is_first}

-- src/lib.rt:415:9
-- whether the starting weights pass
first : (c : After-is_first) → let a = c.args in
    c.is_first.result ≡ is_first (minus (rules_of a.case).starting) (pos (rules_of a.case).starting) a.case a.starting.now a.table.now
first c =
    let a = c.args in
    let low = c.least_starting-low in
    let high = c.most_starting-high in
    c.is_first.ensures ∙ ap₂ (λ (x y : ℤ). is_first x y a.case a.starting.now a.table.now)
    (read_back w64 low.result low.type_inv ∙ low.ensures) (read_back w64 high.result high.type_inv ∙ high.ensures)

-- the tests, by whether all weights are as they should be
asked : Case → List ℤ → Bool → Result ⊤ Refusal
asked c w b = outcome_of (first_refusal (WeightOutOfRange when (not b) ∷ scope_test c w ∷ []))

pub returns-then-is_first : goal.returns-then-is_first
unfolding asked
returns-then-is_first c =
    let a = c.args in
    let r = rules_of a.case in
    let own = own_length a.case in
    let low = c.least_working-least in
    let high = c.most_working-most in
    c.weight_outcome.ensures
    ∙ ap₂ (λ (x y : ℤ). outcome_of (first_refusal (tuple_tests a.case a.table.now x y)))
    (read_back w64 low.result low.type_inv ∙ low.ensures) (read_back w64 high.result high.type_inv ∙ high.ensures)
    ∙ ap (asked a.case a.table.now)
    (rest-asked (all_weights (starting_weight r) a.case a.starting.now) (zeros_from own a.starting.now)
    (all_weights (working_weight r) a.case a.table.now) (zeros_from own a.table.now)
    (same_bars a.case a.starting.now a.table.now) (sym (first (goal.at.returns-then-is_first c).After-is_first) ∙ c.if-is_first.true))
