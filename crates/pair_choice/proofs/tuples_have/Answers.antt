use mathlib.Core.Path.{ap₂, ◌∙◌}
use Prim.Native.Nat.{ℕ, ◌+◌, ◌*◌}
use Rattle.definitions.specs.Rules.{rules_of}
use Rattle.pair_choice.specs.PairChoice.{rows_have}
use Rattle.pair_choice.proofs.Ranges.{tuples-placed}
use Rattle.pair_choice.proofs.tuples_have.Goals as goal

pub returns : goal.returns
returns c =
    let a = c.args in
    let at : ℕ = a.case.n * a.case.d + a.edge * (a.case.d * a.case.d) in
    c.rows_have.ensures
    ∙ ap₂ (λ (i j : ℕ). rows_have (rules_of a.case) a.table.now a.asked (i * a.case.d) (j * a.case.d) at a.case.d)
    c.from.ensures c.from-2.ensures
    ∙ tuples-placed (rules_of a.case) a.case a.table.now a.asked a.edge c.requires.2
