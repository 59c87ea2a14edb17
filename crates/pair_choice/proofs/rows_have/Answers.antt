use mathlib.Core.Path.{sym, ◌∙◌}
use Prim.Native.Nat.{◌+◌, ◌*◌}
use native.Mathlib.Omega.{arith}
use Rattle.definitions.specs.Rules.{rules_in}
use Rattle.tables.proofs.Search.{found, not_found}
use Rattle.pair_choice.specs.PairChoice.{row_has}
use Rattle.pair_choice.proofs.rows_have.Goals as goal

pub returns-then-row_has : goal.returns-then-row_has
returns-then-row_has c =
    let a = c.args in
    found (λ k. row_has (rules_in a.rulebook) a.table.now a.asked (a.lower + k) a.upper (a.at + k * a.d) a.d) a.d c.loop-k.k (omega arith)
    (sym c.row_has.ensures ∙ c.if-row_has.true)

pub returns : goal.returns
returns c =
    let a = c.args in
    not_found (λ k. row_has (rules_in a.rulebook) a.table.now a.asked (a.lower + k) a.upper (a.at + k * a.d) a.d) a.d
    (λ k h. c.loop-k.invariant k (omega arith))
