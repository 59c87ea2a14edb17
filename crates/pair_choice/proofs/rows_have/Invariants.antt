use mathlib.Core.Path.{◌≡◌}
use mathlib.Core.Bool.{false}
use Prim.Native.Nat.{ℕ, ◌+◌, ◌*◌, ◌<◌}
use Rattle.definitions.specs.Rules.{rules_in}
use Rattle.pair_choice.specs.PairChoice.{row_has}
use Rattle.pair_choice.proofs.rows_have.Given as goal

abbrev pub invariant-loop-k : goal.invariant-loop-k
invariant-loop-k l =
    ((j : ℕ) → j < l.k → row_has (rules_in l.rulebook) l.table l.asked (l.lower + j) l.upper (l.at + j * l.d) l.d ≡ false)
