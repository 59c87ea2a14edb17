use mathlib.Core.Path.{◌≡◌}
use mathlib.Core.Bool.{false}
use Prim.Native.Nat.{ℕ, ◌<◌}
use Rattle.definitions.specs.Rules.{rules_of}
use Rattle.pair_choice.specs.PairChoice.{takes_pair}
use Rattle.pair_choice.proofs.lowest_in.Given as goal

abbrev pub invariant-loop-e : goal.invariant-loop-e
invariant-loop-e l =
    (j : ℕ) → j < l.e → takes_pair (rules_of l.case) l.case l.table l.best l.acts l.rows j ≡ false
