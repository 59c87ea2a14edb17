use mathlib.Core.Path.{◌≡◌}
use mathlib.Core.Bool.{false}
use Prim.Native.Nat.{ℕ, ◌+◌, ◌<◌}
use Rattle.definitions.specs.Rules.{rules_in}
use Rattle.pair_choice.specs.PairChoice.{is_asked, at_place}
use Rattle.pair_choice.proofs.row_has.Given as goal

abbrev pub invariant-loop-l : goal.invariant-loop-l
invariant-loop-l l =
    ((j : ℕ) → j < l.l → is_asked (rules_in l.rulebook) l.asked (at_place l.table l.own) (at_place l.table (l.upper + j)) (at_place l.table (l.row + j)) ≡ false)
