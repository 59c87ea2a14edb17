use mathlib.Core.Path.{◌≡◌}
use mathlib.Core.List.{List}
use Prim.Native.Nat.{ℕ}
use lib.IntN.{ℤ}
use lib.ListN.{length}
use Rattle.definitions.specs.Rules.{rules_of}
use Rattle.definitions.specs.Valid.{working_weight}
use Rattle.theory.proofs.Validity.{Handed}
use Rattle.tables.specs.Scopes.{BestOf}
use Rattle.engine.proofs.Runs.{Going}
use Rattle.engine.proofs.run_checked.Given as goal

pub record Same (table₀ table : List ℤ) (out₀ out : List ℕ) (best₀ best : List ℤ) : Type 0 where
  pub tables : length table ≡ length table₀
  pub outs : length out ≡ length out₀
  pub bests : length best ≡ length best₀

abbrev pub invariant-loop-done : goal.invariant-loop-done
invariant-loop-done l =
    Same l.initial.table l.table l.initial.out l.out l.initial.best l.best × Handed (rules_of l.case) (working_weight (rules_of l.case)) l.case l.table × BestOf l.case l.table l.best
    × Going l.pairs l.case l.limit l.initial.table l.initial.out l.done l.table l.out
