use mathlib.Core.Path.{sym, subst}
use native.Mathlib.Omega.{arith}
use Rattle.tables.specs.Scopes.{BestOf}
use Rattle.tables.proofs.Answered.{limits-known}
use Rattle.tables.proofs.Best.{greatest-known}
use Prim.Native.Nat.{◌+◌, ◌≤◌}
use mathlib.Core.List.{List}
use lib.IntN.{ℤ}
use lib.ListN.{length}
use Rattle.checker.proofs.blocks.prepare.Goals as goal

pub returns : goal.returns
returns c = let a = c.args in let h = c.requires.handed in
    let room : a.case.n + a.case.m ≤ length a.best.now = omega (arith, (limits-known h).scopes-placed, c.requires.best_len) in
    subst (λ (b : List ℤ). BestOf a.case a.table.now b) (sym c.greatest_weights.ensures.1) (greatest-known a.best.now h room).1
