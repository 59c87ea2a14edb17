use Prim.Native.Nat.{◌+◌}
use native.Mathlib.Omega.{arith}
use Rattle.definitions.specs.Case.{greatest}
use Rattle.tables.proofs.Best.{over-is}
use Rattle.tables.proofs.write_greatest.Goals as goal

pub returns : goal.returns
returns c = let a = c.args in
    over-is (greatest a.case a.table.now) (a.case.n + a.case.m) a.best.now (omega arith) c.loop-x.best c.loop-x.invariant.0
    (λ y h. c.loop-x.invariant.1 y (omega arith)) (λ y h. c.loop-x.invariant.2 y (omega arith))
