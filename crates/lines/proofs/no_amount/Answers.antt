use Prim.Native.Nat.{◌-◌}
use native.Mathlib.Omega.{arith}
use Rattle.integers.specs.Tests.{tests, is_true}
use Rattle.lines.proofs.RaiseTexts.{zero-column}
use Rattle.lines.proofs.no_amount.Goals as goal

pub returns : goal.returns
returns c = λ e. let l = c.loop-i in let (b, w) = simp tests at e in
    zero-column c.args.t.now c.word-2.ensures 14 (c.args.end - 14) (l.invariant.1 (is_true l.blank b)) (omega (arith, c.loop-i-test.false))
    (omega (arith, c.requires)) (omega (arith, c.requires)) (omega (arith, c.requires)) w
