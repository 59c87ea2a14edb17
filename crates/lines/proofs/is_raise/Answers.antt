use Prim.Native.Nat.{◌-◌}
use native.Mathlib.Omega.{arith}
use lib.ListN.{length}
use Rattle.integers.specs.Tests.{tests, is_true}
use Rattle.lines.proofs.RaiseTexts.{raise-text}
use Rattle.lines.proofs.is_raise.Goals as goal

pub returns : goal.returns
returns c = λ e. let t = c.args.t.now in
    let ((((((k, l), m), b), g), d), n) = simp tests at e in
    raise-text t c.requires c.word.ensures c.word-2.ensures (length t - 1) (omega (arith, c.requires))
    k l m b g (c.no_amount.ensures (is_true c.no_amount.result d)) n
