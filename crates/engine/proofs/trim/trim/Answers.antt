use mathlib.Core.Path.{refl, ◌∙◌}
use Prim.Native.Nat.{◌<◌}
use native.Mathlib.Omega.{arith}
use lib.ListN.{length, set}
use Rattle.integers.specs.Tests.{is_true}
use Rattle.press_theory.proofs.Trim.{chosen-some}
use Rattle.engine.proofs.Choice.{lowered-one, others-refuted}
use Rattle.engine.proofs.trim.trim.Goals as goal

pub returns : goal.returns
returns c = λ w p all e.
    let a = c.args in
    let long : a.variable < length a.raised.now = omega (arith, c.requires) in
    let o = lowered-one a.case a.raised.now all a.variable long {after = set a.raised.now a.variable 0} refl in
    c.drop_scopes.ensures w p o
    (c.renew.ensures w p
    (others-refuted a.case w a.variable (set a.raised.now a.variable 0) o ∙ is_true _ (chosen-some a.case w e).1))
