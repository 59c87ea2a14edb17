use native.Mathlib.Omega.{arith}
use Rattle.lines.proofs.Stores.{more-digits}
use Rattle.lines.proofs.digit_count.Goals as goal

pub loop-rest-preserved : goal.loop-rest-preserved
loop-rest-preserved c = omega (arith, more-digits c.loop-rest.rest c.loop-rest-test.true)
