use mathlib.Core.Path.{sym, ◌∙◌}
use native.Mathlib.Omega.{arith}
use Rattle.lines.proofs.Steps.{digits-end, below-most}
use Rattle.lines.proofs.positive.Goals as goal

pub overflow_mul-v : goal.overflow_mul-v
overflow_mul-v c =
    omega (arith, below-most c.loop-b.v c.loop-b.b-index 17 (omega arith) c.loop-b.invariant.1)

pub overflow_add-v : goal.overflow_add-v
overflow_add-v c =
    omega (arith, below-most c.loop-b.v c.loop-b.b-index 17 (omega arith) c.loop-b.invariant.1)

pub returns : goal.returns
returns c =
    let l = c.loop-b in (
      sym (l.invariant.0 ∙ digits-end c.args.t.now l.b-index l.v c.loop-b-test.false),
      below-most l.v l.b-index 18 (omega arith) l.invariant.1,
    )
