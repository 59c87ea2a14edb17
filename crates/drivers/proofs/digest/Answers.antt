use mathlib.Core.Path.{sym, ◌∙◌}
use native.Mathlib.Omega.{arith}
use Rattle.drivers.proofs.Laws.{digest-next, digest-ends}
use Rattle.drivers.proofs.digest.Goals as goal

pub loop-byte-preserved : goal.loop-byte-preserved
loop-byte-preserved c =
    let l = c.loop-byte in
    (omega arith, rw c.from.ensures (sym (digest-next l.sum l.byte-index c.args.bytes.now (omega arith)) ∙ l.invariant.1))

pub returns : goal.returns
returns c = let l = c.loop-byte in sym (digest-ends l.sum l.byte-index c.args.bytes.now (omega arith)) ∙ l.invariant.1
