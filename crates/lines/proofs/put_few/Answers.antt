use mathlib.Core.Path.{◌≡◌}
use Prim.Native.Nat.{◌+◌, ◌-◌, ◌%◌}
use native.Mathlib.Omega.{arith}
use lib.ListN.{length, set, length-set}
use Rattle.definitions.specs.Lines.{decimal}
use Rattle.lines.proofs.Stores.{kept-before, stored, bytes-before, digits-stored, digits_last}
use Rattle.lines.proofs.put_few.Goals as goal

pub loop-rest-preserved : goal.loop-rest-preserved
loop-rest-preserved c =
    let l = c.loop-rest in (
      simp length-set (omega arith),
      simp length-set l.invariant.1,
      digits-stored l.rest c.args.n l.i l.out l.invariant.0 (omega arith) l.invariant.2 c.loop-rest-test.true,
      kept-before l.out c.args.out.now l.i (48 + l.rest % 10) l.invariant.3,
    )

pub returns : goal.returns
returns c =
    let l = c.loop-rest in
    let a = c.args in
    let s = set l.out (l.i - 1) (48 + l.rest) in
    let e = digits_last l.rest a.n l.i l.out l.invariant.0 (omega arith) l.invariant.2 c.loop-rest-test.false in
    let n : length s ≡ length a.out.now = simp length-set l.invariant.1 in (
      omega (arith, n, bytes-before s (decimal a.n) (l.i - 1) e (omega arith)),
      stored s a.out.now (decimal a.n) (l.i - 1) (kept-before l.out a.out.now l.i (48 + l.rest) l.invariant.3) e,
    )
