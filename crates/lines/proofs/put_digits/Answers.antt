use mathlib.Core.List.{◌++◌}
use mathlib.Core.Path.{◌≡◌, ◌∙◌}
use Prim.Native.Nat.{◌+◌, ◌-◌, ◌%◌}
use native.Mathlib.Omega.{arith}
use lib.ListN.{drop}
use Rattle.lines.proofs.Stores.{four-room, four-next, four-kept}
use Rattle.lines.specs.Digits.{four_digits}
use Rattle.lines.proofs.put_digits.Goals as goal
use Rattle.lines.proofs.put_digits.Goals.{In-loop-rest}

pub overflow_sub-i : goal.overflow_sub-i
overflow_sub-i c =
    let l = c.loop-rest in
    four-room l.rest c.args.n l.i l.out l.invariant.0 (omega arith) l.invariant.2 c.loop-rest-test.true

pub put_four-requires : goal.put_four-requires
put_four-requires c = (omega (arith, overflow_sub-i (goal.at.put_four-requires c).In-loop-rest), omega arith)

pub loop-rest-preserved : goal.loop-rest-preserved
loop-rest-preserved c =
    let l = c.loop-rest in
    let p = c.put_four in
    let a = c.args in
    let q : l.i - 4 + 4 ≡ l.i = omega (arith, overflow_sub-i (goal.at.loop-rest-preserved c).In-loop-rest) in (
      omega (arith, p.auto.out),
      p.auto.out ∙ l.invariant.1,
      four-next l.rest a.n l.i l.out l.invariant.0 (omega arith) l.invariant.2 c.loop-rest-test.true (l.i - 4) q p.new.out p.ensures,
      four-kept l.rest a.n l.i l.out l.invariant.0 (omega arith) l.invariant.2 p.new.out a.out.now (l.i - 4)
          (four_digits (l.rest % 10000) ++ drop (l.i - 4 + 4) l.out) q l.invariant.3 p.ensures,
    )
