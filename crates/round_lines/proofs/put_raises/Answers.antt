use mathlib.Core.Path.{◌∙◌}
use native.Mathlib.Omega.{arith}
use lib.ListN.{length}
use Rattle.round_lines.proofs.Texts.{puts-next, raise-room}
use Rattle.round_lines.proofs.put_raises.Goals as goal

pub put_raise-at-requires : goal.put_raise-at-requires
put_raise-at-requires c =
    let room = raise-room c.args.width c.args.raised.now c.loop-x.x (length c.args.raised.now) (omega arith) in record {
      x_in_bounds = (omega arith, omega arith, c.requires.few.1);
      x_in_bounds_2 = omega (arith, room);
    }

pub loop-x-preserved : goal.loop-x-preserved
loop-x-preserved c =
    let a = c.args in
    let r = c.put_raise-at in (
      r.auto.out ∙ c.loop-x.invariant.0,
      puts-next a.width a.raised.now c.loop-x.x c.loop-x.invariant.1.0 c.loop-x.invariant.1.1 (r.ensures.value, r.ensures.put),
    )
