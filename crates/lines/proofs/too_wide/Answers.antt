use mathlib.Core.Path.{◌≡◌, ap, ◌∙◌}
use Prim.Native.Nat.{◌-◌, ◌^◌}
use native.Mathlib.Omega.{arith}
use lib.IntN.{pos}
use Rattle.lines.proofs.Signs.{same}
use Rattle.lines.proofs.Widths.{wide-range, power-most, power-is, minus_is}
use Rattle.lines.proofs.too_wide.Goals as goal
use Rattle.lines.proofs.too_wide.Goals.{After-signed-least, After-signed-most}

-- From the least number with a minus to the greatest without. Assumes nothing.
most-is : (c : After-signed-most) → c.signed-most.result ≡ pos (10 ^ c.args.width)
most-is c = c.signed-most.ensures ∙ ap pos c.power.ensures

least-is : (c : After-signed-least) → c.signed-least.result ≡ pos (10 ^ (c.args.width - 1))
least-is c = c.signed-least.ensures ∙ ap pos c.power-2.ensures

pub signed-most-requires : goal.signed-most-requires
signed-most-requires c = rw c.power.ensures (power-most c.args.width c.requires.1)

pub returns : goal.returns
returns c =
    rw (most-is (goal.at.returns c).After-signed-most, least-is c, same c.args.z c.ranges.z, minus_is (c.args.width - 1) (omega arith), power-is c.args.width c.requires.1)
    (wide-range c.args.width c.args.z c.requires.0)
