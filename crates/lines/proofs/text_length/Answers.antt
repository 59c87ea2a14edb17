use mathlib.Core.Path.{◌≡◌, ap, ◌∙◌}
use native.Mathlib.Omega.{arith}
use lib.ListN.{length}
use lib.IntN.{nat_abs}
use Rattle.definitions.specs.Lines.{decimal}
use Rattle.lines.proofs.Signs.{same, abs-digits}
use Rattle.lines.proofs.text_length.Goals as goal
use Rattle.lines.proofs.text_length.Goals.{After-digit_count-k}

-- The digits, and a minus. Assumes nothing.
count-is : (c : After-digit_count-k) → c.digit_count-k.result ≡ length (decimal (nat_abs c.args.z))
count-is c =
    c.digit_count-k.ensures ∙ ap (λ n. length (decimal n)) (c.unsigned_abs.ensures.value ∙ ap nat_abs (same c.args.z c.ranges.z))

pub overflow_add-result : goal.overflow_add-result
overflow_add-result c =
    omega (arith, count-is (goal.at.overflow_add-result c).After-digit_count-k, abs-digits c.args.z c.ranges.z)
