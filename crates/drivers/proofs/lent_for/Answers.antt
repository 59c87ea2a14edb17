use mathlib.Core.Path.{ap, ◌∙◌}
use native.Mathlib.Omega.{arith}
use lib.ListN.{length}
use borrow.Author.Tests.{lt-ltb, le-ltb}
use Rattle.definitions.specs.declared.Case.{Case}
use Rattle.drivers.specs.Drivers.{line_told}
use Rattle.drivers.specs.Taken.{headed_by, lent_places, lent_for}
use Rattle.drivers.proofs.lent_for.Goals as goal

pub returns-then-text-lt27 : goal.returns-then-text-lt27
unfolding lent_for
returns-then-text-lt27 c = let a = c.args in rw (lt-ltb (length a.text.now) 27 (omega arith))

pub returns : goal.returns
unfolding lent_for
returns c =
    let a = c.args in
    rw (le-ltb (length a.text.now) 27 (omega arith)) (c.lent.ensures ∙ ap (λ (k : Case). lent_places k a.told)
    (c.headed.ensures ∙ ap headed_by (c.told_line.ensures ∙ ap line_told c.read_line.ensures)))
