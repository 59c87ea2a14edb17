use mathlib.Core.Path.{◌∙◌}
use native.Mathlib.Omega.{arith}
use Rattle.tables.proofs.Best.{sum-written}
use Rattle.tables.proofs.add_greatest.Goals as goal

pub returns : goal.returns
returns c = let a = c.args in
    c.sum_in_range.ensures
    ∙ sum-written a.case a.table.now _ _ (omega (arith, c.requires.limited.variables, c.requires.limited.edges)) c.write_greatest.ensures
