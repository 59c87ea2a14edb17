use native.Mathlib.Omega.{arith}
use Rattle.tables.proofs.Parts.{part-own}
use Rattle.tables.proofs.scope_part.Goals as goal

pub slice_bounds-result-end : goal.slice_bounds-result-end
slice_bounds-result-end c = let a = c.args in omega
    (arith, c.first_place-first.ensures, c.size_of.ensures, part-own a.case a.x (omega arith))
