use mathlib.Core.Path.{ap, ◌∙◌}
use Prim.Native.Nat.{◌*◌, ◌≤◌}
use native.Mathlib.Omega.{arith}
use Rattle.arcs.specs.Closure.{row_places}
use Rattle.arcs.specs.Best.{is_unsupported}
use Rattle.arcs.proofs.Crossing.{zeros-at}
use Rattle.arcs.proofs.Best.{prepared-answer}
use Rattle.arcs.proofs.are_unsupported.Goals as goal
use Rattle.arcs.proofs.are_unsupported.Goals.{Start}

rows-room : (s : Start) → 16 * s.args.case.m ≤ row_places
rows-room s = omega (arith, s.requires.sized.limits.edges_placed)

pub prepare_rows-requires : goal.prepare_rows-requires
prepare_rows-requires c = record { sized = c.requires.sized; case_in_bounds = (c.requires.case_in_bounds.0, c.requires.case_in_bounds.1, rows-room (goal.at.prepare_rows-requires c).Start); by_index = zeros-at row_places }

pub returns : goal.returns
returns c =
    let a = c.args in
    c.is_unsupported.ensures
    ∙ ap is_unsupported c.none_supported.ensures
    ∙ prepared-answer a.case a.table.now a.best.now a.raised.now _ _ _ _ (rows-room (goal.at.returns c).Start) c.prepare_rows.ensures
    c.requires.sized.limits.variables-placed c.prepare_sets.ensures a.variable a.values
