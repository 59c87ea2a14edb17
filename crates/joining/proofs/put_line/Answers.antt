use mathlib.Core.Path.{sym, ◌∙◌}
use Rattle.joining.proofs.Rooms.{has-known}
use Rattle.joining.proofs.put_line.Goals as goal

pub put_placed-requires : goal.put_placed-requires
put_placed-requires c = let a = c.args in
    let h = has-known a.case a.edges _ a.due (sym c.has_place.ensures ∙ c.if-has_place.true) in record { placed = h.0; in_case = h.1 }
