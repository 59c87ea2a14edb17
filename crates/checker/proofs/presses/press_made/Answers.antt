use mathlib.Core.Path.{◌∙◌}
use Prim.Native.Nat.{◌+◌, ◌≤◌}
use native.Mathlib.Omega.{arith}
use lib.ListN.{length}
use mir.Facts.{to_z-of_z}
use Rattle.definitions.specs.Moves.{active_values}
use Rattle.tables.proofs.Answered.{limits-known}
use Rattle.changes.proofs.LoweringLaws.{lower-and-raise-is-press}
use Rattle.checker.proofs.presses.press_made.Goals as goal

pub returns : goal.returns
returns c =
    let a = c.args in
    let h = c.requires.handed in
    let room : a.case.n + a.case.m ≤ length a.raised.now = omega (arith, (limits-known h).scopes-placed, c.requires.raised_len.0) in
    let e = rw (to_z-of_z c.ranges.amount) at c.lower_and_raise.ensures in
    let k = lower-and-raise-is-press h c.requires.best_of a.raised.now a.variable a.values
    (active_values a.case a.table.now a.variable) c.requires.marks_of a.amount room c.requires.raised_len.1 c.requires.raised_len.2 in
    record { target_taken = (e.0 ∙ k.0, e.1 ∙ k.1); best_of_2 = rw (e.1, e.2) k.2 }
