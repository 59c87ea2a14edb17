use mathlib.Core.Path.{◌≡◌}
use native.Mathlib.Numerals.{add-one}
use native.Mathlib.Omega.{arith}
use lib.ListN.{length}
use Rattle.definitions.specs.Places.{round_places}
use Rattle.press.proofs.Calls.{made-next, bytes-more}
use borrow.Author.Rules.{rules}
use Rattle.press.proofs.print_rounds.Goals as goal

pub loop-preserved : goal.loop-preserved
loop-preserved g c =
    let (lt, lo, few, long, made) = c.loop.invariant in
    let more = bytes-more made c.print_next-state.ensures in
    let out : length c.print_next-state.new.out ≡ round_places = omega (arith, c.print_next-state.auto) in
    (search rules, out, omega arith, long, rw add-one (made-next made c.print_next-state.ensures))
