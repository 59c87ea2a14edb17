use native.Mathlib.Omega.{arith}
use Rattle.joining.proofs.Rooms.{place-fits}
use Rattle.joining.proofs.put_placed.Goals as goal

pub wait-requires-in-EdgeWeight : goal.wait-requires-in-EdgeWeight
wait-requires-in-EdgeWeight c = omega (arith, c.waiting_place-place.ensures, place-fits c.requires.placed c.args.due c.requires.in_case)
