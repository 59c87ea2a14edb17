use mathlib.Core.Path.{◌≡◌}
use mathlib.Core.Bool.{false}
use Prim.Native.Nat.{ℕ, ◌<◌}
use lib.ListN.{get_or}
use Rattle.arcs.specs.Tried.{tried_answer}
use Rattle.choice.specs.Choice.{says_unsupported}
use Rattle.choice.proofs.lowest_in.Given as goal

abbrev pub invariant-loop-i : goal.invariant-loop-i
invariant-loop-i l =
    (j : ℕ) → j < l.i → says_unsupported (tried_answer l.lower l.upper l.rows l.edges l.sets j (get_or l.acts j 0)) ≡ false
