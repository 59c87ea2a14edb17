use Prim.Native.Nat.{ℕ, suc, ◌<◌}
use lib.ListN.{get_or}
use Rattle.moves.proofs.is_rising.Given as goal

abbrev pub invariant-loop-j : goal.invariant-loop-j
invariant-loop-j l = (k : ℕ) → suc k < l.j → get_or l.scopes k 0 < get_or l.scopes (suc k) 0
