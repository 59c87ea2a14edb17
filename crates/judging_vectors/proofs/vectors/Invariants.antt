use lib.ListN.{length}
use Rattle.judging_vectors.proofs.vectors.Given as goal

abbrev pub decreases-loop-rest : goal.decreases-loop-rest
decreases-loop-rest l = length l.rest
