use Rattle.std.proofs.Common.{ℕ, refl, sym}
use Rattle.std.proofs.lemmas.List.{length-replicate}
use Rattle.definitions.specs.Places.{input_places}
use Rattle.streams.proofs.buffer.Goals as goal

pub returns : goal.returns
returns c = (refl, sym (length-replicate {A = ℕ} input_places 0))
