-- Byte by byte. Assumes nothing.
use mathlib.Core.Path.{◌∙◌}
use Rattle.std.proofs.Math.Nat.{div-div-eq-div-mul}
use Rattle.encoding.specs.Numbers.{number_bytes}
use Rattle.encoding.proofs.number_bytes.Goals as goal

pub returns : goal.returns
unfolding number_bytes
returns c = c.to_le_bytes.ensures ∙ simp div-div-eq-div-mul
