use Rattle.round_lines.specs.Press.{write_void_call}
use Rattle.round_lines.proofs.write_void.Goals as goal

pub returns : goal.returns
unfolding write_void_call
returns c = let h = c.write_entry.ensures in record { value = h.value; out_after = h.out_after }
