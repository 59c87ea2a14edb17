-- The bytes are copied into the part from `at` on. Assumes nothing.
use native.Mathlib.Omega.{arith}
use Rattle.texts.proofs.Placed.{part_copied}
use Rattle.encoding.proofs.put_bytes.Goals as goal

pub returns : goal.returns
returns c = part_copied c.args.at _ c.args.bytes.now c.copy_from_slice.new.self c.args.out.now c.copy_from_slice.ensures.after (omega arith)
