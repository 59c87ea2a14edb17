-- Byte by byte. Assumes nothing.
use mathlib.Core.Path.{◌≡◌, refl}
use mathlib.Core.Bool.{Bool, true, false}
use mir.Val.{bool_byte}
use Rattle.encoding.specs.RecordBytes.{flag, record_tags}
use Rattle.encoding.proofs.tags_of.Goals as goal

byte : (b : Bool) → bool_byte b ≡ flag b
byte true = refl
byte false = refl

pub returns : goal.returns
unfolding record_tags
returns c = rw (byte c.args.moved, c.standing_number.ensures)
