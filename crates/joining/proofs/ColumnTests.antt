-- Whether a line's kind is due, by the code's test of it. Assumes nothing.
use mathlib.Core.Path.{◌≡◌, refl}
use mathlib.Core.Bool.{Bool, true, false, not}

-- whether the kind is due
pub off : {r b : Bool} → r ≡ not b → not r ≡ true → b ≡ true
off {r = true} {b = true} e h = refl
off {r = true} {b = false} e h = h
off {r = false} {b = true} e h = refl
off {r = false} {b = false} e h = e

pub on : {r b : Bool} → r ≡ not b → not r ≡ false → b ≡ false
on {r = true} {b = true} e h = e
on {r = true} {b = false} e h = refl
on {r = false} {b = true} e h = h
on {r = false} {b = false} e h = refl
