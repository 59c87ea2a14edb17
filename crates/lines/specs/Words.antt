-- Four bytes compared at once. Assumes nothing.
use Rattle.std.specs.Prelude.{◌≡◌, List, ℕ, ◌+◌, ◌*◌, ◌<◌, get_or}

-- the number of the four bytes at place i
pub record Word (t : List ℕ) (i r : ℕ) : Type 0 where
  pub is : r ≡ get_or t i 0 + get_or t (i + 1) 0 * 256 + get_or t (i + 2) 0 * 65536 + get_or t (i + 3) 0 * 16777216
  pub first : get_or t i 0 < 256
  pub second : get_or t (i + 1) 0 < 256
  pub third : get_or t (i + 2) 0 < 256
  pub fourth : get_or t (i + 3) 0 < 256
