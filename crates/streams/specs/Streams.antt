-- What is read to a buffer, and what is printed of an output. What the system gives to standard input, no contract can say. Assumes nothing.
use Rattle.definitions.specs.declared.Refusal.{Refusal}
use Rattle.std.specs.Prelude.{◌≡◌, Bool, ◌⊎◌, List, [], ℕ, ◌≤◌, pos, T, length, take, Result, Ok, Err}
use Rattle.std.specs.Int.Signed.{lt_z, le_z}
use Rattle.streams.specs.declared.Filled.{Filled}

-- the last read answered 0 or less and brought nothing: the input has ended, or the read failed
abbrev pub is_over : Filled → Bool
is_over f = le_z f.got (pos 0)

-- the last read answered less than 0
abbrev pub is_failed : Filled → Bool
is_failed f = lt_z f.got (pos 0)

-- a buffer filled from byte `from` on: the bytes before it are kept, and the buffer is full or the last read brought nothing; with no room from there
-- on nothing is read
pub record Fills (from : ℕ) (old : List ℕ) (r : Filled) (new : List ℕ) : Type 0 where
  pub kept : take from new ≡ take from old
  pub onward : from ≤ r.to
  pub within : from ≤ length new → r.to ≤ length new
  pub ends : (length new ≤ r.to) ⊎ T (is_over r)
  pub unread : length old ≤ from → (r.to ≡ from) × (r.got ≡ pos 1) × (new ≡ old)

-- so many of the output's first bytes, nothing where it was refused
abbrev pub printed_part : Result ℕ Refusal → List ℕ → List ℕ
printed_part (Ok n) out = take n out
printed_part (Err x) out = []
