-- The total in a figure. Assumes nothing.
use Rattle.definitions.specs.declared.Refusal.{Refusal}
use Rattle.std.specs.Prelude.{ℤ, Result, Ok, Err, Option, Some, None}

-- none where it was refused
abbrev pub total_in : Result ℤ Refusal → Option ℤ
total_in (Ok z) = Some z
total_in (Err x) = None
