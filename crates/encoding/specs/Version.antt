-- The version of the functions for other languages, as one number: major times 10,000, minor times 100, patch. Assumes nothing.
use Rattle.std.specs.Prelude.{ℕ}

abbrev pub version_number : ℕ
version_number = 20000
