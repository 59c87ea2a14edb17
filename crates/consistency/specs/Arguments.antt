-- The arguments of `refuted` that are outside their range. Assumes nothing.
use Rattle.std.specs.Prelude.{Bool, not, ◌||◌, List, ℕ, ltb}
use Rattle.integers.specs.Words.{any}
use Rattle.definitions.specs.declared.Case.{Case}

-- a mark is neither 0 nor 1, or the variable or the value is outside its range
abbrev pub arguments_out : Case → List ℕ → ℕ → ℕ → Bool
arguments_out c raised i k = any (λ b. ltb 1 b) raised || not (ltb i c.n) || not (ltb k c.d)
