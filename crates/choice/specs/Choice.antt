-- The lowest variable whose values have no supported family, over value sets as bytes. Assumes nothing.
use Rattle.std.specs.Prelude.{Bool, true, false, List, ℕ, length, get_or, Option}
use Rattle.integers.specs.Words.{below, those, first}
use Rattle.arcs.specs.Tried.{tried_answer}
use Rattle.arcs.specs.declared.Tried.{Tried}

abbrev pub says_unsupported : Tried → Bool
says_unsupported Tried.Unsupported = true
says_unsupported Tried.Supported = false
says_unsupported Tried.Malformed = false

-- the values `acts` of variable i, each fixed alone, leave no supported family inside the sets; a variable that `acts` does not reach has none, and is refuted
abbrev pub unsupported_in : List ℕ → List ℕ → List ℕ → List ℕ → List ℕ → List ℕ → ℕ → Bool
unsupported_in lower upper acts rows edges sets i = says_unsupported (tried_answer lower upper rows edges sets i (get_or acts i 0))

abbrev pub lowest_unsupported : List ℕ → List ℕ → List ℕ → List ℕ → List ℕ → List ℕ → Option ℕ
lowest_unsupported lower upper acts rows edges sets = first (those (unsupported_in lower upper acts rows edges sets) (below (length sets)))
