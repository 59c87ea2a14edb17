-- What is asked before a round of the engine is made. Assumes nothing.
use Rattle.std.specs.Prelude.{Bool, List, ℕ, ℤ, ltb, Option}
use Rattle.definitions.specs.declared.Case.{Case}
use Rattle.definitions.specs.declared.Refusal.{Refusal}
use Rattle.definitions.specs.Rules.{Rules}
use Rattle.definitions.specs.Refusals.{first_refusal}
use Rattle.definitions.specs.Valid.{working_weight, handed_over}
use Rattle.definitions.specs.Engine.{round_bytes}

-- numbers 3 to 8 and 15, with an output of so many bytes; `outside` says that an argument is outside its range
abbrev pub round_refusal : Rules → Case → List ℤ → ℕ → Bool → Option Refusal
round_refusal r c w bytes outside = first_refusal (handed_over r (working_weight r) c w (ltb bytes (round_bytes r c)) outside)
