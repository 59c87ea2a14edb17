-- The round of one pair on a lent table and a lent output, on all input. Assumes nothing.
use Rattle.std.specs.Prelude.{not, List, ℕ, ℤ, ltb, length, Option, Some, None}
use Rattle.definitions.specs.declared.Case.{Case}
use Rattle.definitions.specs.declared.Refusal.{Refusal}
use Rattle.definitions.specs.Rules.{Rules}
use Rattle.definitions.specs.Moves.{after_moves}
use Rattle.definitions.specs.PairRounds.{pair_round}
use Rattle.definitions.specs.Engine.{Made, refused, made_of}
use Rattle.calls.specs.EngineCalls.{RoundCall, round_made}
use Rattle.round_lines.specs.Asked.{round_refusal}

-- numbers 3 to 8 and 15, with an output of so many bytes: 4 also where it is too short for a round, 5 also where there is no such edge
abbrev pub pair_refusal : Rules → Case → List ℤ → ℕ → ℕ → Option Refusal
pair_refusal r c w bytes e = round_refusal r c w bytes (not (ltb e c.m))

-- the pair's round is made, or refused by number 11
abbrev pub pair_made : Rules → Case → List ℤ → ℕ → Made
pair_made r c w e = made_of r c (pair_round c w e) (after_moves r c (pair_round c w e) w)

-- Its lines from the output's first byte; refused, table and output keep what they held.
unfoldable pub pair_call : Rules → Case → List ℤ → List ℕ → ℕ → RoundCall
pair_call r c w out e = elim (pair_refusal r c w (length out) e) [
  | Some x ↦ round_made c w out (refused x)
  | None ↦ round_made c w out (pair_made r c w e)
]
