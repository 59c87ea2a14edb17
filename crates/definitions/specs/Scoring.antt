-- Document 01: scoring two lent plans, of which some may be unlawful (document 02, change 2). Assumes nothing.
use Rattle.definitions.specs.declared.Refusal.{Refusal}
use Rattle.std.specs.Prelude.{Bool, true, false, ◌||◌, List, [], ℕ, ℤ, if◌then◌else◌, Result, Ok, Err, Option, Some, None}
use Rattle.std.specs.Int.Signed.{lt_z}
use Rattle.definitions.specs.declared.Case.{Case}
use Rattle.definitions.specs.declared.Choice.{Choice}
use Rattle.definitions.specs.Rules.{Rules}
use Rattle.definitions.specs.Refusals.{first_refusal}
use Rattle.definitions.specs.Case.{objective, uses_barred}
use Rattle.definitions.specs.Valid.{starting_weight, wrong_assignment, value_out, handed_over}

-- an unlawful plan has no total, and all such are level, below the lawful (document 02, change 2)
abbrev pub lawful_total : Case → List ℤ → List ℕ → Option ℤ
lawful_total c w p = if uses_barred c w p then None else Some (objective c w p)

abbrev pub ranks_below : Option ℤ → Option ℤ → Bool
ranks_below p None = false
ranks_below None (Some b) = true
ranks_below (Some a) (Some b) = lt_z a b

-- the one with the greater starting total, the first on a tie
abbrev pub better_of : Rules → Case → List ℤ → List ℕ → List ℕ → Result Choice Refusal
better_of r c w p q =
    elim (first_refusal (handed_over r (starting_weight r) c w (wrong_assignment c p || wrong_assignment c q) (value_out c p || value_out c q))) [
      | Some x ↦ Err x
      | None ↦ if ranks_below (lawful_total c w p) (lawful_total c w q) then Ok Choice.Second else Ok Choice.First
    ]

abbrev pub chosen_part : List ℕ → List ℕ → Result Choice Refusal → List ℕ
chosen_part p q (Ok Choice.First) = p
chosen_part p q (Ok Choice.Second) = q
chosen_part p q (Err x) = []

-- the plan handed back; refused, an empty part
abbrev pub better : Rules → Case → List ℤ → List ℕ → List ℕ → List ℕ
better r c w p q = chosen_part p q (better_of r c w p q)
