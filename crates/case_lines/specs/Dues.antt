-- What is due at each line of a case after the head, and where its weight lies. Assumes nothing.
use Rattle.std.specs.Prelude.{Bool, ◌&&◌, List, ℕ, ◌+◌, ◌*◌, ◌-◌, ◌/◌, ◌%◌, ◌≤◌, ◌<◌, ◌≡◌, pos, ltb, leb, eqb, if◌then◌else◌}
use Rattle.definitions.specs.declared.Rulebook.{Rulebook}
use Rattle.definitions.specs.declared.Case.{Case}
use Rattle.definitions.specs.Rules.{rules_in, edge_places}
use Rattle.definitions.specs.Lines.{line_length}
use Rattle.definitions.specs.CaseFiles.{CaseDue, variable-weight, edge-ends, edge-weight}
use Rattle.case_lines.specs.declared.Sizes.{Sizes}
use Rattle.case_lines.specs.declared.Awaited.{Awaited}
use Rattle.case_lines.specs.declared.Awaited.TheVariants.{VariableWeight, EdgeEnds, EdgeWeight}

-- the bytes of a line
abbrev pub bytes_of_line : Rulebook → ℕ
bytes_of_line b = line_length (rules_in b).amount_width

-- the case of these sizes that has these ends, and carry 0
abbrev pub case_with : Sizes → List ℕ → List ℕ → Case
case_with s lower upper = record { n = s.n; d = s.d; m = s.m; lower = lower; upper = upper; carry = pos 0; rulebook = s.rulebook }

-- sizes within the limits of their rules, and so within plain bounds
pub record SizesLimited (s : Sizes) : Type 0 where
  pub variables : s.n ≤ (rules_in s.rulebook).variables
  pub some-value : 1 ≤ s.d
  pub values : s.d ≤ (rules_in s.rulebook).values
  pub edges : s.m ≤ (rules_in s.rulebook).edges
  pub variables-few : s.n ≤ 256
  pub values-few : s.d ≤ 8
  pub edges_placed : s.m ≤ edge_places

-- no number is above what the places of any rules hold
abbrev pub is_plain : Sizes → Bool
is_plain s = leb s.n 256 && leb s.d 8 && leb s.m edge_places

-- ---- what is due at line q after the head

abbrev pub due_awaited : Awaited → CaseDue
due_awaited (VariableWeight i k) = variable-weight i k
due_awaited (EdgeEnds e) = edge-ends e
due_awaited (EdgeWeight e k l) = edge-weight e k l

-- what is due names places of the case
abbrev pub InCase : Sizes → Awaited → Type 0
InCase s (VariableWeight i k) = (i < s.n) × (k < s.d)
InCase s (EdgeEnds e) = e < s.m
InCase s (EdgeWeight e k l) = (e < s.m) × (k < s.d) × (l < s.d)

-- it is due at line q after the head
abbrev pub AtLine : Sizes → ℕ → Awaited → Type 0
AtLine s q (VariableWeight i k) = (q ≡ i * s.d + k) × (i < s.n) × (k < s.d)
AtLine s q (EdgeEnds e) = (q ≡ s.n * s.d + e * (1 + s.d * s.d)) × (e < s.m)
AtLine s q (EdgeWeight e k l) =
    (q ≡ s.n * s.d + (e * (1 + s.d * s.d) + (1 + (k * s.d + l)))) × (e < s.m) × (k < s.d) × (l < s.d)

-- at line p after the variables' lines, by its edge and its line there
abbrev pub edge_due : ℕ → ℕ → ℕ → CaseDue
edge_due d e p = if eqb p 0 then edge-ends e else edge-weight e ((p - 1) / d) ((p - 1) % d)

abbrev pub edge_due_at : ℕ → ℕ → CaseDue
edge_due_at d p = edge_due d (p / (1 + d * d)) (p % (1 + d * d))

abbrev pub due_at : Sizes → ℕ → CaseDue
due_at s q = if ltb q (s.n * s.d) then variable-weight (q / s.d) (q % s.d) else edge_due_at s.d (q - s.n * s.d)

-- how many lines follow the head
abbrev pub lines_due : Sizes → ℕ
lines_due s = s.n * s.d + s.m * (1 + s.d * s.d)

abbrev pub count_due : Sizes → ℕ
count_due s = if is_plain s then lines_due s else 0

-- ---- one after another

abbrev pub first_due : Sizes → Awaited
first_due s = if ltb 0 s.n then VariableWeight 0 0 else EdgeEnds 0

-- the next value, the next variable, or the first edge
abbrev pub next_variable : Sizes → ℕ → ℕ → Awaited
next_variable s i k =
    if ltb (k + 1) s.d then VariableWeight i (k + 1) else (if ltb (i + 1) s.n then VariableWeight (i + 1) 0 else EdgeEnds 0)

-- the next second value, the next first one, or the next edge; after the last edge the first
abbrev pub next_tuple : Sizes → ℕ → ℕ → ℕ → Awaited
next_tuple s e k l =
    if ltb (l + 1) s.d then EdgeWeight e k (l + 1)
    else if ltb (k + 1) s.d then EdgeWeight e (k + 1) 0
    else if ltb (e + 1) s.m then EdgeEnds (e + 1)
    else EdgeEnds 0

abbrev pub next_due : Sizes → Awaited → Awaited
next_due s (VariableWeight i k) = next_variable s i k
next_due s (EdgeEnds e) = EdgeWeight e 0 0
next_due s (EdgeWeight e k l) = next_tuple s e k l

-- ---- places of the table

-- how many it has
abbrev pub places_of : Sizes → ℕ
places_of s = s.n * s.d + s.m * (s.d * s.d)

abbrev pub has_value : Sizes → ℕ → ℕ → Bool
has_value s i k = is_plain s && ltb i s.n && ltb k s.d

abbrev pub has_tuple : Sizes → ℕ → ℕ → ℕ → Bool
has_tuple s e k l = is_plain s && ltb e s.m && ltb k s.d && ltb l s.d

abbrev pub value_place : Sizes → ℕ → ℕ → ℕ
value_place s i k = if has_value s i k then i * s.d + k else 0

abbrev pub tuple_place : Sizes → ℕ → ℕ → ℕ → ℕ
tuple_place s e k l = if has_tuple s e k l then s.n * s.d + (e * (s.d * s.d) + (k * s.d + l)) else 0

-- of the weight that is due; 0 where none is
abbrev pub weight_place : Sizes → Awaited → ℕ
weight_place s (VariableWeight i k) = value_place s i k
weight_place s (EdgeEnds e) = 0
weight_place s (EdgeWeight e k l) = tuple_place s e k l
