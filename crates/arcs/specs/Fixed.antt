-- The sets in which one value is fixed, as marks. Assumes nothing.
use Rattle.std.specs.Prelude.{Bool, List, ℕ, ℤ, eqb, if◌then◌else◌}
use Rattle.definitions.specs.declared.Case.{Case}
use Rattle.marks.specs.Marks.{only_of, full_of, in_both}
use Rattle.arcs.specs.Active.{active_set}

-- the allowed values of variable j: the active ones if its scope is raised, else all
abbrev pub allowed_set : Case → List ℤ → (ℕ → Bool) → ℕ → ℕ
allowed_set c w R j = if R j then active_set c w j else full_of c.d

-- the same with value k alone for variable i
abbrev pub fixed_set : Case → List ℤ → (ℕ → Bool) → ℕ → ℕ → ℕ → ℕ
fixed_set c w R i k j = if eqb j i then in_both (allowed_set c w R j) (only_of k) else allowed_set c w R j
