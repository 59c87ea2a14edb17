-- What a join makes of a case and its tables once all its lines are read. Assumes nothing.
use Rattle.std.specs.Prelude.{Bool, ◌&&◌, List, ℕ, ◌-◌, ℤ, ltb, leb, length, if◌then◌else◌}
use Rattle.definitions.specs.declared.Case.{Case}
use Rattle.definitions.specs.Rules.{rules_of}
use Rattle.definitions.specs.CaseFiles.{edge-ends}
use Rattle.tables.specs.Scopes.{is_sized}
use Rattle.logs.specs.Leave.{WeightedCase}
use Rattle.logs.specs.Join.{grown_by}
use Rattle.logs.specs.Waiting.{read_so_far}

-- starting weights w₀, behind which the join's weights wait, working weights w, and p edges with their lower ends
abbrev pub joined : Case → List ℤ → List ℤ → ℕ → List ℕ → WeightedCase
joined c w₀ w p lower = grown_by c w (read_so_far c w₀ p (edge-ends p) lower)

-- one variable more and p edges are within the limits, and tables of these lengths can be lent
abbrev pub has_room : Case → ℕ → ℕ → ℕ → Bool
has_room c p starting table =
    is_sized (rules_of c) c starting && is_sized (rules_of c) c table && ltb c.n (rules_of c).variables && leb p ((rules_of c).edges - c.m)

-- on all input: without room nothing changes
abbrev pub grow_call : Case → List ℤ → List ℤ → ℕ → List ℕ → WeightedCase
grow_call c w₀ w p lower = if has_room c p (length w₀) (length w) then joined c w₀ w p lower else record { case = c; starting = w₀; weights = w }
