-- How many rounds a run can make, from any table. Assumes nothing.
use Rattle.std.specs.Prelude.{ℕ, ◌+◌, ◌*◌}
use Rattle.definitions.specs.declared.Case.{Case}

-- a pair round for each edge; a press makes at least one tuple active and none inactive, a pair round at most an edge's tuples inactive
abbrev pub most_rounds : Case → ℕ
most_rounds c = c.m + c.n * c.d + 2 * (c.m * (c.d * c.d))
