-- Document 02, change 5, "Links that join and leave": a link joins. Assumes nothing.
use Rattle.std.specs.Prelude.{Bool, not, ◌||◌, List, [], ◌∷◌, ◌++◌, map, ℕ, ◌+◌, ◌-◌, ℤ, pos, ◌+ℤ◌, leb, ltb, eqb, if◌then◌else◌, Some}
use Rattle.std.specs.Int.Signed.{lt_z}
use Rattle.integers.specs.Words.{from, below, joined}
use Rattle.definitions.specs.declared.Case.{Case}
use Rattle.definitions.specs.declared.Line.{Line}
use Rattle.definitions.specs.declared.Refusal.TheVariants.{OutsideLimits, OutOfRange}
use Rattle.definitions.specs.Rules.{Rules}
use Rattle.definitions.specs.Refusals.{Test, ◌when◌}
use Rattle.definitions.specs.Case.{lower_end, upper_end, weight}
use Rattle.definitions.specs.Moves.{Difference}
use Rattle.definitions.specs.Lines.{outside}
use Rattle.definitions.specs.CaseFiles.{CaseDue, variable-weight, edge-ends, edge-weight, variable_dues, edge_dues, names, Reading, ends_tests, due_tests}
use Rattle.logs.specs.Leave.{in_places, WeightedCase, full_table}

-- ---- the case as it will be: one variable more, n, and p edges more, which come last and whose ends are still to be read

abbrev pub grown_case : Case → ℕ → Case
grown_case c p = record {
  n = c.n + 1;
  d = c.d;
  m = c.m + p;
  lower = in_places (map (lower_end c) (below c.m));
  upper = in_places (map (upper_end c) (below c.m));
  carry = c.carry;
  rulebook = c.rulebook;
}

-- scope y of that case is new: the new variable's, or that of a new edge; else it had this number before
abbrev pub is_new : Case → ℕ → Bool
is_new c y = eqb y c.n || leb (c.n + 1 + c.m) y

abbrev pub scope_ungrown : Case → ℕ → ℕ
scope_ungrown c y = if ltb y c.n then y else y - 1

-- a table of the grown case g: the weights of w, and those of f at the new scopes
abbrev pub grown_table : Case → Case → List ℤ → Difference → List ℤ
grown_table c g w f = full_table g (λ y k l. if is_new c y then f y k l else weight c w (scope_ungrown c y) k l) w

-- ---- "followed by its case lines, its pairs coming last"

abbrev pub join_dues : Case → ℕ → List CaseDue
join_dues c p = variable_dues c c.n ++ joined (map (edge_dues c) (from c.m p))

-- A join begun: what is read so far, in the case as it will be and its starting weights, and what is still due. No new weight is read at first.
pub record Joining : Type 0 where
  pub reading : Reading
  pub dues : List CaseDue

abbrev pub begun_join : Case → List ℤ → ℕ → Joining
begun_join c w₀ p = record {
  reading = record { case = grown_case c p; table = grown_table c (grown_case c p) w₀ (λ y k l. pos 0) };
  dues = join_dues c p;
}

-- ---- numbers

-- kind 8: "nor a join pass the limits: number 3"; "a count of pairs, 0 to n"
abbrev pub join_tests : Rules → Case → Line → List Test
join_tests r c t =
    OutsideLimits when (not (ltb c.n r.variables) || lt_z (pos r.edges) (pos c.m +ℤ t.a))
    ∷ OutOfRange when (outside (c.n + 1) t.a)
    ∷ []

-- its case lines, by what is due: as in a case file, but that an edge has "the new link as its higher link (else 5)"
abbrev pub join_line_tests : Rules → Reading → CaseDue → Line → List Test
join_line_tests r g (variable-weight i k) t = due_tests r g (variable-weight i k) (Some t)
join_line_tests r g (edge-ends e) t = ends_tests r g e (not (names (g.case.n - 1) t.c)) t
join_line_tests r g (edge-weight e k l) t = due_tests r g (edge-weight e k l) (Some t)

-- ---- "a join takes effect with its last line": the new scopes have their starting weights as working weights, and the carry stays

abbrev pub grown_by : Case → List ℤ → Reading → WeightedCase
grown_by c w g = record { case = g.case; starting = g.table; weights = grown_table c g.case w (weight g.case g.table) }
