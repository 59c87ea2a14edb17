-- The longest case, table and round that rules allow, and the places of the programs' arrays, which hold them. Assumes nothing.
use Rattle.std.specs.Prelude.{ℕ, ◌+◌, ◌*◌, ◌≤◌}
use Rattle.std.proofs.Common.{lit≤}
use Rattle.definitions.specs.declared.Rulebook.{Rulebook}
use Rattle.definitions.specs.declared.Rulebook.TheVariants.{Desk}
use Rattle.definitions.specs.Rules.{Rules, rules_in, scopes_at_most, full_length, variable_places, edge_places}
use Rattle.definitions.specs.Lines.{line_length}

-- the lines of the longest case, its bytes, and its table
abbrev pub longest_lines : Rules → ℕ
longest_lines r = 1 + r.variables * r.values + r.edges * (1 + r.values * r.values)

abbrev pub longest_case : Rules → ℕ
longest_case r = line_length r.amount_width * longest_lines r

abbrev pub longest_table : Rules → ℕ
longest_table r = full_length r r.values

-- no round has more bytes
abbrev pub longest_round : Rules → ℕ
longest_round r = line_length r.amount_width * (scopes_at_most r + 2 * r.values + 1)

-- the places of the arrays that the programs lend: a table, an input, and the output of a round
abbrev pub table_places : ℕ
table_places = 8 * variable_places + 64 * edge_places

abbrev pub input_places : ℕ
input_places = 262144

abbrev pub round_places : ℕ
round_places = 4347

pub record Placed (r : Rules) : Type 0 where
  pub table : longest_table r ≤ table_places
  -- a case, and a line more
  pub input : longest_case r + line_length r.amount_width ≤ input_places
  pub round : longest_round r ≤ round_places
  -- a round's output has room for a printed line, too
  pub text : 64 ≤ longest_round r

pub placed : (b : Rulebook) → Placed (rules_in b)
placed Desk = record { table = lit≤ tt; input = lit≤ tt; round = lit≤ tt; text = lit≤ tt }
