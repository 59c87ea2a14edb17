-- Document 02, change 5, "Links that join and leave": a link leaves. Assumes nothing.
use Rattle.std.specs.Prelude.{Bool, not, ◌||◌, List, [], ◌∷◌, ◌++◌, map, ℕ, ◌+◌, ◌-◌, ℤ, pos, ◌+ℤ◌, ◌-ℤ◌, ltb, eqb, length, get_or, replicate, if◌then◌else◌}
use Rattle.std.specs.Int.Signed.{lt_z}
use Rattle.integers.specs.Words.{below, any, those, sum, smallest_of}
use Rattle.definitions.specs.declared.Case.{Case}
use Rattle.definitions.specs.declared.Line.{Line}
use Rattle.definitions.specs.declared.Refusal.TheVariants.{OutsideLimits, OutOfRange}
use Rattle.definitions.specs.Rules.{Rules, edge_places}
use Rattle.definitions.specs.Refusals.{Test, ◌when◌}
use Rattle.definitions.specs.Lines.{outside}
use Rattle.definitions.specs.Case.{lower_end, upper_end, each_tuple, own_length, weight, greatest, upper_bound, barred}
use Rattle.definitions.specs.Valid.{carry_out}
use Rattle.definitions.specs.Moves.{Difference, table_of}

-- ---- "takes a link and its pairs away": what goes with variable i, and what stays

abbrev pub has_end : Case → ℕ → ℕ → Bool
has_end c i e = eqb (lower_end c e) i || eqb (upper_end c e) i

abbrev pub leaving_edges : Case → ℕ → List ℕ
leaving_edges c i = those (has_end c i) (below c.m)

abbrev pub staying_edges : Case → ℕ → List ℕ
staying_edges c i = those (λ e. not (has_end c i e)) (below c.m)

-- "its scopes": its own, and those of its edges
abbrev pub leaving_scopes : Case → ℕ → List ℕ
leaving_scopes c i = i ∷ map (λ e. c.n + e) (leaving_edges c i)

-- ---- "higher links and pairs move down"

-- the number of variable j after i has left, and the number that variable j had before
abbrev pub moved_down : ℕ → ℕ → ℕ
moved_down i j = if ltb i j then j - 1 else j

abbrev pub moved_up : ℕ → ℕ → ℕ
moved_up i j = if ltb j i then j else j + 1

-- the ends of edges in the places of a record, 0 past them
abbrev pub in_places : List ℕ → List ℕ
in_places ends = ends ++ replicate (edge_places - length ends) 0

-- the case that is left, with a carry
abbrev pub case_without : Case → ℕ → ℤ → Case
case_without c i carry = record {
  n = c.n - 1;
  d = c.d;
  m = length (staying_edges c i);
  lower = in_places (map (λ e. moved_down i (lower_end c e)) (staying_edges c i));
  upper = in_places (map (λ e. moved_down i (upper_end c e)) (staying_edges c i));
  carry = carry;
  rulebook = c.rulebook;
}

-- the number that scope y of the case that is left had before
abbrev pub scope_before : Case → ℕ → ℕ → ℕ
scope_before c i y = if ltb y (c.n - 1) then moved_up i y else c.n + get_or (staying_edges c i) (y - (c.n - 1)) 0

-- a table of these weights at the case's own places, as long as w, 0 past them
abbrev pub full_table : Case → Difference → List ℤ → List ℤ
full_table c f w = table_of c f ++ replicate (length w - own_length c) (pos 0)

-- both tables go along: each scope that stays keeps its weights
abbrev pub table_without : Case → ℕ → List ℤ → List ℤ
table_without c i w = full_table (case_without c i (pos 0)) (λ y k l. weight c w (scope_before c i y) k l) w

-- ---- the carry

-- a scope's least weight, which is asked where nothing in the scope is barred
abbrev pub least : Case → List ℤ → ℕ → ℤ
least c w x = smallest_of (each_tuple c x (weight c w x))

-- "the carry grows by the greatest working weights of its scopes less their least starting weights": starting weights w₀, working weights w
abbrev pub carry_after : Case → ℕ → List ℤ → List ℤ → ℤ
carry_after c i w₀ w = c.carry +ℤ sum (map (λ x. greatest c w x -ℤ least c w₀ x) (leaving_scopes c i))

abbrev pub some_barred : Case → List ℤ → ℕ → Bool
some_barred c w x = any (λ b. b) (each_tuple c x (barred c w x))

-- the case that is left, with the carry that it would have, and with carry 0
abbrev pub carried_case : Case → ℕ → List ℤ → List ℤ → Case
carried_case c i w₀ w = case_without c i (carry_after c i w₀ w)

abbrev pub fresh_case : Case → ℕ → Case
fresh_case c i = case_without c i (pos 0)

-- "Work restarts from the starting weights with carry 0 if any combination of those scopes is barred, if the carry would pass" its range, "or
-- if the fresh ceiling is not higher" than the one with the carry
abbrev pub restarts : Rules → Case → ℕ → List ℤ → List ℤ → Bool
restarts r c i w₀ w =
    any (some_barred c w₀) (leaving_scopes c i)
    || carry_out r (carried_case c i w₀ w)
    || not (lt_z (upper_bound (carried_case c i w₀ w) (table_without c i w)) (upper_bound (fresh_case c i) (table_without c i w₀)))

-- ---- numbers: "The last link cannot leave"

abbrev pub leave_tests : Case → Line → List Test
leave_tests c t = OutsideLimits when (not (ltb 1 c.n)) ∷ OutOfRange when (outside c.n t.a) ∷ []

-- ---- what is left: the case, its starting weights and its working weights

pub record WeightedCase : Type 0 where
  pub case : Case
  pub starting : List ℤ
  pub weights : List ℤ

abbrev pub left_by : Rules → Case → ℕ → List ℤ → List ℤ → WeightedCase
left_by r c i w₀ w =
    if restarts r c i w₀ w
    then record { case = fresh_case c i; starting = table_without c i w₀; weights = table_without c i w₀ }
    else record { case = carried_case c i w₀ w; starting = table_without c i w₀; weights = table_without c i w }
