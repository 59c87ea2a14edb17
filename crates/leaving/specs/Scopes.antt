-- The scopes that stay and those that leave, one after the other. Assumes nothing.
use Rattle.std.specs.Prelude.{◌≡◌, Bool, not, ◌&&◌, List, [], ◌++◌, map, ℕ, ◌+◌, ◌≤◌, ℤ, pos, ◌-ℤ◌, eqb, length, take, drop, if◌then◌else◌}
use Rattle.integers.specs.Words.{below, those, joined}
use Rattle.definitions.specs.declared.Case.{Case}
use Rattle.definitions.specs.Case.{is_variable, edge_of, greatest}
use Rattle.logs.specs.Leave.{has_end, moved_down, in_places, least, some_barred}
use Rattle.tables.specs.Scopes.{scope_part}

-- ---- scopes that leave: what each adds to the carry, and whether a tuple of it is barred

abbrev pub growth : Case → List ℤ → List ℤ → ℕ → ℤ
growth c w₀ w x = greatest c w x -ℤ least c w₀ x

abbrev pub edge_growth : Case → List ℤ → List ℤ → ℕ → ℕ → ℤ
edge_growth c w₀ w i e = if has_end c i e then growth c w₀ w (c.n + e) else pos 0

abbrev pub edge_barred : Case → List ℤ → ℕ → ℕ → Bool
edge_barred c w₀ i e = has_end c i e && some_barred c w₀ (c.n + e)

-- ---- edges that stay

-- those of the first e edges, and their ends in the places of a record
abbrev pub staying_to : Case → ℕ → ℕ → List ℕ
staying_to c i e = those (λ e. not (has_end c i e)) (below e)

abbrev pub ends_left : Case → (ℕ → ℕ) → ℕ → ℕ → List ℕ
ends_left c end i e = in_places (map (λ e. moved_down i (end e)) (staying_to c i e))

-- ---- scopes that stay

abbrev pub stays : Case → ℕ → ℕ → Bool
stays c i x = if is_variable c x then not (eqb x i) else not (has_end c i (edge_of c x))

-- the weights of those of the first x scopes that stay
abbrev pub kept_to : Case → ℕ → List ℤ → ℕ → List ℤ
kept_to c i w x = joined (map (scope_part c w) (those (stays c i) (below x)))

-- the part of u of this size is kept at place `to` of v, or left out; what follows it in u stays in v
pub record KeptPart (u v : List ℤ) (from to size : ℕ) (stay : Bool) (next : ℕ) : Type 0 where
  pub long : length v ≡ length u
  pub room : next ≤ from + size
  pub front : take next v ≡ take to u ++ (if stay then take size (drop from u) else [])
  pub rest : drop (from + size) v ≡ drop (from + size) u
