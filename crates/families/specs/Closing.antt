-- What is left of value sets with one value alone for a variable, over a table's marks with all edges raised; and a value's partners as bytes.
-- Assumes nothing.
use Rattle.std.specs.Prelude.{Bool, true, false, List, map, ℕ, ◌+◌, ◌*◌, ◌-◌, ◌≤◌, ◌<◌, ℤ, length, get_or, set, take, replicate, if◌then◌else◌, Option}
use Rattle.integers.specs.Words.{below, joined}
use Rattle.definitions.specs.declared.Case.{Case}
use Rattle.definitions.specs.Rules.{rules_of, edge_places}
use Rattle.definitions.specs.Case.{lower_end, upper_end}
use Rattle.definitions.specs.Valid.{working_weight}
use Rattle.definitions.specs.Families.{outside}
use Rattle.definitions.specs.Moves.{end_variable}
use Rattle.theory.proofs.Validity.{Handed}
use Rattle.marks.specs.Marks.{mark, byte_of, only_of}
use Rattle.arcs.specs.Closure.{closure_answer, closure_sets}
use Rattle.arcs.specs.Partners.{lowest_in_both, byte_of_partner}
use Rattle.arcs.specs.declared.Closed.{Closed}
use Rattle.arcs.specs.declared.Closed.TheVariants.{Family, Empty, Malformed}

abbrev pub is_family : Closed → Bool
is_family Family = true
is_family Empty = false
is_family Malformed = false

-- every edge is raised
abbrev pub all_raised : Case → List ℕ
all_raised c = take c.m (replicate edge_places 1)

module _ (c : Case) (rows sets : List ℕ) (i : ℕ) where
  -- the sets of the case's variables, with value k alone for variable i
  abbrev pub fixed_in : ℕ → List ℕ
  fixed_in k = set (take c.n sets) i (only_of k)

  unfoldable pub left_answer : ℕ → Closed
  left_answer k = closure_answer c.lower c.upper rows (all_raised c) (fixed_in k)

  unfoldable pub left_sets : ℕ → List ℕ
  left_sets k = closure_sets c.lower c.upper rows (all_raised c) (fixed_in k)

  abbrev pub leaves : ℕ → Bool
  leaves k = is_family (left_answer k)

  -- the lowest value of variable i's set with which a family is left
  abbrev pub lowest_left : Option ℕ
  lowest_left = lowest_in_both (get_or sets i 0) (byte_of leaves)

-- the byte of value v at an end of an edge whose set is `own`, the other end's being `other`; its partners stand at place `at` + v
abbrev pub partner_in : List ℕ → ℕ → ℕ → ℕ → ℕ → ℕ
partner_in rows at own other v = if mark own v then byte_of_partner (lowest_in_both (get_or rows (at + v) 0) other) else outside

-- the bytes of edge e: those of its lower end's values, then of its upper end's
abbrev pub end_bytes : Case → List ℕ → List ℕ → ℕ → ℕ → List ℕ
end_bytes c rows sets e end =
    map (partner_in rows (16 * e + 8 * end) (get_or sets (end_variable c e end) 0) (get_or sets (end_variable c e (1 - end)) 0)) (below c.d)

unfoldable pub edge_bytes : Case → List ℕ → List ℕ → ℕ → List ℕ
edge_bytes c rows sets e = joined (map (end_bytes c rows sets e) (below 2))

unfoldable pub all_bytes : Case → List ℕ → List ℕ → List ℕ
all_bytes c rows sets = joined (map (edge_bytes c rows sets) (below c.m))

-- ---- what the private functions ask

-- the ends of edges have a set
abbrev pub Joined : Case → ℕ → Type 0
Joined c n = (e : ℕ) → e < c.m → (lower_end c e < n) × (upper_end c e < n)

-- no number but the last applies
pub record Checked (c : Case) (w : List ℤ) (i : ℕ) (family partners : List ℕ) : Type 0 where
  pub handed : Handed (rules_of c) (working_weight (rules_of c)) c w
  pub in-range : i < c.n
  pub family-room : c.n ≤ length family
  pub partners-room : c.m * (2 * c.d) ≤ length partners
