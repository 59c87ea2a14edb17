-- Document 02, change 3, "Show the partner": why a value was kept. Raised scopes are given by a test, R x, as in Consistency. Assumes nothing.
use Rattle.std.specs.Prelude.{Bool, not, ◌&&◌, List, map, ℕ, ◌-◌, ℤ, if◌then◌else◌, Option, Some, None}
use Rattle.integers.specs.Words.{below, any, those, first, joined, is_in, bits_of}
use Rattle.definitions.specs.declared.Case.{Case}
use Rattle.definitions.specs.Case.{values, active}
use Rattle.definitions.specs.Consistency.{Family, allowed_on_edge, others, supported, families, marks, refuted}
use Rattle.definitions.specs.Moves.{end_variable, end_value}

-- the lowest active value of variable i that is not refuted with all other scopes raised
abbrev pub supported_value : Case → List ℤ → ℕ → Option ℕ
supported_value c w i = first (those (λ k. active c w i k 0 && not (refuted c w (is_in (others c i)) i k)) (values c))

-- the largest family with value k fixed for variable i: all supported families together
abbrev pub largest_family : Case → List ℤ → (ℕ → Bool) → ℕ → ℕ → Family
largest_family c w R i k j v = any (λ F. supported c w R i k (marks F) && marks F j v) (families c)

-- v at that end of edge e (0 the lower, 1 the upper) and u at the other are a tuple that is allowed
abbrev pub allowed_across : Case → List ℤ → (ℕ → Bool) → ℕ → ℕ → ℕ → ℕ → Bool
allowed_across c w R e end v u = allowed_on_edge c w R e (end_value end v u) (end_value end u v)

-- the lowest partner of value v at that end of edge e: in the family's set at the other end
abbrev pub lowest_partner : Case → List ℤ → (ℕ → Bool) → Family → ℕ → ℕ → ℕ → Option ℕ
lowest_partner c w R S e end v = first (those (λ u. S (end_variable c e (1 - end)) u && allowed_across c w R e end v u) (values c))

-- ---- as bytes

-- a byte for each variable, bit k for value k
abbrev pub family_bytes : Case → Family → List ℕ
family_bytes c S = map (λ j. bits_of c.d (S j)) (below c.n)

-- a value outside the family
abbrev pub outside : ℕ
outside = 255

abbrev pub partner_byte : Option ℕ → ℕ
partner_byte None = outside
partner_byte (Some u) = u

-- the byte of value v at that end of edge e
abbrev pub value_byte : Case → List ℤ → (ℕ → Bool) → Family → ℕ → ℕ → ℕ → ℕ
value_byte c w R S e end v = if S (end_variable c e end) v then partner_byte (lowest_partner c w R S e end v) else outside

-- all of them, by edge, end and value
abbrev pub partner_bytes : Case → List ℤ → (ℕ → Bool) → Family → List ℕ
partner_bytes c w R S = joined (map (λ e. joined (map (λ end. map (value_byte c w R S e end) (values c)) (below 2))) (below c.m))
