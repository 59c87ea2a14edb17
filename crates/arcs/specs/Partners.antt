-- The search for partners: a row holds the marks of a value's partners. Assumes nothing.
use Rattle.std.specs.Prelude.{Bool, ◌&&◌, List, map, ℕ, ◌+◌, ltb, length, get_or, if◌then◌else◌, Option, unwrap_or}
use Rattle.integers.specs.Words.{below, any, those, first}
use Rattle.marks.specs.Marks.{mark, byte_of}

-- l is a partner in the set `other`
abbrev pub is_partner : ℕ → ℕ → ℕ → Bool
is_partner row other l = mark row l && mark other l

abbrev pub has_partner : ℕ → ℕ → Bool
has_partner row other = any (is_partner row other) (below 8)

-- the lowest partner in `other`, or that there is none
unfoldable pub lowest_in_both : ℕ → ℕ → Option ℕ
lowest_in_both row other = first (those (is_partner row other) (below 8))

-- the values of `set` that have a partner in `other`; the row of value k stands at place `at` + k
unfoldable pub supported_values : List ℕ → ℕ → ℕ → ℕ → ℕ
supported_values rows at set other = byte_of (λ k. mark set k && has_partner (get_or rows (at + k) 0) other)

-- ---- the lowest partner of each value, as bytes

abbrev pub byte_of_partner : Option ℕ → ℕ
byte_of_partner found = unwrap_or found 255

-- place k: the lowest partner of value k, where the set has it and there is a row for it; else what stood there
abbrev pub partner_at : List ℕ → ℕ → ℕ → List ℕ → ℕ → ℕ
partner_at rows set other partners k =
    if mark set k && ltb k (length rows) then byte_of_partner (lowest_in_both (get_or rows k 0) other) else get_or partners k 0

unfoldable pub lowest_partners : List ℕ → ℕ → ℕ → List ℕ → List ℕ
lowest_partners rows set other partners = map (partner_at rows set other partners) (below (length partners))
