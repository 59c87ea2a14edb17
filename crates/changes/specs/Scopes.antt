-- A scope's weights changed, each by its place in the scope and by whether it is the number kept for the scope; what is asked and added in a
-- scope where values of a variable are lowered and scopes are raised. Assumes nothing.
use Rattle.std.specs.Prelude.{◌≡◌, Bool, not, ◌&&◌, ◌||◌, List, map, ℕ, ◌+◌, ◌*◌, ◌<◌, ℤ, pos, neg_ℤ, ◌+ℤ◌, ◌-ℤ◌, T, eqb, length, get_or, if◌then◌else◌}
use Rattle.std.specs.Int.Signed.{le_z}
use Rattle.std.specs.Int.{w64}
use Rattle.std.proofs.Common.{SFits}
use Rattle.integers.specs.Words.{◌⇒◌, below, all, minus, eq_z, within_z}
use Rattle.definitions.specs.declared.Case.{Case}
use Rattle.definitions.specs.Rules.{Rules, rules_of}
use Rattle.definitions.specs.Case.{scope_count, scopes, is_variable, lent_length, weight}
use Rattle.definitions.specs.Moves.{Difference, only_where}
use Rattle.tables.specs.Scopes.{Limited, scope_part, best_at}
use Rattle.marks.specs.Marks.{mark}
use Rattle.changes.specs.Spaced.{amount_within, weight_at, sparing, weight_with, stays_with}

-- what the weight z at place p of a scope gets
abbrev pub Amount : Type 0
Amount = ℕ → ℤ → ℤ

-- `rest`, unless it is `best`
abbrev pub raised_by : ℤ → ℤ → Amount
raised_by best rest p z = if eq_z z best then pos 0 else rest

-- the same, less a at the marked places
abbrev pub lowered_by : ℕ → ℤ → ℤ → ℤ → Amount
lowered_by values a best rest p z = only_where (mark values p) (neg_ℤ a) +ℤ raised_by best rest p z

-- amounts that may be added, and amounts that fit a machine word
abbrev pub Amounts : Rules → Amount → Type 0
Amounts r by = (p : ℕ) (z : ℤ) → T (amount_within r (by p z))

abbrev pub AmountsFit : Amount → Type 0
AmountsFit by = (p : ℕ) (z : ℤ) → SFits w64 (by p z)

-- the weight at a place, with what it gets
abbrev pub weight_after : Amount → List ℤ → ℕ → ℤ
weight_after by part p = weight_with (weight_at part p) (by p (weight_at part p))

-- they keep their range, they fit a machine word; all of them
abbrev pub part_stays : Rules → Amount → List ℤ → Bool
part_stays r by part = all (λ p. stays_with r (weight_at part p) (by p (weight_at part p))) (below (length part))

-- they are in their range with and without `rest`
abbrev pub has_room : Rules → ℤ → List ℤ → Bool
has_room r rest part = le_z (pos 0) rest && all (within_z (minus r.working) (pos r.working -ℤ rest)) part

abbrev pub PartFits : Amount → List ℤ → Type 0
PartFits by part = (p : ℕ) → p < length part → SFits w64 (weight_after by part p)

abbrev pub part_after : Amount → List ℤ → List ℤ
part_after by part = map (weight_after by part) (below (length part))

-- scope x of a table of the case's length
pub record InScope (c : Case) (w : List ℤ) (x : ℕ) : Type 0 where
  pub limited : Limited c
  pub long : length w ≡ lent_length (rules_of c) c
  pub scope : x < scope_count c

-- the place of a tuple in its scope
abbrev pub place_in : Case → ℕ → ℕ → ℕ → ℕ
place_in c x k l = if is_variable c x then k else k * c.d + l

-- what the tuples of scope x get
abbrev pub scope_by : Case → List ℤ → ℕ → Amount → Difference
scope_by c w x by y k l = only_where (eqb y x) (sparing (weight c w x k l) (by (place_in c x k l) (weight c w x k l)))

-- ---- values of variable i lowered by a and raised scopes raised by a, in scope x whose byte is `mark`

abbrev pub values_in : ℕ → ℕ → ℕ → ℕ
values_in i values x = if eqb x i then values else 0

abbrev pub rest_of : ℕ → ℤ → ℤ
rest_of mark a = only_where (not (eqb mark 0)) a

abbrev pub is_touched : ℕ → ℕ → ℕ → Bool
is_touched i x mark = eqb x i || not (eqb mark 0)

abbrev pub scope_gets : ℕ → ℕ → ℤ → ℕ → ℕ → ℤ → Amount
scope_gets i values a x mark best = lowered_by (values_in i values x) a best (rest_of mark a)

abbrev pub scope_lets : Rules → Case → List ℤ → ℕ → ℕ → ℤ → ℕ → ℕ → ℤ → Bool
scope_lets r c w i values a x mark best = is_touched i x mark ⇒ part_stays r (scope_gets i values a x mark best) (scope_part c w x)

abbrev pub lowering_lets : Rules → Case → List ℤ → List ℤ → List ℕ → ℕ → ℕ → ℤ → Bool
lowering_lets r c w best raised i values a = all (λ x. scope_lets r c w i values a x (get_or raised x 0) (best_at best x)) (scopes c)
