-- Whether a pair's round leaves the working range, and the lowest pair whose round the engine makes, on all input. Assumes nothing.
use Rattle.std.specs.Prelude.{Bool, not, ◌&&◌, ◌||◌, List, ℕ, ◌+◌, ◌*◌, ℤ, pos, ◌+ℤ◌, ◌-ℤ◌, ltb, length, get_or, if◌then◌else◌, Option, None}
use Rattle.std.specs.Int.Signed.{le_z}
use Rattle.integers.specs.Words.{below, any, those, first}
use Rattle.definitions.specs.declared.Case.{Case}
use Rattle.definitions.specs.Rules.{Rules}
use Rattle.definitions.specs.Case.{values, lower_end, upper_end, scope_count, weight, barred_weight, is_barred}
use Rattle.definitions.specs.Valid.{in_working, end_outside}
use Rattle.marks.specs.Marks.{mark}
use Rattle.tables.specs.Scopes.{best_at, is_sized}
use Rattle.arcs.specs.Partners.{has_partner}
use Rattle.pair_choice.specs.declared.Asked.{Asked}

-- ---- what is asked of a pair's tuples

-- what the round shifts of a value with weight z
abbrev pub shifted_of : ℤ → ℤ
shifted_of z = if is_barred z then pos 0 else z

abbrev pub all_working : Rules → ℤ → ℤ → ℤ → Bool
all_working r a b z = in_working r a && (in_working r b && in_working r z)

-- The weight z of a tuple and what is shifted of its values at the lower and the upper end are in the range of working weights; and so is what z
-- becomes when the lower value's is shifted into it, and then the upper value's, which is at most `most`.
abbrev pub tuple_stays : Rules → ℤ → ℤ → ℤ → ℤ → Bool
tuple_stays r own other z most =
    all_working r own other z && (in_working r (z +ℤ own) && (in_working r ((own +ℤ other) +ℤ z) && le_z ((own +ℤ other) +ℤ z) most))

-- a tuple that is not barred passes the range or `most`, by the weights of its values and its own
abbrev pub tuple_passes : Rules → ℤ → ℤ → ℤ → ℤ → Bool
tuple_passes r own other z most = not (is_barred z) && not (tuple_stays r (shifted_of own) (shifted_of other) z most)

-- none of the three is barred
abbrev pub is_free : ℤ → ℤ → ℤ → Bool
is_free own other z = not (is_barred own) && (not (is_barred other) && not (is_barred z))

abbrev pub is_asked : Rules → Asked → ℤ → ℤ → ℤ → Bool
is_asked r (Asked.Passes most) own other z = tuple_passes r own other z most
is_asked r Asked.Choice own other z = is_free own other z

-- it is so for some values
abbrev pub tuples_have : Rules → Case → List ℤ → ℕ → Asked → Bool
tuples_have r c w e asked =
    any (λ k. any (λ l. is_asked r asked (weight c w (lower_end c e) k 0) (weight c w (upper_end c e) l 0) (weight c w (c.n + e) k l)) (values c)) (values c)

-- ---- the range

-- where an end is no variable, there is no round
abbrev pub round_leaves : Rules → Case → List ℤ → ℕ → Bool
round_leaves r c w e = end_outside c e || tuples_have r c w e (Asked.Passes (pos r.working))

-- the round of edge e leaves the range, or there is none
unfoldable pub leaves_by : Rules → Case → List ℤ → ℕ → Bool
leaves_by r c w e = not (is_sized r c (length w)) || (not (ltb e c.m) || round_leaves r c w e)

-- ---- the pair

-- a value of `set` has a partner in `other`; the row of value k stands at place `at` + k
unfoldable pub has_choice : List ℕ → ℕ → ℕ → ℕ → Bool
has_choice rows at set other = any (λ k. mark set k && has_partner (get_or rows (at + k) 0) other) (below 8)

-- values of both ends of edge e are active together with the tuple that they make; an end that `acts` does not reach has no active value
abbrev pub active_choice : Case → List ℕ → List ℕ → ℕ → Bool
active_choice c acts rows e = has_choice rows (16 * e) (get_or acts (lower_end c e) 0) (get_or acts (upper_end c e) 0)

-- one less than these three, or a number below every weight if one is not in the range
abbrev pub less_one : Rules → ℤ → ℤ → ℤ → ℤ
less_one r a b z = if all_working r a b z then ((a +ℤ b) +ℤ z) -ℤ pos 1 else barred_weight

-- the most that a tuple may come to in a round that lowers the upper bound, by the greatest weight of each scope
abbrev pub most_left : Rules → Case → List ℤ → ℕ → ℤ
most_left r c best e = less_one r (best_at best (lower_end c e)) (best_at best (upper_end c e)) (best_at best (c.n + e))

-- the pair has a choice, and its round stays in the range and lowers the upper bound
abbrev pub takes_round : Rules → Case → List ℤ → List ℤ → ℕ → Bool
takes_round r c w best e = not (end_outside c e) && (not (tuples_have r c w e (Asked.Passes (most_left r c best e))) && tuples_have r c w e Asked.Choice)

abbrev pub takes_pair : Rules → Case → List ℤ → List ℤ → List ℕ → List ℕ → ℕ → Bool
takes_pair r c w best acts rows e = not (active_choice c acts rows e) && takes_round r c w best e

-- there are too few bytes
abbrev pub marks_short : Case → ℕ → ℕ → Bool
marks_short c acts rows = ltb acts c.n || ltb rows (16 * c.m)

-- numbers 3 and 4: nothing
unfoldable pub lowest_pair_answer : Rules → Case → List ℤ → List ℤ → List ℕ → List ℕ → Option ℕ
lowest_pair_answer r c w best acts rows =
    if is_sized r c (length w) && not (ltb (length best) (scope_count c) || marks_short c (length acts) (length rows))
    then first (those (takes_pair r c w best acts rows) (below c.m))
    else None

-- ---- the private functions, over places in the table

abbrev pub at_place : List ℤ → ℕ → ℤ
at_place w p = get_or w p (pos 0)

-- for one of the d weights from `upper` on, with that at `own` and with that of their tuple, from `row` on
abbrev pub row_has : Rules → List ℤ → Asked → ℕ → ℕ → ℕ → ℕ → Bool
row_has r w asked own upper row d = any (λ l. is_asked r asked (at_place w own) (at_place w (upper + l)) (at_place w (row + l))) (below d)

-- for one of the d weights from `lower` on, with those from `upper` on; the d rows of their tuples stand from `at` on
abbrev pub rows_have : Rules → List ℤ → Asked → ℕ → ℕ → ℕ → ℕ → Bool
rows_have r w asked lower upper at d = any (λ k. row_has r w asked (lower + k) upper (at + k * d) d) (below d)
