-- Document 01: the limits and ranges of a case and its table, numbers 3 to 8 and 15, and which cases are valid; document 02, change 5: the carry's
-- range, and what lies past the case's own places. Assumes nothing.
use Rattle.std.specs.Prelude.{Bool, false, not, ◌&&◌, ◌||◌, List, [], ◌∷◌, ◌++◌, ℕ, ℤ, pos, ltb, eqb, length, get_or, take, drop, is_some}
use Rattle.integers.specs.Words.{below, all, any, within, within_z, minus, eq_z, ◌⇒◌}
use Rattle.definitions.specs.declared.Case.{Case}
use Rattle.definitions.specs.declared.Refusal.TheVariants.{
  OutsideLimits,
  WrongLength,
  OutOfRange,
  EndsNotAscending,
  EdgeRepeated,
  WeightOutOfRange,
  ScopeBarred,
}
use Rattle.definitions.specs.Rules.{Rules}
use Rattle.definitions.specs.Refusals.{Test, ◌when◌, first_refusal}
use Rattle.definitions.specs.Case.{scopes, lower_end, upper_end, own_length, lent_length, is_barred, wholly_barred}

-- the ranges of weights
abbrev pub in_starting : Rules → ℤ → Bool
in_starting r z = within_z (minus r.starting) (pos r.starting) z

abbrev pub in_working : Rules → ℤ → Bool
in_working r z = within_z (minus r.working) (pos r.working) z

-- what a table may hold at a tuple: a weight in its range, or that the tuple is barred
abbrev pub starting_weight : Rules → ℤ → Bool
starting_weight r z = is_barred z || in_starting r z

abbrev pub working_weight : Rules → ℤ → Bool
working_weight r z = is_barred z || in_working r z

-- all weights of the case are in a range
abbrev pub all_weights : (ℤ → Bool) → Case → List ℤ → Bool
all_weights range c w = all range (take (own_length c) w)

-- the table holds 0 from place p on
abbrev pub zeros_from : ℕ → List ℤ → Bool
zeros_from p w = all (λ z. eq_z z (pos 0)) (drop p w)

-- the carry is outside its range
abbrev pub carry_out : Rules → Case → Bool
carry_out r c = not (within_z (minus r.carried) (pos r.carried) c.carry)

-- how many variables, values and edges a case may have
abbrev pub within_limits : Rules → ℕ → ℕ → ℕ → Bool
within_limits r n d m = within 1 r.variables n && within 1 r.values d && within 0 r.edges m

abbrev pub some_edge : Case → (ℕ → Bool) → Bool
some_edge c f = any f (below c.m)

abbrev pub end_outside : Case → ℕ → Bool
end_outside c e = not (ltb (lower_end c e) c.n && ltb (upper_end c e) c.n)

abbrev pub same_ends : Case → ℕ → ℕ → Bool
same_ends c e f = eqb (lower_end c e) (lower_end c f) && eqb (upper_end c e) (upper_end c f)

-- a lent assignment has not the case's length; it holds a value outside its range
abbrev pub wrong_assignment : Case → List ℕ → Bool
wrong_assignment c p = not (eqb (length p) c.n)

abbrev pub value_out : Case → List ℕ → Bool
value_out c p = any (λ k. not (ltb k c.d)) p

-- The numbers asked of a case and a table, in checking order. A call that is lent more asks 4 and 5 of that too: `wrong` says that
-- something else lent has a wrong length, `out` that an argument is outside its range.
abbrev pub limit_test : Rules → Case → Test
limit_test r c = OutsideLimits when (not (within_limits r c.n c.d c.m))

abbrev pub length_test : Rules → Case → List ℤ → Bool → Test
length_test r c w wrong = WrongLength when (not (eqb (length w) (lent_length r c)) || wrong)

abbrev pub edge_tests : Rules → Case → Bool → List Test
edge_tests r c out =
    OutOfRange when (out || carry_out r c || some_edge c (end_outside c))
    ∷ EndsNotAscending when (some_edge c (λ e. not (ltb (lower_end c e) (upper_end c e))))
    ∷ EdgeRepeated when (some_edge c (λ e. any (same_ends c e) (below e)))
    ∷ []

abbrev pub weight_test : (ℤ → Bool) → Case → List ℤ → Test
weight_test range c w = WeightOutOfRange when (not (all_weights range c w && zeros_from (own_length c) w))

-- number 15, after 8
abbrev pub scope_test : Case → List ℤ → Test
scope_test c w = ScopeBarred when (any (wholly_barred c w) (scopes c))

abbrev pub handed_over : Rules → (ℤ → Bool) → Case → List ℤ → Bool → Bool → List Test
handed_over r range c w wrong out = limit_test r c ∷ length_test r c w wrong ∷ edge_tests r c out ++ (weight_test range c w ∷ scope_test c w ∷ [])

-- ---- a case, its starting weights w₀ and its working weights w, which are lent together (document 02, change 5)

-- the same tuples are barred in both tables
abbrev pub same_bars : Case → List ℤ → List ℤ → Bool
same_bars c w₀ w =
    let bar : List ℤ → ℕ → Bool = λ u p. is_barred (get_or u p (pos 0)) in
    all (λ p. (bar w₀ p ⇒ bar w p) && (bar w p ⇒ bar w₀ p)) (below (own_length c))

-- number 8: "not 0 there, or barred in one table only", where no weight of a join waits
abbrev pub both_weights : Rules → Case → List ℤ → List ℤ → Bool
both_weights r c w₀ w =
    all_weights (starting_weight r) c w₀ && zeros_from (own_length c) w₀ && all_weights (working_weight r) c w && zeros_from (own_length c) w && same_bars c w₀ w

-- a scope that is wholly barred is so in both tables
abbrev pub both_handed_over : Rules → Case → List ℤ → List ℤ → Bool → List Test
both_handed_over r c w₀ w out =
    limit_test r c ∷ length_test r c w (not (eqb (length w₀) (lent_length r c)))
    ∷ edge_tests r c out ++ (WeightOutOfRange when (not (both_weights r c w₀ w)) ∷ scope_test c w ∷ [])

-- a case and its starting weights are valid, as a case file has them, if no number applies, and the carry, which is in no file, is 0
abbrev pub valid : Rules → Case → List ℤ → Bool
valid r c w = not (is_some (first_refusal (handed_over r (starting_weight r) c w false false))) && eq_z c.carry (pos 0)
