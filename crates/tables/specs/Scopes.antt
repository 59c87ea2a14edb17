-- The limits of a case as facts, the part of a table that belongs to a scope, each scope's greatest weight kept beside the table, and sums
-- over scopes on all input. Assumes nothing.
use Rattle.std.specs.Prelude.{◌≡◌, Bool, false, not, ◌&&◌, ◌||◌, List, [], ◌∷◌, ◌++◌, map, ℕ, ◌+◌, ◌*◌, ◌≤◌, ◌<◌, ℤ, pos, ◌+ℤ◌, eqb, ltb, length, get_or, take, drop, if◌then◌else◌, Result, Option, ⊤}
use Rattle.integers.specs.Words.{any, sum, within_z}
use Rattle.definitions.specs.declared.Rulebook.TheVariants.{Desk}
use Rattle.definitions.specs.declared.Case.{Case}
use Rattle.definitions.specs.declared.Refusal.{Refusal}
use Rattle.definitions.specs.declared.Refusal.TheVariants.{WrongLength, OutOfRange, WeightOutOfRange}
use Rattle.definitions.specs.Rules.{Rules, rules_of, variable_places, edge_places, scope_places}
use Rattle.definitions.specs.Refusals.{Test, ◌when◌, first_refusal}
use Rattle.definitions.specs.Answers.{outcome_of, unless_refused, answer_of}
use Rattle.definitions.specs.Case.{scope_count, scopes, is_variable, place, own_length, lent_length, greatest, upper_bound, is_barred}
use Rattle.definitions.specs.Valid.{in_working, all_weights, within_limits, carry_out, limit_test, length_test, edge_tests, weight_test, scope_test}

-- the case is within its rules' limits, and so within plain bounds
pub record Limited (c : Case) : Type 0 where
  pub some-variable : 1 ≤ c.n
  pub variables : c.n ≤ (rules_of c).variables
  pub some-value : 1 ≤ c.d
  pub values : c.d ≤ (rules_of c).values
  pub edges : c.m ≤ (rules_of c).edges
  pub variables-few : c.n ≤ 256
  pub values-few : c.d ≤ 8
  pub variables-placed : c.n ≤ variable_places
  pub edges_placed : c.m ≤ edge_places
  pub scopes-placed : c.n + c.m ≤ scope_places
  pub own-lent : own_length c ≤ lent_length (rules_of c) c

-- a case of n variables with d values, as far as places are asked
abbrev pub of_size : ℕ → ℕ → Case
of_size n d = record { n = n; d = d; m = 0; lower = []; upper = []; carry = pos 0; rulebook = Desk }

-- how many tuples scope x has
abbrev pub size_of : Case → ℕ → ℕ
size_of c x = if is_variable c x then c.d else c.d * c.d

-- what a table may hold at a tuple, by the ends of the range of weights
abbrev pub holdable : ℤ → ℤ → ℤ → Bool
holdable low high z = is_barred z || within_z low high z

-- what is asked before the weights, of a table of this length: 3 to 7
abbrev pub front_tests : Rules → Case → ℕ → Bool → Bool → List Test
front_tests r c long wrong out = limit_test r c ∷ WrongLength when (not (eqb long (lent_length r c)) || wrong) ∷ edge_tests r c out

-- what is asked of the weights of a table of the right length: 8 and 15; of those at the own places
abbrev pub own_tests : Case → List ℤ → ℤ → ℤ → List Test
own_tests c w low high = WeightOutOfRange when (not (all_weights (holdable low high) c w)) ∷ scope_test c w ∷ []

abbrev pub tuple_tests : Case → List ℤ → ℤ → ℤ → List Test
tuple_tests c w low high = weight_test (holdable low high) c w ∷ scope_test c w ∷ []

-- the weights of scope x
abbrev pub scope_part : Case → List ℤ → ℕ → List ℤ
scope_part c w x = take (size_of c x) (drop (place c x 0 0) w)

-- ---- each scope's greatest weight, kept in the first s places of `best`

abbrev pub best_at : List ℤ → ℕ → ℤ
best_at best x = get_or best x (pos 0)

pub record BestOf (c : Case) (w best : List ℤ) : Type 0 where
  pub enough : scope_count c ≤ length best
  pub holds : (x : ℕ) → x < scope_count c → best_at best x ≡ greatest c w x

-- the first numbers of a lent output are these, the others keep what they held
abbrev pub written_over : List ℤ → List ℤ → List ℤ
written_over zs out = zs ++ drop (length zs) out

-- a call that writes to `best`
pub record BestCall : Type 0 where
  pub answer : Result ⊤ Refusal
  pub best : List ℤ

module _ (r : Rules) where
  -- numbers 3 and 4
  abbrev pub greatest_refusal : Case → List ℤ → List ℤ → Option Refusal
  greatest_refusal c w best = first_refusal (limit_test r c ∷ length_test r c w (ltb (length best) (scope_count c)) ∷ [])

  unfoldable pub greatest_call : Case → List ℤ → List ℤ → BestCall
  greatest_call c w best = record {
    answer = outcome_of (greatest_refusal c w best);
    best = unless_refused (greatest_refusal c w best) (written_over (map (greatest c w) (scopes c)) best) best;
  }

  -- numbers 3 and 4 do not apply to a table of this length
  abbrev pub is_sized : Case → ℕ → Bool
  is_sized c long = within_limits r c.n c.d c.m && eqb long (lent_length r c)

  -- the weights of scope x; none where the limits or the table's length are wrong or there is no such scope
  unfoldable pub scope_weights : Case → List ℤ → ℕ → List ℤ
  scope_weights c w x = if is_sized c (length w) && ltb x (scope_count c) then scope_part c w x else []

  -- ---- sums over scopes

  -- number 8: some scope's number is outside the range of working weights
  abbrev pub range_test : Case → (ℕ → ℤ) → Test
  range_test c f = WeightOutOfRange when (any (λ x. not (in_working r (f x))) (scopes c))

  -- number 5: the carry is outside its range
  abbrev pub carry_test : Case → Test
  carry_test c = OutOfRange when (carry_out r c)

  -- the sum of each scope's number and the carry, if all are in their ranges
  abbrev pub sum_in_range : Case → (ℕ → ℤ) → Result ℤ Refusal
  sum_in_range c f = answer_of (first_refusal (carry_test c ∷ range_test c f ∷ [])) (sum (map f (scopes c)) +ℤ c.carry)

  -- of each scope's greatest weight: numbers 3, 4, 5 and 8
  unfoldable pub greatest_sum : Case → List ℤ → Result ℤ Refusal
  greatest_sum c w = answer_of (first_refusal (limit_test r c ∷ length_test r c w false ∷ carry_test c ∷ range_test c (greatest c w) ∷ [])) (upper_bound c w)

  -- of the first s numbers in `best`: numbers 3, 4, 5 and 8
  unfoldable pub best_sum : Case → List ℤ → Result ℤ Refusal
  best_sum c best =
      answer_of
      (first_refusal (limit_test r c ∷ WrongLength when (ltb (length best) (scope_count c)) ∷ carry_test c ∷ range_test c (best_at best) ∷ []))
      (sum (map (best_at best) (scopes c)) +ℤ c.carry)
