-- The least gap of a variable's own scope and raised scopes, on all input. A weight's gap is how far it lies below its scope's number in
-- `best`; a barred tuple's number sets none. Assumes nothing.
use Rattle.definitions.specs.Answers.{answer_of}
use Rattle.definitions.specs.declared.Refusal.{Refusal}
use Rattle.std.specs.Prelude.{Bool, not, ◌&&◌, ◌||◌, List, [], ◌∷◌, ℕ, zero, suc, ◌^◌, ◌<◌, ℤ, pos, ◌-ℤ◌, T, eqb, ltb, ◌≤ℤ◌, length, get_or, if◌then◌else◌, Result, Option, Some, None}
use Rattle.std.specs.Int.Signed.{le_z, lt_z}
use Rattle.integers.specs.Words.{minus, min_z, within_z}
use Rattle.definitions.specs.declared.Case.{Case}
use Rattle.definitions.specs.declared.Refusal.TheVariants.{OutOfRange}
use Rattle.definitions.specs.Rules.{Rules}
use Rattle.definitions.specs.Refusals.{◌when◌, first_refusal}
use Rattle.definitions.specs.Case.{scope_count, barred_weight}
use Rattle.definitions.specs.Valid.{in_working, carry_out, limit_test, length_test}
use Rattle.tables.specs.Scopes.{scope_part, best_at, range_test, carry_test}

-- more than any gap of working weights; the answer where no gap is less
abbrev pub no_gap : ℕ
no_gap = 4_611_686_018_427_387_904

-- the engine's amount as it is answered, if there is one (proofs/Amounts)
abbrev pub else_no_gap : Option ℤ → ℤ
else_no_gap None = pos no_gap
else_no_gap (Some a) = a

-- weights from which no_gap can be subtracted in 64 bits
abbrev pub small_weight : ℤ → Bool
small_weight z = within_z (minus (10 ^ 17)) (pos (10 ^ 17)) z

abbrev pub IsGap : ℤ → Type 0
IsGap z = (pos 0 ≤ℤ z) × (z ≤ℤ pos no_gap)

-- scope x limits the amount: it is variable i's own, or its byte marks it as raised
abbrev pub limits_by : ℕ → ℕ → ℕ → Bool
limits_by mark i x = eqb x i || not (eqb mark 0)

abbrev pub limits : List ℕ → ℕ → ℕ → Bool
limits raised i x = limits_by (get_or raised x 0) i x

-- a weight below `best` sets a gap, unless it is a barred tuple's number or lies below that, as no weight of a case does
abbrev pub sets_gap : ℤ → ℤ → Bool
sets_gap best z = lt_z barred_weight z && lt_z z best

-- the lesser of `least` and that gap
abbrev pub lesser_gap : ℤ → ℤ → ℤ → ℤ
lesser_gap best z least = if sets_gap best z then min_z least (best -ℤ z) else least

-- over the weights of a scope
unfoldable pub less_gaps : ℤ → List ℤ → ℤ → ℤ
less_gaps best [] least = least
less_gaps best (z ∷ zs) least = less_gaps best zs (lesser_gap best z least)

-- what raises a floor: a weight above it and below `best`
abbrev pub higher_floor : ℤ → ℤ → ℤ → ℤ
higher_floor best z floor = if le_z best z then floor else if le_z z floor then floor else z

-- over the scopes below x that limit the amount
unfoldable pub gap_below : Case → List ℤ → List ℤ → List ℕ → ℕ → ℕ → ℤ
gap_below c w best raised i zero = pos no_gap
gap_below c w best raised i (suc x) =
    if limits raised i x then less_gaps (best_at best x) (scope_part c w x) (gap_below c w best raised i x) else gap_below c w best raised i x

module _ (r : Rules) where
  -- all numbers in `best` are in the range of working weights
  abbrev pub AllWorking : Case → List ℤ → Type 0
  AllWorking c best = (x : ℕ) → x < scope_count c → T (in_working r (best_at best x))

  abbrev pub gap_in_range : Case → List ℤ → List ℤ → List ℕ → ℕ → Result ℤ Refusal
  gap_in_range c w best raised i = answer_of (first_refusal (carry_test r c ∷ range_test r c (best_at best) ∷ [])) (gap_below c w best raised i (scope_count c))

  -- numbers 3, 4, 5 of the arguments and the carry, and 8 of the numbers in `best`
  unfoldable pub least_gap_answer : Case → List ℤ → List ℤ → List ℕ → ℕ → Result ℤ Refusal
  least_gap_answer c w best raised i =
      answer_of
      (first_refusal (
      limit_test r c
      ∷ length_test r c w (ltb (length best) (scope_count c) || ltb (length raised) (scope_count c))
      ∷ OutOfRange when (not (ltb i c.n) || carry_out r c)
      ∷ range_test r c (best_at best)
      ∷ []
      ))
      (gap_below c w best raised i (scope_count c))
