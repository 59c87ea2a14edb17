-- Values without a supported family, where `best` holds a number for each scope and in raised scopes the tuples of another weight are
-- forbidden. What is prepared as bytes, and the answers on all input. Assumes nothing.
use Rattle.definitions.specs.Answers.{answer_of}
use Rattle.std.specs.Prelude.{Bool, true, false, not, ◌||◌, List, [], ◌∷◌, map, ℕ, ◌+◌, ℤ, ltb, length, take, drop, if◌then◌else◌, Result, Option}
use Rattle.integers.specs.Words.{below, joined}
use Rattle.definitions.specs.declared.Case.{Case}
use Rattle.definitions.specs.declared.Refusal.{Refusal}
use Rattle.definitions.specs.declared.Refusal.TheVariants.{OutOfRange}
use Rattle.definitions.specs.Rules.{Rules}
use Rattle.definitions.specs.Refusals.{◌when◌, first_refusal}
use Rattle.definitions.specs.Case.{scope_count}
use Rattle.definitions.specs.Valid.{limit_test, length_test, some_edge, end_outside}
use Rattle.calls.specs.Calls.{is_raised}
use Rattle.marks.specs.Marks.{full_of}
use Rattle.arcs.specs.Active.{set_where, row_where, has_best}
use Rattle.arcs.specs.Tried.{tried_answer}
use Rattle.arcs.specs.declared.Tried.{Tried}
use Rattle.arcs.specs.declared.Tried.TheVariants.{Malformed, Unsupported, Supported}

-- the allowed values of variable j, and the sixteen bytes of edge e, which are never looked at if it is not raised
abbrev pub allowed_best : Case → List ℤ → List ℤ → List ℕ → ℕ → ℕ
allowed_best c w best raised j = if is_raised raised j then set_where c (has_best c w best) j else full_of c.d

abbrev pub partners_best : Case → List ℤ → List ℤ → List ℕ → ℕ → ℕ → ℕ
partners_best c w best raised e p = if is_raised raised (c.n + e) then row_where c (has_best c w best) e p else 0

unfoldable pub best_sets : Case → List ℤ → List ℤ → List ℕ → List ℕ
best_sets c w best raised = map (allowed_best c w best raised) (below c.n)

unfoldable pub best_rows : Case → List ℤ → List ℤ → List ℕ → List ℕ
best_rows c w best raised = joined (map (λ e. map (partners_best c w best raised e) (below 16)) (below c.m))

abbrev pub is_unsupported : Tried → Bool
is_unsupported Unsupported = true
is_unsupported Supported = false
is_unsupported Malformed = false

-- no value of `values`, fixed alone for variable i, has a supported family
unfoldable pub are_unsupported : Case → List ℤ → List ℤ → List ℕ → ℕ → ℕ → Bool
are_unsupported c w best raised i values =
    is_unsupported (tried_answer c.lower c.upper (best_rows c w best raised) (take c.m (drop c.n raised)) (best_sets c w best raised) i values)

abbrev pub too_few : Case → List ℤ → List ℕ → Bool
too_few c best raised = ltb (length best) (scope_count c) || ltb (length raised) (scope_count c)

module _ (r : Rules) where
  -- numbers 3, 4 and 5
  abbrev pub best_refusal : Case → List ℤ → List ℤ → List ℕ → ℕ → Option Refusal
  best_refusal c w best raised i =
      first_refusal (limit_test r c ∷ length_test r c w (too_few c best raised) ∷ OutOfRange when (not (ltb i c.n) || some_edge c (end_outside c)) ∷ [])

  unfoldable pub values_unsupported_answer : Case → List ℤ → List ℤ → List ℕ → ℕ → ℕ → Result Bool Refusal
  values_unsupported_answer c w best raised i values = answer_of (best_refusal c w best raised i) (are_unsupported c w best raised i values)

  -- the values whose weight is the number of the variable's own scope
  abbrev pub best_unsupported_answer : Case → List ℤ → List ℤ → List ℕ → ℕ → Result Bool Refusal
  best_unsupported_answer c w best raised i = values_unsupported_answer c w best raised i (set_where c (has_best c w best) i)
