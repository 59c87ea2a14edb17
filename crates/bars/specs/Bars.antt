-- What a void line asks to be barred, over each scope's greatest weight kept in `best`, on all input. Assumes nothing.
use Rattle.std.specs.Prelude.{Bool, not, ◌&&◌, ◌||◌, List, ℕ, ℤ, ltb, eqb, length}
use Rattle.integers.specs.Words.{any, eq_z}
use Rattle.definitions.specs.declared.Case.{Case}
use Rattle.definitions.specs.Rules.{Rules}
use Rattle.definitions.specs.Case.{scope_count, scopes, is_barred}
use Rattle.definitions.specs.Valid.{within_limits}
use Rattle.calls.specs.Calls.{is_raised}
use Rattle.tables.specs.Scopes.{best_at, scope_weights}

-- a weight that is not the scope's number in `best`, and not barred
abbrev pub is_open : ℤ → ℤ → Bool
is_open best z = not (eq_z z best) && not (is_barred z)

abbrev pub is_asked : List ℕ → ℕ → ℕ → Bool
is_asked raised i x = eqb x i || is_raised raised x

module _ (r : Rules) where
  abbrev pub open_in : Case → List ℤ → ℕ → ℤ → Bool
  open_in c w x best = any (is_open best) (scope_weights r c w x)

  -- scope x is asked, and has such a weight
  abbrev pub some_open : Case → List ℤ → List ℤ → List ℕ → ℕ → ℕ → Bool
  some_open c w best raised i x = is_asked raised i x && open_in c w x (best_at best x)

  unfoldable pub rest_barred : Case → List ℤ → List ℤ → List ℕ → ℕ → Bool
  rest_barred c w best raised i =
      within_limits r c.n c.d c.m && not (ltb (length best) (scope_count c)) && not (ltb (length raised) (scope_count c))
      && not (any (some_open c w best raised i) (scopes c))
