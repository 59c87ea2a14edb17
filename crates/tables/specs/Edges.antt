-- A case as far as the ends of its edges are asked. Assumes nothing.
use Rattle.std.specs.Prelude.{◌≡◌, refl, not, List, ℕ, pos, ltb}
use Rattle.integers.specs.Words.{any, below}
use Rattle.definitions.specs.declared.Rulebook.TheVariants.{Desk}
use Rattle.definitions.specs.declared.Case.{Case}
use Rattle.definitions.specs.Case.{lower_end, upper_end}
use Rattle.definitions.specs.Valid.{some_edge, end_outside, same_ends}

-- a case of n variables with these ends of edges, as far as edges are asked
abbrev pub with_edges : ℕ → List ℕ → List ℕ → Case
with_edges n lower upper = record { n = n; d = 0; m = 0; lower = lower; upper = upper; carry = pos 0; rulebook = Desk }

-- numbers 5 to 7 of edges ask for the ends alone
module _ (c : Case) where
  abbrev ends_of : Case
  ends_of = with_edges c.n c.lower c.upper

  pub ends-only :
      (any (end_outside ends_of) (below c.m) ≡ some_edge c (end_outside c))
      × (any (λ e. not (ltb (lower_end ends_of e) (upper_end ends_of e))) (below c.m) ≡ some_edge c (λ e. not (ltb (lower_end c e) (upper_end c e))))
      × (any (λ e. any (same_ends ends_of e) (below e)) (below c.m) ≡ some_edge c (λ e. any (same_ends c e) (below e)))
  ends-only = (refl, refl, refl)
