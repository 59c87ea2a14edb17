-- A table of weights at the case's own places with 0 past them, as long as a table is lent. Assumes nothing.
use mathlib.Core.Path.{◌≡◌, ap₂, subst, sym, ◌∙◌}
use mathlib.Core.List.{List}
use Prim.Native.Nat.{ℕ, zero, suc, ◌+◌, ◌-◌, ◌≤◌}
use native.Mathlib.Omega.{arith}
use lib.IntN.{ℤ, pos}
use lib.Dec.{T}
use lib.ListN.{length, replicate, length-append, length-replicate}
use lib.Seq.{drop_at}
use Rattle.integers.specs.Words.{all, eq_z}
use Rattle.definitions.specs.declared.Case.{Case}
use Rattle.definitions.specs.Case.{own_length, weight}
use Rattle.definitions.specs.Valid.{zeros_from}
use Rattle.definitions.specs.Moves.{Difference, table_of}
use Rattle.logs.specs.Leave.{full_table}
use Rattle.theory.proofs.Places.{IsTuple, table-length, weight-table}

all-zero : (n : ℕ) → T (all (λ z. eq_z z (pos 0)) (replicate n (pos 0)))
all-zero zero = tt
all-zero (suc n) = all-zero n

module _ (c : Case) (f : Difference) (w : List ℤ) where
  pub full-weight : {x k l : ℕ} → IsTuple c x k l → weight c (full_table c f w) x k l ≡ f x k l
  full-weight = weight-table c f (replicate (length w - own_length c) (pos 0))

  pub full-long : own_length c ≤ length w → length (full_table c f w) ≡ length w
  full-long h =
      length-append (table_of c f) (replicate (length w - own_length c) (pos 0))
      ∙ ap₂ ◌+◌ (table-length c f) (length-replicate (length w - own_length c) (pos 0)) ∙ omega arith

  pub full-past : T (zeros_from (own_length c) (full_table c f w))
  full-past = subst (λ (l : List ℤ). T (all (λ z. eq_z z (pos 0)) l))
      (sym (drop_at (table_of c f) (replicate (length w - own_length c) (pos 0)) (own_length c) (table-length c f))) (all-zero (length w - own_length c))
