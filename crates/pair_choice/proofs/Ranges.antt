-- Sums of working weights fit, the places of a pair's weights in the table, and a table of the case's length. Assumes nothing.
use mathlib.Core.Path.{◌≡◌}
use mathlib.Core.Bool.{true, false}
use mathlib.Core.List.{List}
use Prim.Native.Nat.{ℕ, ◌+◌, ◌*◌, ◌<◌}
use native.Mathlib.Omega.{arith}
use lib.IntN.{ℤ, pos, ◌+ℤ◌, ◌-ℤ◌}
use lib.ListN.{length}
use mir.Syntax.{w64}
use mir.Val.{SFits}
use Rattle.integers.specs.Tests.{tests}
use Rattle.integers.specs.Linear.{zs, flat, ◌▸◌}
use Rattle.integers.specs.Lists.{any_same}
use Rattle.definitions.specs.declared.Case.{Case}
use Rattle.definitions.specs.Rules.{Rules, Coherent, rules_of}
use Rattle.definitions.proofs.RulesLaws.{rules-fit}
use Rattle.definitions.specs.Case.{lower_end, upper_end}
use Rattle.definitions.specs.Valid.{end_outside}
use Rattle.theory.proofs.Places.{place-variable, place-edge}
use Rattle.tables.specs.Scopes.{is_sized}
use Rattle.tables.proofs.Order.{sized}
use Rattle.arcs.specs.Active.{Sized}
use Rattle.pair_choice.specs.declared.Asked.{Asked}
use Rattle.pair_choice.specs.PairChoice.{all_working, tuples_have, rows_have}

-- ---- sums
module _ {r : Rules} (limits : Coherent r) (a b z : ℤ) (t : all_working r a b z ≡ true) where
  pub first-fit : SFits w64 (z +ℤ a)
  first-fit = t ▸ (rules-fit limits).working ▸ simp flat (omega zs)

  pub two-fit : SFits w64 (a +ℤ b)
  two-fit = t ▸ (rules-fit limits).working ▸ simp flat (omega zs)

  pub three-fit : SFits w64 ((a +ℤ b) +ℤ z)
  three-fit = t ▸ (rules-fit limits).working ▸ simp flat (omega zs)

  pub less-fit : SFits w64 (((a +ℤ b) +ℤ z) -ℤ pos 1)
  less-fit = t ▸ (rules-fit limits).working ▸ simp flat (omega zs)

-- ---- places

-- both ends are variables
pub ends-in : (c : Case) (e : ℕ) → end_outside c e ≡ false → (lower_end c e < c.n) × (upper_end c e < c.n)
ends-in c e t = simp tests at t

module _ (r : Rules) (c : Case) (w : List ℤ) (asked : Asked) (e : ℕ) (inside : end_outside c e ≡ false) where
  edge-place : (k l : ℕ) → c.n * c.d + e * (c.d * c.d) + k * c.d + l ≡ c.n * c.d + (e * (c.d * c.d) + (k * c.d + l))
  edge-place k l = omega arith

  pub tuples-placed : rows_have r w asked (lower_end c e * c.d) (upper_end c e * c.d) (c.n * c.d + e * (c.d * c.d)) c.d ≡ tuples_have r c w e asked
  tuples-placed =
      let (g, h) = ends-in c e inside in
      any_same c.d (λ k p. any_same c.d (λ l q.
      rw (place-variable c (lower_end c e) k 0 g, place-variable c (upper_end c e) l 0 h, place-edge c e k l, edge-place k l)))

-- ---- a table of the case's length
pub sized-known : (c : Case) (w : List ℤ) → is_sized (rules_of c) c (length w) ≡ true → Sized c w
sized-known c w t = let (l, e) = sized c (length w) t in record { limits = l; long = e }
