-- What proofs need of a case: it has values, and the ends of its edges are variables, the lower first. Assumes nothing.
use Prim.Native.Nat.{ℕ, ◌<◌}
use native.Mathlib.Omega.{arith}
use Rattle.definitions.specs.declared.Case.{Case}
use Rattle.definitions.specs.Case.{lower_end, upper_end}

pub record Shape (c : Case) : Type 0 where
  pub some-variable : 0 < c.n
  pub some-value : 0 < c.d
  pub ascending : (e : ℕ) → e < c.m → lower_end c e < upper_end c e
  pub below-n : (e : ℕ) → e < c.m → upper_end c e < c.n

module _ {c : Case} (shape : Shape c) where
  pub lower-below : (e : ℕ) → e < c.m → lower_end c e < c.n
  lower-below e h = omega (arith, shape.ascending e h, shape.below-n e h)

  pub ends-below : (e : ℕ) → e < c.m → (lower_end c e < c.n) × (upper_end c e < c.n)
  ends-below e h = (lower-below e h, shape.below-n e h)
