-- The answer to a check: what is answered where a number applies, and what is known where none does. Assumes nothing.
use mathlib.Core.Path.{◌≡◌, sym}
use mathlib.Core.Bool.{Bool, true, false, not}
use mathlib.Core.List.{List}
use Prim.Native.Nat.{ℕ, ◌<◌}
use native.Mathlib.Omega.{arith}
use lib.IntN.{ℤ, pos}
use lib.Dec.{T}
use lib.ListN.{length}
use borrow.Author.Tests.{eq-eqb, lt-ltb}
use Rattle.std.specs.Prelude.{Ok, Err, Option, None}
use Rattle.integers.specs.Words.{within_z, minus}
use Rattle.integers.specs.Tests.{tests, is_true}
use Rattle.definitions.specs.declared.Case.{Case}
use Rattle.definitions.specs.declared.Refusal.{Refusal}
use Rattle.definitions.specs.Rules.{rules_of, coherent}
use Rattle.definitions.specs.Refusals.{first_refusal}
use Rattle.definitions.specs.Answers.{outcome_of, answer_of}
use Rattle.definitions.specs.Case.{scope_count, lent_length, greatest, upper_bound}
use Rattle.definitions.specs.Valid.{in_working, working_weight, carry_out, within_limits, handed_over}
use Rattle.theory.proofs.Barred.{greatest-in-range}
use Rattle.theory.proofs.Validity.{Handed, handed}
use Rattle.tables.specs.Scopes.{Limited, scope_part, scope_weights, greatest_sum}
use Rattle.tables.proofs.Order.{limited-by, outcome-done, outcome-refused}
use Rattle.tables.proofs.Bounds.{sum-given}

-- a table of working weights
module _ (c : Case) (w : List ℤ) (wrong out : Bool) where
  abbrev asked : Option Refusal
  asked = first_refusal (handed_over (rules_of c) (working_weight (rules_of c)) c w wrong out)

  pub answer-refused : {A : Type 0} {x : Refusal} (a : A) → Err x ≡ outcome_of asked → Err x ≡ answer_of asked a
  answer-refused a e = let d = outcome-refused e in rw d

  pub answer-given : {A : Type 0} (a : A) → Ok tt ≡ outcome_of asked → Ok a ≡ answer_of asked a
  answer-given a e = let d : asked ≡ None = outcome-done e in rw d

  pub known : Ok tt ≡ outcome_of asked → Handed (rules_of c) (working_weight (rules_of c)) c w × T (not wrong) × T (not out)
  known e = let d : asked ≡ None = outcome-done e in (handed (rules_of c) (working_weight (rules_of c)) c w wrong out).0 (rw d tt)

module _ {c : Case} {w : List ℤ} (h : Handed (rules_of c) (working_weight (rules_of c)) c w) where
  pub limits-known : Limited c
  limits-known = limited-by c h.shape.some-variable h.variables-most h.shape.some-value h.values-most h.edges_most

  pub limits-true : within_limits (rules_of c) c.n c.d c.m ≡ true
  limits-true = let s = h.shape in simp tests (((s.some-variable, h.variables-most), (s.some-value, h.values-most)), (omega arith, h.edges_most))

  pub greatest-working : (x : ℕ) → x < scope_count c → T (in_working (rules_of c) (greatest c w x))
  greatest-working x l = greatest-in-range c (coherent c.rulebook) w h.in-range x l (h.some-free x l)

  pub carry-known : carry_out (rules_of c) c ≡ false
  carry-known = let k = is_true (within_z (minus (rules_of c).carried) (pos (rules_of c).carried) c.carry) h.carry-in in rw k

  -- on a table that was checked the sum of the greatest weights is the upper bound
  pub greatest-sum-known : greatest_sum (rules_of c) c w ≡ Ok (upper_bound c w)
  unfolding greatest_sum
  greatest-sum-known = rw (limits-true, eq-eqb (length w) (lent_length (rules_of c) c) h.long) (sym (sum-given c (greatest c w) carry-known greatest-working))

  pub scope-weights-known : (x : ℕ) → x < scope_count c → scope_weights (rules_of c) c w x ≡ scope_part c w x
  unfolding scope_weights
  scope-weights-known x l = rw (limits-true, eq-eqb (length w) (lent_length (rules_of c) c) h.long, lt-ltb x (scope_count c) l)
