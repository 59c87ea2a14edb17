-- A tuple that is not out, a scope's greatest weight by its part of the table, and the tuples that an assignment uses. Assumes nothing.
use mathlib.Core.Path.{◌≡◌, sym, ap, subst, ◌∙◌}
use mathlib.Core.Bool.{Bool, true, false, not}
use mathlib.Core.Logic.{⊎_elim}
use mathlib.Core.List.{List}
use Prim.Native.Nat.{ℕ, ◌<◌}
use native.Mathlib.Omega.{arith}
use lib.IntN.{ℤ}
use lib.Dec.{T, T_not, eqb, ltb, eqb→eq, ltb→lt}
use Rattle.std.specs.Prelude.{if◌then◌else◌}
use Rattle.integers.specs.Words.{greatest_of}
use Rattle.integers.specs.Tests.{tests, or_cases}
use Rattle.definitions.specs.declared.Case.{Case}
use Rattle.definitions.specs.Rules.{rules_of}
use Rattle.definitions.specs.Case.{scope_count, is_variable, weight, greatest, at_used, is_barred, barred, is_lawful}
use Rattle.definitions.specs.Valid.{in_working, working_weight}
use Rattle.calls.specs.Calls.{tuple_out}
use Rattle.theory.proofs.Barred.{lawful-iff}
use Rattle.theory.proofs.Totals.{at-used, at-used-holds}
use Rattle.theory.proofs.Validity.{Handed}
use Rattle.tables.specs.Scopes.{scope_weights}
use Rattle.tables.proofs.Parts.{part-greatest}
use Rattle.tables.proofs.Answered.{scope-weights-known}

-- the tuple used in a scope is barred just where its weight says so
pub used-barred : (c : Case) (w : List ℤ) (p : List ℕ) (x : ℕ) → is_barred (at_used c p x (weight c w x)) ≡ at_used c p x (barred c w x)
used-barred c w p x = ap is_barred (at-used c p (weight c w x) x) ∙ sym (at-used c p (barred c w x) x)

module _ {c : Case} {w : List ℤ} (h : Handed (rules_of c) (working_weight (rules_of c)) c w) where
  -- a tuple that is not out
  pub tuple-known : (x k l : ℕ) → T (not (tuple_out c x k l)) → (x < scope_count c) × (k < c.d) × (l < c.d)
  tuple-known x k l t = let ((p, q), u) = simp tests at t in (p, q, go (is_variable c x) u)
    where
      go : (b : Bool) → T (if b then eqb l 0 else ltb l c.d) → l < c.d
      go true u = omega (arith, h.shape.some-value, eqb→eq l 0 u)
      go false u = ltb→lt l c.d u

  pub scope-greatest : {part : List ℤ} (x : ℕ) → x < scope_count c → part ≡ scope_weights (rules_of c) c w x → greatest_of part ≡ greatest c w x
  scope-greatest x s e = ap greatest_of (e ∙ scope-weights-known h x s) ∙ part-greatest c w (omega (arith, h.long)) x s

  -- what a lawful assignment uses is in the range
  pub used-working : (p : List ℕ) → T (is_lawful c w p) → (x : ℕ) → x < scope_count c → T (in_working (rules_of c) (at_used c p x (weight c w x)))
  used-working p t x s =
      let (a, free) = (lawful-iff c w p).0 t in
      let z = at_used c p x (weight c w x) in
      ⊎_elim (λ b. absurd (T_not (at_used c p x (barred c w x)) (free x s) (subst T (used-barred c w p x) b))) (λ i. i)
      (or_cases (is_barred z) (in_working (rules_of c) z)
      (at-used-holds h.shape p a (λ (z : ℤ). T (working_weight (rules_of c) z)) x s (weight c w x) (h.in-range x)))
