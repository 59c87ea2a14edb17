-- Values with a weight, found one by one, and the values that a press lowers. Assumes nothing.
use mathlib.Core.Path.{◌≡◌, sym, ap, ◌∙◌}
use mathlib.Core.Bool.{Bool, true, false, not, ◌&&◌, ◌||◌}
use mathlib.Core.List.{List, [], ◌∷◌}
use Prim.Native.Nat.{ℕ, zero, suc, ◌+◌, ◌*◌, ◌-◌, ◌<◌}
use native.Mathlib.Omega.{arith}
use lib.IntN.{ℤ, pos}
use lib.Dec.{ltb, eqb}
use lib.ListN.{length, get_or}
use borrow.Author.Tests.{eq-eqb, lt-ltb, le-ltb, ne_eqb}
use Rattle.std.specs.Prelude.{if◌then◌else◌, None}
use Rattle.integers.specs.Words.{eq_z}
use Rattle.definitions.specs.declared.Case.{Case}
use Rattle.definitions.specs.declared.Refusal.TheVariants.{OutOfRange}
use Rattle.definitions.specs.Rules.{rules_of}
use Rattle.definitions.specs.Refusals.{◌when◌, first_refusal}
use Rattle.definitions.specs.Answers.{unless_refused}
use Rattle.definitions.specs.Case.{scope_count, lent_length, weight}
use Rattle.definitions.specs.Valid.{working_weight, within_limits, limit_test, length_test}
use Rattle.definitions.specs.Moves.{active_values}
use Rattle.theory.proofs.Validity.{Handed}
use Rattle.theory.proofs.Places.{place-variable}
use Rattle.tables.specs.Scopes.{best_at, BestOf}
use Rattle.tables.proofs.Answered.{limits-true}
use Rattle.marks.specs.Marks.{mark, byte_of, pushed}
use Rattle.marks.proofs.Laws.{mark-byte_of, mark-zero, byte-is, byte_of-cong}
use Rattle.changes.specs.Kept.{is_best, values_with, MarksOf, best_values}

-- the values from j on, each less by j
module _ (f : ℕ → Bool) (d : ℕ) where
  pub best-values-none : (v : ℕ) → v < 8 → mark 0 v ≡ (ltb (d + v) d && f (d + v))
  best-values-none v h = mark-zero v ∙ sym (ap (λ (b : Bool). b && f (d + v)) (le-ltb (d + v) d (omega arith)))

  pub best-values-next : (i j s r : ℕ) (low : Bool) → i ≡ j + 1 → j < d → ((v : ℕ) → v < 8 → mark s v ≡ (ltb (i + v) d && f (i + v)))
      → low ≡ f j → r ≡ pushed s low → (v : ℕ) → v < 8 → mark r v ≡ (ltb (j + v) d && f (j + v))
  best-values-next i j s r low e h g k q v l = ap (λ (x : ℕ). mark x v) q ∙ mark-byte_of (λ j. if eqb j 0 then low else mark s (j - 1)) v l ∙ at v l
    where
      at : (v : ℕ) → v < 8 → (if eqb v 0 then low else mark s (v - 1)) ≡ (ltb (j + v) d && f (j + v))
      at zero g = let n : j + 0 ≡ j = omega arith in k ∙ sym (ap (λ (x : ℕ). ltb x d && f x) n ∙ ap (λ (b : Bool). b && f j) (lt-ltb j d h))
      at (suc u) m =
          let n : i + u ≡ j + suc u = omega arith in
          let z : suc u - 1 ≡ u = omega arith in
          ap (λ (b : Bool). if b then low else mark s (suc u - 1)) (ne_eqb (suc u) 0 (λ e. omega arith)) ∙ ap (mark s) z ∙ g u (omega arith)
          ∙ ap (λ (x : ℕ). ltb x d && f x) n

  pub best-values-all : (s : ℕ) → s < 256 → ((v : ℕ) → v < 8 → mark s v ≡ (ltb (0 + v) d && f (0 + v))) → s ≡ byte_of (λ v. ltb v d && f v)
  best-values-all s h g = byte-is s (λ v. ltb v d && f v) h (λ v l. let e : 0 + v ≡ v = omega arith in g v l ∙ ap (λ (x : ℕ). ltb x d && f x) e)

-- a variable's values, by their places in the table
pub values_of : (c : Case) (w best : List ℤ) (i : ℕ) → i < c.n
    → values_with w (i * c.d) c.d (best_at best i) ≡ byte_of (λ k. ltb k c.d && is_best c w best i k 0)
values_of c w best i h =
    byte_of-cong (λ k l. ap (λ (p : ℕ). ltb k c.d && eq_z (get_or w p (pos 0)) (best_at best i)) (sym (place-variable c i k 0 h)))

-- the call on arguments that are taken
pub values-taken : (c : Case) (w best : List ℤ) (i : ℕ) → within_limits (rules_of c) c.n c.d c.m ≡ true
    → (not (eqb (length w) (lent_length (rules_of c) c)) || ltb (length best) (scope_count c)) ≡ false → i < c.n
    → best_values (rules_of c) c w best i ≡ byte_of (λ k. ltb k c.d && is_best c w best i k 0)
unfolding best_values
values-taken c w best i limits lens h =
    let e : first_refusal (limit_test (rules_of c) c ∷ length_test (rules_of c) c w (ltb (length best) (scope_count c)) ∷ OutOfRange when (not (ltb i c.n)) ∷ []) ≡ None =
    rw (limits, lens, lt-ltb i c.n h) in
    ap (λ o. unless_refused o (byte_of (λ k. ltb k c.d && is_best c w best i k 0)) 0) e

-- where the table was checked and `best` holds the greatest weights, they are the active values
module _ {c : Case} {w best : List ℤ} (h : Handed (rules_of c) (working_weight (rules_of c)) c w) (b : BestOf c w best) (i : ℕ) (variable : i < c.n) where
  pub best-values-are : best_values (rules_of c) c w best i ≡ byte_of (λ k. ltb k c.d && is_best c w best i k 0)
  best-values-are =
      values-taken c w best i (limits-true h) (rw (eq-eqb (length w) (lent_length (rules_of c) c) h.long, le-ltb (length best) (scope_count c) b.enough)) variable

  pub best-values-active : MarksOf c (active_values c w i) (best_values (rules_of c) c w best i)
  best-values-active k u =
      ap (λ (s : ℕ). mark s k) best-values-are ∙ mark-byte_of (λ k. ltb k c.d && is_best c w best i k 0) k u
      ∙ ap (λ (z : ℤ). ltb k c.d && eq_z (weight c w i k 0) z) (b.holds i (omega arith))
