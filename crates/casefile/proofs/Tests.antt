-- Tests of signed numbers in the code, and the kinds of lines. Assumes nothing.
use mathlib.Core.Path.{◌≡◌, refl, sym, ap, ◌∙◌}
use mathlib.Core.Bool.{Bool, true, false, not, ◌&&◌, ◌||◌, and-true, and-false, or-false}
use mathlib.Core.Logic.{⊎_elim}
use mathlib.Core.List.{[], ◌∷◌}
use Prim.Native.Nat.{ℕ, ◌^◌, ◌≤◌, ◌<◌}
use native.Mathlib.Omega.{arith}
use lib.IntN.{ℤ, pos, negsuc, nat_abs}
use lib.Dec.{T, eqb, eqb→eq}
use lib.Signed.{mag, lt_z, le_z}
use mir.Syntax.{w64}
use mir.Val.{SFits, hbits, to_z, of_z}
use borrow.Author.Tests.{le-ltb}
use Rattle.integers.specs.Words.{eq_z, within_z}
use Rattle.integers.specs.Tests.{tests, eqb-iff, same_test, is_false, true-is, false-is, and_left, or_cases, not-or-iff}
use Rattle.integers.specs.Linear.{zs, T-eq, read_back}
use Rattle.definitions.specs.declared.Rulebook.{Rulebook}
use Rattle.definitions.specs.declared.Line.{Line}
use Rattle.definitions.specs.Rules.{rules_in, coherent}
use Rattle.definitions.specs.Lines.{is_kind, not_due}
use Rattle.definitions.specs.CaseFiles.{bars}
use Rattle.case_theory.proofs.CaseTests.{CaseKinds, case-kinds}
use Rattle.casefile.specs.Reads.{is_of_kind}

-- numbers are equal just where their bits are
module _ (a b : ℤ) (p : mag a < 2 ^ hbits w64) (q : mag b < 2 ^ hbits w64) where
  pub column-bits : of_z w64 a ≡ of_z w64 b → a ≡ b
  column-bits e = sym (read_back w64 a p) ∙ ap (to_z w64) e ∙ read_back w64 b q

  pub column-test : eqb (of_z w64 a) (of_z w64 b) ≡ eq_z a b
  column-test = same_test (eqb (of_z w64 a) (of_z w64 b)) (eq_z a b)
      (λ t. (T-eq a b).1 (column-bits (eqb→eq (of_z w64 a) (of_z w64 b) t)))
      (λ t. (eqb-iff (of_z w64 a) (of_z w64 b)).1 (ap (of_z w64) ((T-eq a b).0 t)))

-- a number from 0 on
pub column-natural : (z : ℤ) → lt_z z (pos 0) ≡ false → z ≡ pos (nat_abs z)
column-natural (pos n) h = refl
column-natural (negsuc n) h = absurd (omega zs)

pub abs-fits : (z : ℤ) → SFits w64 z → nat_abs z ≤ 2 ^ 63
abs-fits (pos n) f = omega (arith, f.sfits)
abs-fits (negsuc n) f = omega (arith, f.sfits)

-- a number within limits
pub within-nat : (low high : ℕ) (z : ℤ) → T (within_z (pos low) (pos high) z) → (lt_z z (pos 0) ≡ false) × (low ≤ nat_abs z) × (nat_abs z ≤ high)
within-nat low high (pos n) t = (let (p, q) = simp tests at t in (le-ltb n 0 (omega arith), p, q))
within-nat low high (negsuc n) t = absurd (and_left (le_z (pos low) (negsuc n)) (le_z (negsuc n) (pos high)) t)

-- ---- a line of a kind that is due

-- of two kinds, by the one that the line is not of
other-plain : (x y c m : Bool) → y ≡ false → not (c && (x || (y && m))) ≡ not (x && c && true)
other-plain x true c m e = absurd (true-is false (sym e))
other-plain x false true m e = simp (or-false, and-true)
other-plain x false false m e = simp and-false

other-bar : (x y c m : Bool) → x ≡ false → not (c && (x || (y && m))) ≡ not (y && c && m)
other-bar true y c m e = absurd (true-is false (sym e))
other-bar false y true m e = simp and-true
other-bar false y false m e = simp and-false

module _ (b : Rulebook) (l : Line) where
  abbrev kinds : CaseKinds (rules_in b)
  kinds = case-kinds (coherent b)

  pub due-10 : not_due (rules_in b) (10 ∷ []) l ≡ not (is_of_kind (pos 10) true false l)
  due-10 = kinds.head-due l ∙ simp and-true

  pub due-12 : not_due (rules_in b) (12 ∷ []) l ≡ not (is_of_kind (pos 12) true false l)
  due-12 = kinds.ends-due l ∙ simp and-true

  pub due-none : not_due (rules_in b) [] l ≡ true
  due-none = rw (coherent b).known-kinds (simp (and-false, and-true))

  -- a line that does not bar
  module _ (e : bars l ≡ false) where
    plain : T (not (is_kind 14 l)) × T (not (is_kind 15 l))
    plain = (not-or-iff (is_kind 14 l) (is_kind 15 l)).0 (false-is (bars l) e)

    pub due-11 : not_due (rules_in b) (11 ∷ 14 ∷ []) l ≡ not (is_of_kind (pos 11) false true l)
    due-11 = kinds.variable-due l ∙ other-plain (is_kind 11 l) (is_kind 14 l) (eq_z l.c (pos 0)) (eq_z l.amount (pos 0)) (is_false (is_kind 14 l) plain.0)

    pub due-13 : not_due (rules_in b) (13 ∷ 15 ∷ []) l ≡ not (is_of_kind (pos 13) true true l)
    due-13 = kinds.edge-due l ∙ other-plain (is_kind 13 l) (is_kind 15 l) true (eq_z l.amount (pos 0)) (is_false (is_kind 15 l) plain.1)

  -- one that bars is of no other kind
  module _ (e : bars l ≡ true) where
    of_other : (k : ℕ) → eqb 14 k ≡ false → eqb 15 k ≡ false → is_kind k l ≡ false
    of_other k p q = ⊎_elim (λ t. ap (λ z. eq_z z (pos k)) ((T-eq l.kind (pos 14)).0 t) ∙ p) (λ t. ap (λ z. eq_z z (pos k)) ((T-eq l.kind (pos 15)).0 t) ∙ q)
        (or_cases (is_kind 14 l) (is_kind 15 l) (true-is (bars l) e))

    pub due-14 : not_due (rules_in b) (11 ∷ 14 ∷ []) l ≡ not (is_of_kind (pos 14) false false l)
    due-14 = kinds.variable-due l ∙ other-bar (is_kind 11 l) (is_kind 14 l) (eq_z l.c (pos 0)) (eq_z l.amount (pos 0)) (of_other 11 refl refl)

    pub due-15 : not_due (rules_in b) (13 ∷ 15 ∷ []) l ≡ not (is_of_kind (pos 15) true false l)
    due-15 = kinds.edge-due l ∙ other-bar (is_kind 13 l) (is_kind 15 l) true (eq_z l.amount (pos 0)) (of_other 13 refl refl)

    pub not-ends : not_due (rules_in b) (12 ∷ []) l ≡ true
    not-ends = due-12 ∙ rw (of_other 12 refl refl)
