-- The search for values that are active together, and the first number that passes a test. Assumes nothing.
use Rattle.std.specs.Prelude.{is_none}
use mathlib.Core.Path.{◌≡◌, refl, sym, ap, ap₂, ◌∙◌}
use mathlib.Core.Bool.{Bool, true, false, not, ◌&&◌}
use mathlib.Core.Logic.{⊎_elim}
use mathlib.Core.List.{List}
use Prim.Native.Nat.{ℕ, ◌+◌, ◌≤◌, ◌<◌}
use native.Mathlib.Omega.{arith}
use lib.IntN.{ℤ}
use lib.Dec.{ltb, eqb, ltb→lt, nltb→le}
use lib.ListN.{get_or}
use borrow.Author.Count.{below_more}
use borrow.Author.Tests.{eqb-true, not-true, not-false}
use Rattle.integers.specs.Tests.{is_true, either}
use Rattle.integers.specs.Lists.{any_same}
use Rattle.definitions.specs.declared.Case.{Case}
use Rattle.definitions.specs.Rules.{Rules}
use Rattle.marks.specs.Marks.{mark, lowest_of, without, in_both}
use Rattle.marks.proofs.Laws.{mark-zero, lowest-small, lowest-marked}
use Rattle.arcs.specs.Partners.{has_partner}
use Rattle.arcs.proofs.Search.{mark-without, none-common, least-common, nothing-found}
use Rattle.tables.proofs.Search.{found, not_found, and-next}
use Rattle.pair_choice.specs.PairChoice.{has_choice, active_choice, takes_round, takes_pair}

-- ---- values and their partners

module _ (rows : List ℕ) (at other : ℕ) where
  abbrev fits : ℕ → Bool
  fits k = has_partner (get_or rows (at + k) 0) other

  -- what the row of value k and the other set have in common
  module _ (k both : ℕ) (e : both ≡ in_both (get_or rows (at + k) 0) other) where
    abbrev row : ℕ
    row = get_or rows (at + k) 0

    pub no-partner : both ≡ 0 → fits k ≡ false
    no-partner z = not-true (fits k) (sym (nothing-found row other) ∙ ap is_none (sym (none-common row other both e z)))

    pub a-partner : (both ≡ 0 → ⊥) → fits k ≡ true
    a-partner ne = not-false (fits k) (sym (nothing-found row other) ∙ ap is_none (sym (least-common row other both e ne (lowest_of both) refl)))

  pub no-choice : false ≡ has_choice rows at 0 other
  unfolding has_choice
  no-choice = not_found (λ k. mark 0 k && fits k) 8 (λ k h. ap (λ (b : Bool). b && fits k) (mark-zero k))

  -- a value without partners is struck
  struck : (a e f : Bool) → (e ≡ true → f ≡ false) → ((a && not e) && f) ≡ (a && f)
  struck true true f h = sym (h refl)
  struck true false f h = refl
  struck false e f h = refl

  pub choice-less : (set k : ℕ) → fits k ≡ false → has_choice rows at (without set k) other ≡ has_choice rows at set other
  unfolding has_choice
  choice-less set k n =
      any_same 8 (λ v h.
      ap (λ (b : Bool). b && fits v) (mark-without set k v h) ∙ struck (mark set v) (eqb v k) (fits v) (λ e. ap fits (eqb-true v k e) ∙ n))

  -- the lowest value has a partner
  pub a-choice : (set k : ℕ) → set < 256 → (set ≡ 0 → ⊥) → k ≡ lowest_of set → fits k ≡ true → true ≡ has_choice rows at set other
  unfolding has_choice
  a-choice set k h ne e y =
      let some : 0 < set = omega arith in
      found (λ k. mark set k && fits k) 8 k (rw e (lowest-small set h some))
      (rw y (sym (and-next (mark set k) true (rw e (is_true _ (lowest-marked set h some))))))

-- ---- which pair is taken

module _ (r : Rules) (c : Case) (w best : List ℤ) (acts rows : List ℕ) where
  pub choice-passed : (e : ℕ) → active_choice c acts rows e ≡ true → takes_pair r c w best acts rows e ≡ false
  choice-passed e y = ap (λ (b : Bool). not b && takes_round r c w best e) y

  pub candidate-taken : (e : ℕ) (takes : Bool) → takes ≡ takes_round r c w best e → active_choice c acts rows e ≡ false → takes_pair r c w best acts rows e ≡ takes
  candidate-taken e takes o n = ap₂ (λ (a b : Bool). not a && b) n (sym o)

-- passed below e, at e, and from there on
pub passed_on : (f : ℕ → Bool) (e n : ℕ) → ((j : ℕ) → j < e → f j ≡ false) → f e ≡ false → ((j : ℕ) → j < n → e + 1 ≤ j → f j ≡ false)
    → (j : ℕ) → j < n → f j ≡ false
passed_on f e n less here more j h =
    ⊎_elim (λ t. below_more _ _ less here j (ltb→lt j (e + 1) t)) (λ t. more j h (nltb→le j (e + 1) t)) (either (ltb j (e + 1)))
