-- What is asked of starting weights and working weights that are lent together, one place after the other. Assumes nothing.
use Rattle.std.specs.Prelude.{Ok}
use mathlib.Core.Path.{◌≡◌, refl, sym, ap, subst, ◌∙◌}
use mathlib.Core.Bool.{Bool, true, false, not, ◌&&◌, ◌||◌, true≢false}
use mathlib.Core.Logic.{⊎_elim}
use mathlib.Core.List.{List, ◌∷◌, ◌++◌}
use Prim.Native.Nat.{ℕ, ◌≤◌, ◌<◌}
use native.Mathlib.Omega.{arith}
use lib.IntN.{ℤ, pos}
use lib.Dec.{T, eqb, eqb→eq}
use lib.ListN.{length, get_or, take}
use lib.Seq.{get_or-take, length-take-le}
use Rattle.integers.specs.Words.{◌⇒◌, below, all, within_z}
use Rattle.integers.specs.Tests.{same_test, either, is_false, and_intro, and_left, and_right, not-not-iff}
use Rattle.integers.specs.Lists.{all-at, all_of}
use Rattle.integers.specs.Tables.{all_get_d}
use Rattle.definitions.specs.declared.Case.{Case}
use Rattle.definitions.specs.declared.Refusal.TheVariants.{WrongLength}
use Rattle.definitions.specs.Rules.{rules_of}
use Rattle.definitions.specs.Refusals.{◌when◌, first_refusal}
use Rattle.definitions.specs.Answers.{outcome_of}
use Rattle.definitions.specs.Case.{own_length, lent_length, is_barred}
use Rattle.definitions.specs.Valid.{all_weights, zeros_from, same_bars, limit_test, edge_tests, both_handed_over}
use Rattle.tables.specs.Scopes.{Limited, holdable, front_tests}
use Rattle.tables.specs.Both.{paired, paired_at, is_first, both_tests}
use Rattle.tables.proofs.Search.{and-true, and-false}
use Rattle.tables.proofs.Order.{front-known}

-- two weights
module _ (low high a b : ℤ) where
  pub paired-barred : is_barred a ≡ true → is_barred b ≡ paired low high a b
  paired-barred e = rw e (go (is_barred b))
    where
      go : (y : Bool) → y ≡ (y && (y ⇒ true))
      go true = refl
      go false = refl

  pub paired-other : is_barred a ≡ false → is_barred b ≡ true → false ≡ paired low high a b
  paired-other d e = rw (d, e) (sym (and-false (within_z low high a)))

  pub paired-free : is_barred a ≡ false → is_barred b ≡ false → within_z low high a ≡ paired low high a b
  paired-free d e = rw (d, e) (sym (and-true (within_z low high a)))

-- two tables
module _ (low high : ℤ) (c : Case) (w₀ w : List ℤ) (long : own_length c ≤ length w₀) where
  abbrev bars : ℕ → Bool
  bars p = (is_barred (get_or w₀ p (pos 0)) ⇒ is_barred (get_or w p (pos 0))) && (is_barred (get_or w p (pos 0)) ⇒ is_barred (get_or w₀ p (pos 0)))

  abbrev held : ℕ → Bool
  held p = holdable low high (get_or w₀ p (pos 0))

  all-paired : all (paired_at low high w₀ w) (below (own_length c)) ≡ (all_weights (holdable low high) c w₀ && same_bars c w₀ w)
  all-paired = same_test _ _
      (λ t.
      let at = all-at (paired_at low high w₀ w) (own_length c) t in
      and_intro (all_weights (holdable low high) c w₀) (same_bars c w₀ w)
      ((all_get_d (holdable low high) (take (own_length c) w₀) (pos 0)).1 (λ p h.
      let o : p < own_length c = omega (arith, length-take-le (own_length c) w₀ long) in
      subst (λ (z : ℤ). T (holdable low high z)) (sym (get_or-take (own_length c) w₀ p (pos 0) o)) (and_left (held p) (bars p) (at p o))))
      (all_of bars (own_length c) (λ p o. and_right (held p) (bars p) (at p o))))
      (λ t.
      let a = and_left (all_weights (holdable low high) c w₀) (same_bars c w₀ w) t in
      let b = and_right (all_weights (holdable low high) c w₀) (same_bars c w₀ w) t in
      all_of (paired_at low high w₀ w) (own_length c) (λ p o.
      and_intro (held p) (bars p)
      (subst (λ (z : ℤ). T (holdable low high z)) (get_or-take (own_length c) w₀ p (pos 0) o)
      ((all_get_d (holdable low high) (take (own_length c) w₀) (pos 0)).0 a p (omega (arith, length-take-le (own_length c) w₀ long))))
      (all-at bars (own_length c) b p o)))

  pub first-paired : zeros_from (own_length c) w₀ ≡ true → all (paired_at low high w₀ w) (below (own_length c)) ≡ is_first low high c w₀ w
  first-paired e = rw (all-paired, e, and-true)

  pub first_past : zeros_from (own_length c) w₀ ≡ false → false ≡ is_first low high c w₀ w
  first_past e = rw (e, and-false)

-- what the starting weights are asked comes out of what both are
pub rest-asked : (a b c d e : Bool) → (a && b && e) ≡ true → (c && d) ≡ (a && b && c && d && e)
rest-asked true true c d true h = sym (and-true (c && d))
rest-asked true true c d false h = absurd (true≢false (sym h))
rest-asked true false c d e h = absurd (true≢false (sym h))
rest-asked false b c d e h = absurd (true≢false (sym h))

pub first-fails : (a b c d e : Bool) → (a && b && e) ≡ false → false ≡ (a && b && c && d && e)
first-fails true true c d true h = absurd (true≢false h)
first-fails true true c d false h = sym (and-false (c && d))
first-fails true false c d e h = refl
first-fails false b c d e h = refl

-- both have a length if one has it and they are alike
alike : (m n l : ℕ) → (not (eqb m l) || not (eqb n m)) ≡ (not (eqb m l) || not (eqb n l))
alike m n l = ⊎_elim (λ t. rw (eqb→eq m l t)) (λ t. rw (is_false (eqb m l) t)) (either (eqb m l))

module _ (c : Case) (w₀ w : List ℤ) (out : Bool) where
  abbrev unlike : Bool
  unlike = not (eqb (length w₀) (length w))

  pub both-asked : first_refusal (front_tests (rules_of c) c (length w) unlike out ++ both_tests (rules_of c) c w₀ w) ≡ first_refusal (both_handed_over (rules_of c) c w₀ w out)
  both-asked = ap (λ (b : Bool). first_refusal (limit_test (rules_of c) c ∷ WrongLength when b ∷ edge_tests (rules_of c) c out ++ both_tests (rules_of c) c w₀ w))
      (alike (length w) (length w₀) (lent_length (rules_of c) c))

  -- nothing applies before the weights
  pub both-sized : Ok tt ≡ outcome_of (first_refusal (front_tests (rules_of c) c (length w) unlike out))
      → Limited c × ((length w₀ ≡ lent_length (rules_of c) c) × (length w ≡ lent_length (rules_of c) c))
  both-sized d =
      let (l, e, t) = front-known c (length w) unlike out d in
      let g : length w₀ ≡ length w = eqb→eq (length w₀) (length w) ((not-not-iff (eqb (length w₀) (length w))).0 t) in
      (l, (g ∙ e, e))
