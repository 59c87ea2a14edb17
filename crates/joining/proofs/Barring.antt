-- Whether a scope is wholly barred with its last tuple stored, by the others and the number stored. Assumes nothing.
use mathlib.Core.Path.{◌≡◌, refl, sym, ap, ◌∙◌}
use mathlib.Core.Bool.{Bool, true, false, ◌&&◌, and-true}
use mathlib.Core.List.{List, [], ◌∷◌, ◌++◌}
use Prim.Native.Nat.{ℕ, suc, ◌+◌, ◌*◌, ◌-◌, ◌≤◌, ◌<◌}
use native.Mathlib.Omega.{arith}
use lib.IntN.{ℤ}
use lib.Dec.{T, eqb, eqb→eq}
use lib.ListN.{length, set, take, drop, length-set, length-drop}
use lib.Seq.{drop-set-add, take-suc-set}
use Rattle.integers.specs.Words.{all}
use Rattle.integers.specs.Tests.{tests, if-true, if-false}
use Rattle.definitions.specs.declared.Case.{Case}
use Rattle.definitions.specs.Case.{scope_count, is_variable, place, own_length, is_barred, wholly_barred}
use Rattle.theory.proofs.Places.{variable-is, edge-is, place-variable, place-edge}
use Rattle.tables.specs.Scopes.{size_of}
use Rattle.tables.proofs.Parts.{part-own, part-barred}
use Rattle.joining.specs.Steps.{others_barred}

all-last : {A : Type 0} (f : A → Bool) (xs : List A) (z : A) → all f (xs ++ (z ∷ [])) ≡ (all f xs && f z)
all-last f [] z = and-true (f z)
all-last f (x ∷ xs) z = go (f x) (all-last f xs z)
  where
    go : (b : Bool) → all f (xs ++ (z ∷ [])) ≡ (all f xs && f z) → (b && all f (xs ++ (z ∷ []))) ≡ (b && all f xs && f z)
    go true e = e
    go false e = refl

module _ (c : Case) (w : List ℤ) (long : own_length c ≤ length w) where
  last_stored : (x k j others : ℕ) {at : ℕ} → x < scope_count c → place c x k j ≡ at → at ≡ place c x 0 0 + others → (last_one : Bool)
      → (T last_one → size_of c x ≡ suc others) → (z : ℤ)
      → (last_one && wholly_barred c (set w (place c x k j) z) x) ≡ (others_barred last_one others at w && is_barred z)
  last_stored x k j others h e at false size z = refl
  last_stored x k j others {at = p} h e at true size z =
      let first : p - others ≡ place c x 0 0 = omega arith in
      sym (part-barred c (set w (place c x k j) z) (rw length-set (omega arith)) x h)
      ∙ ap (λ n. all is_barred (take n (drop (place c x 0 0) (set w (place c x k j) z)))) (size tt)
      ∙ ap (λ p. all is_barred (take (suc others) (drop (place c x 0 0) (set w p z)))) (e ∙ at)
      ∙ ap (λ l. all is_barred (take (suc others) l)) (drop-set-add (place c x 0 0) w others z)
      ∙ ap (all is_barred) (take-suc-set (drop (place c x 0 0) w) others z (rw length-drop (omega (arith, size tt, part-own c x h))))
      ∙ all-last is_barred (take others (drop (place c x 0 0) w)) z
      ∙ ap (λ p. all is_barred (take others (drop p w)) && is_barred z) (sym first)

  pub variable-stored : (i k : ℕ) → i < c.n → (z : ℤ) → (eqb (k + 1) c.d && wholly_barred c (set w (place c i k 0) z) i)
      ≡ (others_barred (eqb (k + 1) c.d) k (i * c.d + k) w && is_barred z)
  variable-stored i k h = last_stored i k 0 k (omega arith) (place-variable c i k 0 h) (omega (arith, place-variable c i 0 0 h)) (eqb (k + 1) c.d)
      (λ t. if-true _ _ (is_variable c i) (variable-is c h) ∙ omega (arith, eqb→eq (k + 1) c.d t))

  pub edge-stored : (e k j : ℕ) → e < c.m → (z : ℤ)
      → (eqb (k + 1) c.d && eqb (j + 1) c.d && wholly_barred c (set w (place c (c.n + e) k j) z) (c.n + e))
      ≡ (others_barred (eqb (k + 1) c.d && eqb (j + 1) c.d) (k * c.d + j) (c.n * c.d + (e * (c.d * c.d) + (k * c.d + j))) w && is_barred z)
  edge-stored e k j h = last_stored (c.n + e) k j (k * c.d + j) (omega arith) (place-edge c e k j) (omega (arith, place-edge c e 0 0))
      (eqb (k + 1) c.d && eqb (j + 1) c.d) size
    where
      size : T (eqb (k + 1) c.d && eqb (j + 1) c.d) → size_of c (c.n + e) ≡ suc (k * c.d + j)
      size t = let (p, q) = simp tests at t in if-false _ _ (is_variable c (c.n + e)) (edge-is c e) ∙ omega (arith, ap (λ n. n * c.d) p)
