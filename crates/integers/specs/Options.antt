-- What may be missing: a value that is there, what follows it, and the first and the last of a list. Assumes nothing.
use Rattle.std.proofs.lemmas.Option.{same_Some, none-some as not-some}
use Rattle.std.specs.Prelude.{◌≡◌, refl, Bool, true, false, not, ◌↔◌, ◌⊎◌, List, [], ◌∷◌, ◌++◌, T, if◌then◌else◌, Option, Some, None}
use Rattle.std.proofs.Common.{ap, ◌∙◌, inl, inr}
use Rattle.integers.specs.Words.{◌>>=◌, last}

module _ {A : Type 0} where
  pub some_inj : {a b : A} → ◌≡◌ {A = Option A} (Some a) (Some b) → a ≡ b
  some_inj {a} {b} e = same_Some a b e

  pub none-some : {a : A} → ◌≡◌ {A = Option A} None (Some a) → ⊥
  none-some {a} e = not-some a e

  pub last-append : (xs ys : List A) (y : A) → last (xs ++ (y ∷ ys)) ≡ last (y ∷ ys)
  last-append [] ys y = refl
  last-append (x ∷ []) ys y = refl
  last-append (x ∷ z ∷ xs) ys y = last-append (z ∷ xs) ys y

-- what is known where one of two was found
module _ {A : Type 0} {a : A} where
  pub found-if : (b : Bool) (x y : Option A) → (if b then x else y) ≡ Some a → (T b × (x ≡ Some a)) ⊎ (T (not b) × (y ≡ Some a))
  found-if true x y e = inl (tt, e)
  found-if false x y e = inr (tt, e)

  pub found-then : (b : Bool) (o : Option A) → (if b then o else None) ≡ Some a → T b × (o ≡ Some a)
  found-then true o e = (tt, e)
  found-then false o e = absurd (none-some e)

  pub found-else : (b : Bool) (o : Option A) → (if b then None else o) ≡ Some a → T (not b) × (o ≡ Some a)
  found-else true o e = absurd (none-some e)
  found-else false o e = (tt, e)

pub bind-iff : {A B : Type 0} (o : Option A) (f : A → Option B) (b : B) → (o >>= f) ≡ Some b ↔ ((a : A) × (o ≡ Some a) × (f a ≡ Some b))
bind-iff None f b = (λ e. absurd (not-some b e), λ p. absurd (not-some p.0 p.1))
bind-iff (Some a) f b = (λ e. (a, refl, e), λ p. ap f (some_inj p.1) ∙ p.2)
