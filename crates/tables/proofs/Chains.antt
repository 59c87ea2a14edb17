-- What `all` and `any` over a slice, or over the numbers below n, answer where the closure computes a test. Assumes nothing.
use mathlib.Core.Path.{◌≡◌, refl, ap, ◌∙◌}
use mathlib.Core.Bool.{Bool, true, false, ◌&&◌, ◌||◌}
use mathlib.Core.List.{List, [], ◌∷◌}
use Prim.Native.Nat.{ℕ, zero, suc}
use native.Mathlib.Numerals.{add-one}
use denote.Ref.{Bor}
use denote.Param.Members.{Mut}
use Rattle.std.specs.declared.slice.Iter.{Iter}
use Rattle.std.specs.declared.option.Option.{Option}
use Rattle.std.specs.declared.ops.Range.{Range}
use Rattle.std.proofs.iter.Yields.{fronts, nat_range_steps}
use Rattle.std.specs.Fn.{Called}
use Rattle.std.specs.Iterator.{YieldsThen}
use Rattle.std.specs.List.{list_all, list_any, range_with_len, FoldsTo}
use Rattle.std.specs.Option.{MatchOption}
use Rattle.std.specs.Slice.Iter.{iter_rest}
use Rattle.std.proofs.Math.Nat.{sub-zero}
use Rattle.std.proofs.lemmas.Iterator.{YieldsList, YieldsList-from_slice, YieldsList-from_range}
use Rattle.std.proofs.lemmas.Iterator.Search.{all_from_yields_List, any_from_yields_List}
use Rattle.integers.specs.Words.{from, below, any, all}

all-list : {A : Type 0} (f : A → Bool) (xs : List A) → list_all f xs ≡ all f xs
all-list f [] = refl
all-list f (x ∷ xs) = ap (λ b. f x && b) (all-list f xs)

any-list : {A : Type 0} (f : A → Bool) (xs : List A) → list_any f xs ≡ any f xs
any-list f [] = refl
any-list f (x ∷ xs) = ap (λ b. f x || b) (any-list f xs)

range-from : (a n : ℕ) → range_with_len a n ≡ from a n
range-from a zero = refl
range-from a (suc n) = rw (add-one a) (ap (λ l. a ∷ l) (range-from (suc a) n))

-- the closure g, at its state f, is called at an item whose value is v x
abbrev Computes : {A B F : Type 0} → Mut F (A × Unit {0}) Bool → F → (A → B) → (B → Bool) → Type 0
Computes {A} {F} g f v test = (x : A) (b : Bool) (q : F) → Called g f (x, tt) b q → (q ≡ f) × (b ≡ test (v x))

abbrev RanAll : {S A F : Type 0} → (S → Option A → S → Type 0) → Mut F (A × Unit {0}) Bool → S → S → F → Bool → Type 0
RanAll {A} {F} steps g s u f r =
    (xs : List A) × (o : Option A) × (j : F) × YieldsThen steps s xs o u × FoldsTo (λ p x q. Called g p (x, tt) true q) f xs j
    × MatchOption o (r ≡ true) (λ x. (r ≡ false) × ((h : F) × Called g j (x, tt) false h))

abbrev RanAny : {S A F : Type 0} → (S → Option A → S → Type 0) → Mut F (A × Unit {0}) Bool → S → S → F → Bool → Type 0
RanAny {A} {F} steps g s u f r =
    (xs : List A) × (o : Option A) × (j : F) × YieldsThen steps s xs o u × FoldsTo (λ p x q. Called g p (x, tt) false q) f xs j
    × MatchOption o (r ≡ false) (λ x. (r ≡ true) × ((h : F) × Called g j (x, tt) true h))

module _ {A F : Type 0} {g : Mut F (Bor A × Unit {0}) Bool} {s : Iter A} (test : A → Bool) (xs : List A) (u : Iter A) (f : F) (r : Bool) where
  pub all_over : RanAll fronts g s u f r → iter_rest s ≡ xs → Computes g f (λ y. y.now) test → r ≡ all test xs
  all_over h e k = all_from_yields_List test u f r h (YieldsList-from_slice xs e) k ∙ all-list test xs

  pub any_over : RanAny fronts g s u f r → iter_rest s ≡ xs → Computes g f (λ y. y.now) test → r ≡ any test xs
  any_over h e k = any_from_yields_List test u f r h (YieldsList-from_slice xs e) k ∙ any-list test xs

whole : {s : Range ℕ} (n : ℕ) → s ≡ record { start = 0; end = n } → YieldsList nat_range_steps (λ x. x) s (range_with_len 0 n)
whole n e = YieldsList-from_range 0 n n e (sub-zero n)

module _ {F : Type 0} {g : Mut F (ℕ × Unit {0}) Bool} {s : Range ℕ} (test : ℕ → Bool) (n : ℕ) (u : Range ℕ) (f : F) (r : Bool) where
  pub all_below : RanAll nat_range_steps g s u f r → s ≡ record { start = 0; end = n } → Computes g f (λ x. x) test → r ≡ all test (below n)
  all_below h e k = all_from_yields_List test u f r h (whole n e) k ∙ all-list test (range_with_len 0 n) ∙ ap (all test) (range-from 0 n)

  pub any_below : RanAny nat_range_steps g s u f r → s ≡ record { start = 0; end = n } → Computes g f (λ x. x) test → r ≡ any test (below n)
  any_below h e k = any_from_yields_List test u f r h (whole n e) k ∙ any-list test (range_with_len 0 n) ∙ ap (any test) (range-from 0 n)
