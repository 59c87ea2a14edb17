-- Sums: over the elements of a list (`sum-…`), and over the n numbers from a (`Σ-…`). Assumes nothing.
use Rattle.std.specs.Prelude.{◌≡◌, refl, Bool, true, false, not, ◌≢◌, ◌⊎◌, List, [], ◌∷◌, ◌++◌, map, ℕ, zero, suc, ◌+◌, ◌*◌, ◌≤◌, ◌<◌, ℤ, pos, ◌+ℤ◌, ◌-ℤ◌, T, eqb, ◌≤ℤ◌, ◌<ℤ◌, length, get_or, if◌then◌else◌}
use Rattle.std.proofs.Common.{sym, ap, ap₂, ◌∙◌, inl, inr, add-one, add_comm, arith, eqb→eq}
use mathlib.Core.List.Memᴰ
use Rattle.std.proofs.Math.IntN.{+ℤ_idl, +ℤ_assoc}
use Rattle.integers.specs.Words.{from, those, sum, minus}
use Rattle.integers.specs.Tests.{either, if-true, if-false, not-eqb-iff}
use Rattle.integers.specs.Linear.{flat, zs, ◌▸◌}
use Rattle.integers.specs.Lists.{◌∈◌, in-from, from-split, from-shift, length_from, map-append, map-map, map_same, map-cong}

-- ---- one step of a sum
module _ (a b s t : ℤ) where
  add_step : (r : ℤ) → r ≡ s +ℤ t → (a +ℤ b) +ℤ r ≡ (a +ℤ s) +ℤ (b +ℤ t)
  add_step r = simp flat (omega zs)

  sub-step : (r : ℤ) → r ≡ s -ℤ t → (a -ℤ b) +ℤ r ≡ (a +ℤ s) -ℤ (b +ℤ t)
  sub-step r = simp flat (omega zs)

  mono-step : a ≤ℤ b → s ≤ℤ t → (a +ℤ s) ≤ℤ (b +ℤ t)
  mono-step = simp flat (omega zs)

  lt-le : a <ℤ b → s ≤ℤ t → (a +ℤ s) <ℤ (b +ℤ t)
  lt-le = simp flat (omega zs)

  le-lt : a ≤ℤ b → s <ℤ t → (a +ℤ s) <ℤ (b +ℤ t)
  le-lt = simp flat (omega zs)

-- ---- over a list
pub sum-append : (xs ys : List ℤ) → sum (xs ++ ys) ≡ sum xs +ℤ sum ys
sum-append [] ys = sym (+ℤ_idl (sum ys))
sum-append (x ∷ xs) ys = ap (λ (z : ℤ). x +ℤ z) (sum-append xs ys) ∙ sym (+ℤ_assoc x (sum xs) (sum ys))

module _ {A : Type 0} (f g : A → ℤ) where
  pub sum-cong : (xs : List A) → ((x : A) → x ∈ xs → f x ≡ g x) → sum (map f xs) ≡ sum (map g xs)
  sum-cong xs h = ap sum (map-cong xs h)

  pub sum_mono : (xs : List A) → ((x : A) → x ∈ xs → f x ≤ℤ g x) → sum (map f xs) ≤ℤ sum (map g xs)
  sum_mono [] h = omega zs
  sum_mono (x ∷ xs) h = mono-step (f x) (g x) (sum (map f xs)) (sum (map g xs)) (h x (Memᴰ.head refl)) (sum_mono xs (λ y m. h y (Memᴰ.tail m)))

  pub sum-strict : {y : A} {xs : List A} → y ∈ xs → f y <ℤ g y → ((x : A) → x ∈ xs → f x ≤ℤ g x) → sum (map f xs) <ℤ sum (map g xs)
  sum-strict (Memᴰ.head {x = x} {xs = xs} e) l h =
      lt-le (f x) (g x) (sum (map f xs)) (sum (map g xs)) (rw e at l) (sum_mono xs (λ y m. h y (Memᴰ.tail m)))
  sum-strict (Memᴰ.tail {x = x} {xs = xs} m) l h =
      le-lt (f x) (g x) (sum (map f xs)) (sum (map g xs)) (h x (Memᴰ.head refl)) (sum-strict m l (λ y m. h y (Memᴰ.tail m)))

  pub sum-add : (xs : List A) → sum (map (λ x. f x +ℤ g x) xs) ≡ sum (map f xs) +ℤ sum (map g xs)
  sum-add [] = refl
  sum-add (x ∷ xs) = add_step (f x) (g x) (sum (map f xs)) (sum (map g xs)) _ (sum-add xs)

  pub sum-sub : (xs : List A) → sum (map (λ x. f x -ℤ g x) xs) ≡ sum (map f xs) -ℤ sum (map g xs)
  sum-sub [] = refl
  sum-sub (x ∷ xs) = sub-step (f x) (g x) (sum (map f xs)) (sum (map g xs)) _ (sum-sub xs)

module _ {A : Type 0} (f : A → ℤ) where
  pub sum-zero : (xs : List A) → ((x : A) → x ∈ xs → f x ≡ pos 0) → sum (map f xs) ≡ pos 0
  sum-zero [] h = refl
  sum-zero (x ∷ xs) h = ap₂ ◌+ℤ◌ (h x (Memᴰ.head refl)) (sum-zero xs (λ y m. h y (Memᴰ.tail m)))

  -- each at most u, each at least −u
  pub sum-most : (u : ℕ) (xs : List A) → ((x : A) → x ∈ xs → f x ≤ℤ pos u) → sum (map f xs) ≤ℤ pos (length xs * u)
  sum-most u [] h = omega zs
  sum-most u (x ∷ xs) h = h x (Memᴰ.head refl) ▸ sum-most u xs (λ y m. h y (Memᴰ.tail m)) ▸ simp flat (omega zs)

  pub sum-least : (u : ℕ) (xs : List A) → ((x : A) → x ∈ xs → minus u ≤ℤ f x) → minus (length xs * u) ≤ℤ sum (map f xs)
  sum-least u [] h = simp flat (omega zs)
  sum-least u (x ∷ xs) h = h x (Memᴰ.head refl) ▸ sum-least u xs (λ y m. h y (Memᴰ.tail m)) ▸ simp flat (omega zs)

-- ---- over the n numbers from a
abbrev pub Σ : (ℕ → ℤ) → ℕ → ℕ → ℤ
Σ f a n = sum (map f (from a n))

module _ (f g : ℕ → ℤ) (a n : ℕ) where
  pub Σ-cong : ((x : ℕ) → a ≤ x → x < a + n → f x ≡ g x) → Σ f a n ≡ Σ g a n
  Σ-cong h = sum-cong f g (from a n) (λ x m. let (l, u) = in-from a n m in h x l u)

  pub Σ-mono : ((x : ℕ) → a ≤ x → x < a + n → f x ≤ℤ g x) → Σ f a n ≤ℤ Σ g a n
  Σ-mono h = sum_mono f g (from a n) (λ x m. let (l, u) = in-from a n m in h x l u)

  pub Σ-add : Σ (λ x. f x +ℤ g x) a n ≡ Σ f a n +ℤ Σ g a n
  Σ-add = sum-add f g (from a n)

  pub Σ-sub : Σ (λ x. f x -ℤ g x) a n ≡ Σ f a n -ℤ Σ g a n
  Σ-sub = sum-sub f g (from a n)

module _ (f : ℕ → ℤ) where
  pub Σ-split : (a m n : ℕ) → Σ f a (m + n) ≡ Σ f a m +ℤ Σ f (a + m) n
  Σ-split a m n = rw (from-split a m n, map-append f (from a m) (from (a + m) n)) (sum-append (map f (from a m)) (map f (from (a + m) n)))

  -- the last of them
  pub Σ-last : (a n : ℕ) → Σ f a (suc n) ≡ Σ f a n +ℤ f (a + n)
  Σ-last a n = (rw (add-one n) at (Σ-split a n 1)) ▸ simp flat (omega zs)

  pub Σ-zero : (a n : ℕ) → ((x : ℕ) → a ≤ x → x < a + n → f x ≡ pos 0) → Σ f a n ≡ pos 0
  Σ-zero a n h = sum-zero f (from a n) (λ x m. let (l, u) = in-from a n m in h x l u)

  pub Σ-most : (u a n : ℕ) → ((x : ℕ) → a ≤ x → x < a + n → f x ≤ℤ pos u) → Σ f a n ≤ℤ pos (n * u)
  Σ-most u a n h = rw (length_from a n) at (sum-most f u (from a n) (λ x m. let (l, u) = in-from a n m in h x l u))

  pub Σ-least : (u a n : ℕ) → ((x : ℕ) → a ≤ x → x < a + n → minus u ≤ℤ f x) → minus (n * u) ≤ℤ Σ f a n
  Σ-least u a n h = rw (length_from a n) at (sum-least f u (from a n) (λ x m. let (l, u) = in-from a n m in h x l u))

-- ---- one entry
abbrev pub only : ℕ → ℤ → ℕ → ℤ
only i z x = if eqb x i then z else pos 0

pub only-off : (i : ℕ) (z : ℤ) {x : ℕ} → x ≢ i → only i z x ≡ pos 0
only-off i z {x} h = if-false z (pos 0) (eqb x i) ((not-eqb-iff x i).1 h)

pub Σ-only : (i : ℕ) (z : ℤ) (a n : ℕ) → a ≤ i → i < a + n → Σ (only i z) a n ≡ z
Σ-only i z a zero l u = absurd (omega arith)
Σ-only i z a (suc n) l u = go (either (eqb a i)) (λ p. Σ-only i z (suc a) n p (omega arith))
  where
    go : T (eqb a i) ⊎ T (not (eqb a i)) → (suc a ≤ i → Σ (only i z) (suc a) n ≡ z) → only i z a +ℤ Σ (only i z) (suc a) n ≡ z
    go (inl t) r =
        let e : a ≡ i = eqb→eq a i t in
        if-true z (pos 0) (eqb a i) t ▸ Σ-zero (only i z) (suc a) n (λ x p q. only-off i z (omega arith)) ▸ simp flat (omega zs)
    go (inr t) r = if-false z (pos 0) (eqb a i) t ▸ r (omega (arith, (not-eqb-iff a i).0 t)) ▸ simp flat (omega zs)

-- f and g differ at i alone
pub Σ-change : (f g : ℕ → ℤ) (a n : ℕ) {i : ℕ} → a ≤ i → i < a + n → ((x : ℕ) → a ≤ x → x < a + n → x ≢ i → g x ≡ f x) → Σ g a n ≡ Σ f a n +ℤ (g i -ℤ f i)
Σ-change f g a n {i} l u h =
    Σ-cong g (λ x. f x +ℤ only i (g i -ℤ f i) x) a n (λ x p q. go x p q (either (eqb x i)))
    ∙ Σ-add f (only i (g i -ℤ f i)) a n ∙ ap (λ (z : ℤ). Σ f a n +ℤ z) (Σ-only i (g i -ℤ f i) a n l u)
  where
    go : (x : ℕ) → a ≤ x → x < a + n → T (eqb x i) ⊎ T (not (eqb x i)) → g x ≡ f x +ℤ only i (g i -ℤ f i) x
    go x p q (inl t) = if-true (g i -ℤ f i) (pos 0) (eqb x i) t ▸ ap g (eqb→eq x i t) ▸ ap f (eqb→eq x i t) ▸ simp flat (omega zs)
    go x p q (inr t) = h x p q ((not-eqb-iff x i).0 t) ▸ if-false (g i -ℤ f i) (pos 0) (eqb x i) t ▸ simp flat (omega zs)

-- ---- parts of a sum

-- where a test passes, and where it does not
pub sum-those : {A : Type 0} (f : A → ℤ) (test : A → Bool) (xs : List A)
    → sum (map f xs) ≡ sum (map f (those (λ x. not (test x)) xs)) +ℤ sum (map f (those test xs))
sum-those f test [] = refl
sum-those f test (x ∷ xs) = go (test x) (sum-those f test xs)
  where
    go : (b : Bool) → sum (map f xs) ≡ sum (map f (those (λ x. not (test x)) xs)) +ℤ sum (map f (those test xs))
        → f x +ℤ sum (map f xs)
        ≡ sum (map f (if not b then x ∷ those (λ x. not (test x)) xs else those (λ x. not (test x)) xs))
        +ℤ sum (map f (if b then x ∷ those test xs else those test xs))
    go true e = e ▸ simp flat (omega zs)
    go false e = e ▸ simp flat (omega zs)

-- over the elements of a list, by their places
pub Σ-list : (f : ℕ → ℤ) (xs : List ℕ) → Σ (λ q. f (get_or xs q 0)) 0 (length xs) ≡ sum (map f xs)
Σ-list f [] = refl
Σ-list f (x ∷ xs) =
    ap (λ (z : ℤ). f x +ℤ z) (ap sum (ap (map (λ q. f (get_or (x ∷ xs) q 0))) (from-shift 1 0 (length xs))
    ∙ map-map (λ q. f (get_or (x ∷ xs) q 0)) (λ q. 1 + q) (from 0 (length xs)) ∙ map_same (length xs) (λ q h. rw (add_comm 1 q, add-one)))
    ∙ Σ-list f xs)

pub Σ-shift : (f : ℕ → ℤ) (a n : ℕ) → Σ f a n ≡ Σ (λ x. f (a + x)) 0 n
Σ-shift f a n =
    let e : a ≡ a + 0 = omega arith in
    ap (λ (b : ℕ). Σ f b n) e ∙ ap (λ (l : List ℕ). sum (map f l)) (from-shift a 0 n) ∙ ap sum (map-map f (λ x. a + x) (from 0 n))
