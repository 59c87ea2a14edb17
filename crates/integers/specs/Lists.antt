-- Lists: elements, tests of all and of some elements, lists made by a test or by joining, all lists of a length, numbers in order.
-- `x ∈ xs` is a place of x in xs. A law `NAME-in` makes such a place, and a law `in-NAME` says what one tells. Assumes nothing.
use Rattle.std.proofs.lemmas.Option.{same_Some, none-some as not-some}
use Rattle.std.specs.Prelude.{◌≡◌, refl, Bool, true, false, not, ◌&&◌, ◌||◌, ◌≢◌, ◌↔◌, ◌⊎◌, ℕ, zero, suc, ◌+◌, ◌≤◌, ◌<◌, T, eqb, length, if◌then◌else◌, Some, None}
use Rattle.std.proofs.Common.{sym, ap, ap₂, subst, ◌∙◌, inl, inr, add-zero, zero-add, add-suc, suc-add, add-one, arith, eqb→eq}
use mathlib.Core.List.Memᴰ
use mathlib.Core.List.{List, [], ◌∷◌, ◌++◌, map, append_assoc, Memᴰ}
use Rattle.std.proofs.Math.Dec.{not_T, eqb_refl}
use Rattle.std.proofs.lemmas.List.{length-map}
use Rattle.integers.specs.Words.{from, below, all, any, those, first, joined, choices, is_in}
use Rattle.integers.specs.Tests.{is_true, either, and_intro, and_left, and_right, or_left, or_right, or_cases, not-eqb-iff}

infix 50 ◌∈◌
abbrev pub ◌∈◌ : {A : Type 0} → A → List A → Type 0
x ∈ xs = Memᴰ x xs

module _ {A : Type 0} where
  -- ---- tests of all and of some elements
  module _ (f : A → Bool) where
    all-to : {x : A} {xs : List A} → x ∈ xs → T (all f xs) → T (f x)
    all-to (Memᴰ.head {x = y} {xs = ys} e) t = rw e (and_left (f y) (all f ys) t)
    all-to (Memᴰ.tail {x = y} {xs = ys} m) t = all-to m (and_right (f y) (all f ys) t)

    all_back : (xs : List A) → ((x : A) → x ∈ xs → T (f x)) → T (all f xs)
    all_back [] h = tt
    all_back (x ∷ xs) h = and_intro (f x) (all f xs) (h x (Memᴰ.head refl)) (all_back xs (λ y m. h y (Memᴰ.tail m)))

    pub all_in : (xs : List A) → T (all f xs) ↔ ((x : A) → x ∈ xs → T (f x))
    all_in xs = (λ t x m. all-to m t, all_back xs)

    any-back : {x : A} {xs : List A} → x ∈ xs → T (f x) → T (any f xs)
    any-back (Memᴰ.head {x = y} {xs = ys} e) t = or_left (f y) (any f ys) (rw e at t)
    any-back (Memᴰ.tail {x = y} {xs = ys} m) t = or_right (f y) (any f ys) (any-back m t)

    any-to : (xs : List A) → T (any f xs) → (x : A) × x ∈ xs × T (f x)
    any-to [] t = absurd t
    any-to (x ∷ xs) t = go (or_cases (f x) (any f xs) t) (any-to xs)
      where
        go : T (f x) ⊎ T (any f xs) → (T (any f xs) → (y : A) × y ∈ xs × T (f y)) → (y : A) × y ∈ (x ∷ xs) × T (f y)
        go (inl s) r = (x, Memᴰ.head refl, s)
        go (inr s) r = let (y, m, p) = r s in (y, Memᴰ.tail m, p)

    pub any-in : (xs : List A) → T (any f xs) ↔ ((x : A) × x ∈ xs × T (f x))
    any-in xs = (any-to xs, λ p. any-back p.1 p.2)

    pub any_append : (xs ys : List A) → any f (xs ++ ys) ≡ (any f xs || any f ys)
    any_append [] ys = refl
    any_append (x ∷ xs) ys = ap (λ b. f x || b) (any_append xs ys) ∙ or_assoc (f x)
      where
        or_assoc : (a : Bool) → (a || (any f xs || any f ys)) ≡ ((a || any f xs) || any f ys)
        or_assoc true = refl
        or_assoc false = refl

    -- ---- the elements at which a test passes
    those-step : (b : Bool) {x y : A} {xs : List A} → f y ≡ b → x ∈ (if b then y ∷ those f xs else those f xs) → (x ∈ those f xs → x ∈ xs × T (f x))
        → x ∈ (y ∷ xs) × T (f x)
    those-step true {x} {y} {xs} e m r = go m
      where
        go : x ∈ (y ∷ those f xs) → x ∈ (y ∷ xs) × T (f x)
        go (Memᴰ.head q) = (Memᴰ.head q, rw (q, e) tt)
        go (Memᴰ.tail m) = let (k, t) = r m in (Memᴰ.tail k, t)
    those-step false e m r = let (k, t) = r m in (Memᴰ.tail k, t)

    pub in-those : {x : A} (xs : List A) → x ∈ those f xs → x ∈ xs × T (f x)
    in-those [] m = absurd (Memᴰ.not-nil m)
    in-those (y ∷ xs) m = those-step (f y) refl m (λ k. in-those xs k)

    pub those-in : {x : A} {xs : List A} → x ∈ xs → T (f x) → x ∈ those f xs
    those-in {x} (Memᴰ.head {x = y} {xs = ys} e) t = rw (is_true (f y) (rw e at t)) (Memᴰ.head e)
    those-in {x} (Memᴰ.tail {x = y} {xs = ys} m) t = go (f y) (those-in m t)
      where
        go : (b : Bool) → x ∈ those f ys → x ∈ (if b then y ∷ those f ys else those f ys)
        go true k = Memᴰ.tail k
        go false k = k

    pub those-append : (xs ys : List A) → those f (xs ++ ys) ≡ those f xs ++ those f ys
    those-append [] ys = refl
    those-append (x ∷ xs) ys = go (f x) (those-append xs ys)
      where
        go : (b : Bool) → those f (xs ++ ys) ≡ those f xs ++ those f ys
            → (if b then x ∷ those f (xs ++ ys) else those f (xs ++ ys)) ≡ (if b then x ∷ those f xs else those f xs) ++ those f ys
        go true e = ap (λ l. x ∷ l) e
        go false e = e

    pub those-none : (xs : List A) → T (not (any f xs)) → those f xs ≡ []
    those-none [] t = refl
    those-none (x ∷ xs) t = go (f x) t (those-none xs)
      where
        go : (b : Bool) → T (not (b || any f xs)) → (T (not (any f xs)) → those f xs ≡ []) → (if b then x ∷ those f xs else those f xs) ≡ []
        go true t r = absurd t
        go false t r = r t

    pub those-few : (xs : List A) → length (those f xs) ≤ length xs
    those-few [] = omega arith
    those-few (x ∷ xs) = go (f x) (those-few xs)
      where
        go : (b : Bool) → length (those f xs) ≤ length xs → length (if b then x ∷ those f xs else those f xs) ≤ suc (length xs)
        go true h = omega arith
        go false h = omega arith

    -- the first of them
    pub first-those : {x : A} (xs : List A) → first (those f xs) ≡ Some x → x ∈ xs × T (f x)
    first-those xs e = in-those xs (go (those f xs) e)
      where
        go : {x : A} (l : List A) → first l ≡ Some x → x ∈ l
        go {x} [] e = absurd (not-some x e)
        go {x} (y ∷ l) e = Memᴰ.head (sym (same_Some y x e))

    pub first-none : (xs : List A) → first (those f xs) ≡ None → T (not (any f xs))
    first-none xs e = not_T (any f xs) (λ t. let (x, m, s) = any-to xs t in go (those f xs) e (those-in m s))
      where
        go : {x : A} (l : List A) → first l ≡ None → x ∈ l → ⊥
        go [] e m = Memᴰ.not-nil m
        go (y ∷ l) e m = not-some y (sym e)

  -- ---- tests that agree
  module _ {f g : A → Bool} where
    pub all-cong : (xs : List A) → ((x : A) → x ∈ xs → f x ≡ g x) → all f xs ≡ all g xs
    all-cong [] h = refl
    all-cong (x ∷ xs) h = ap₂ ◌&&◌ (h x (Memᴰ.head refl)) (all-cong xs (λ y m. h y (Memᴰ.tail m)))

    pub any-cong : (xs : List A) → ((x : A) → x ∈ xs → f x ≡ g x) → any f xs ≡ any g xs
    any-cong [] h = refl
    any-cong (x ∷ xs) h = ap₂ ◌||◌ (h x (Memᴰ.head refl)) (any-cong xs (λ y m. h y (Memᴰ.tail m)))

    pub those-cong : (xs : List A) → ((x : A) → x ∈ xs → f x ≡ g x) → those f xs ≡ those g xs
    those-cong [] h = refl
    those-cong (x ∷ xs) h = ap₂ (λ b l. if b then x ∷ l else l) (h x (Memᴰ.head refl)) (those-cong xs (λ y m. h y (Memᴰ.tail m)))

  -- ---- lists one after the other
  pub joined_in : {x : A} {l : List A} {ls : List (List A)} → x ∈ l → l ∈ ls → x ∈ joined ls
  joined_in {x} m (Memᴰ.head {x = k} {xs = ks} e) = Memᴰ.append_left (joined ks) (subst (λ (q : List A). x ∈ q) e m)
  joined_in m (Memᴰ.tail {x = k} {xs = ks} n) = Memᴰ.append_right k (joined_in m n)

  pub in-joined : {x : A} (ls : List (List A)) → x ∈ joined ls → (l : List A) × l ∈ ls × x ∈ l
  in-joined [] m = absurd (Memᴰ.not-nil m)
  in-joined {x} (l ∷ ls) m = go (Memᴰ.append_cases l m) (λ k. in-joined ls k)
    where
      go : x ∈ l ⊎ x ∈ joined ls → (x ∈ joined ls → (k : List A) × k ∈ ls × x ∈ k) → (k : List A) × k ∈ (l ∷ ls) × x ∈ k
      go (inl k) r = (l, Memᴰ.head refl, k)
      go (inr k) r = let (j, n, o) = r k in (j, Memᴰ.tail n, o)

  pub joined-append : (ks ls : List (List A)) → joined (ks ++ ls) ≡ joined ks ++ joined ls
  joined-append [] ls = refl
  joined-append (k ∷ ks) ls = ap (λ l. k ++ l) (joined-append ks ls) ∙ sym (append_assoc k (joined ks) (joined ls))

module _ {A B : Type 0} where
  pub map-cong : {f g : A → B} (xs : List A) → ((x : A) → x ∈ xs → f x ≡ g x) → map f xs ≡ map g xs
  map-cong [] h = refl
  map-cong (x ∷ xs) h = ap₂ ◌∷◌ (h x (Memᴰ.head refl)) (map-cong xs (λ y m. h y (Memᴰ.tail m)))

  pub map-append : (f : A → B) (xs ys : List A) → map f (xs ++ ys) ≡ map f xs ++ map f ys
  map-append f [] ys = refl
  map-append f (x ∷ xs) ys = ap (λ l. f x ∷ l) (map-append f xs ys)

  pub map-joined : (f : A → B) (ls : List (List A)) → map f (joined ls) ≡ joined (map (map f) ls)
  map-joined f [] = refl
  map-joined f (l ∷ ls) = map-append f l (joined ls) ∙ ap (λ k. map f l ++ k) (map-joined f ls)

  pub all_map : (f : B → Bool) (g : A → B) (xs : List A) → all f (map g xs) ≡ all (λ x. f (g x)) xs
  all_map f g [] = refl
  all_map f g (x ∷ xs) = ap (λ b. f (g x) && b) (all_map f g xs)

  pub those-map : (f : B → Bool) (g : A → B) (xs : List A) → those f (map g xs) ≡ map g (those (λ x. f (g x)) xs)
  those-map f g [] = refl
  those-map f g (x ∷ xs) = go (f (g x)) (those-map f g xs)
    where
      go : (b : Bool) → those f (map g xs) ≡ map g (those (λ x. f (g x)) xs)
          → (if b then g x ∷ those f (map g xs) else those f (map g xs)) ≡ map g (if b then x ∷ those (λ x. f (g x)) xs else those (λ x. f (g x)) xs)
      go true e = ap (λ l. g x ∷ l) e
      go false e = e

pub map-map : {A B C : Type 0} (f : B → C) (g : A → B) (xs : List A) → map f (map g xs) ≡ map (λ x. f (g x)) xs
map-map f g [] = refl
map-map f g (x ∷ xs) = ap (λ l. f (g x) ∷ l) (map-map f g xs)

-- ---- all lists of a length
module _ {A : Type 0} (xs : List A) where
  pub choices-in : (l : List A) → ((x : A) → x ∈ l → x ∈ xs) → l ∈ choices (length l) xs
  choices-in [] h = Memᴰ.head refl
  choices-in (y ∷ l) h =
      joined_in (Memᴰ.map (λ r. y ∷ r) (choices-in l (λ x m. h x (Memᴰ.tail m))))
      (Memᴰ.map (λ x. map (λ r. x ∷ r) (choices (length l) xs)) (h y (Memᴰ.head refl)))

-- ---- numbers in order
pub from_in : (n : ℕ) {a x : ℕ} → a ≤ x → x < a + n → x ∈ from a n
from_in zero l u = absurd (omega arith)
from_in (suc n) {a} {x} l u = go (either (eqb x a)) (λ p. from_in n p (omega arith))
  where
    go : T (eqb x a) ⊎ T (not (eqb x a)) → (suc a ≤ x → x ∈ from (suc a) n) → x ∈ (a ∷ from (suc a) n)
    go (inl t) r = Memᴰ.head (eqb→eq x a t)
    go (inr t) r = Memᴰ.tail (r (omega (arith, (not-eqb-iff x a).0 t)))

pub in-from : (a n : ℕ) {x : ℕ} → x ∈ from a n → (a ≤ x) × (x < a + n)
in-from a zero m = absurd (Memᴰ.not-nil m)
in-from a (suc n) (Memᴰ.head e) = omega arith
in-from a (suc n) (Memᴰ.tail m) = let p = in-from (suc a) n m in omega arith

pub below_in : {n x : ℕ} → x < n → x ∈ below n
below_in {n} h = from_in n (omega arith) (omega arith)

pub in-below : (n : ℕ) {x : ℕ} → x ∈ below n → x < n
in-below n m = omega (arith, in-from 0 n m)

pub from-split : (a m n : ℕ) → from a (m + n) ≡ from a m ++ from (a + m) n
from-split a zero n = rw (zero-add, add-zero)
from-split a (suc m) n = rw (suc-add m n, add-suc a m) (ap (λ l. a ∷ l) (rw (suc-add a m) at (from-split (suc a) m n)))

pub from_suc : (a n : ℕ) → from a (suc n) ≡ from a n ++ ((a + n) ∷ [])
from_suc a n = rw (add-one n) at (from-split a n 1)

pub from-shift : (a b n : ℕ) → from (a + b) n ≡ map (λ x. a + x) (from b n)
from-shift a b zero = refl
from-shift a b (suc n) = ap (λ l. (a + b) ∷ l) (rw add-suc at (from-shift a (suc b) n))

pub length_from : (a n : ℕ) → length (from a n) ≡ n
length_from a zero = refl
length_from a (suc n) = ap suc (length_from (suc a) n)

least : (f : ℕ → Bool) (a n : ℕ) {x : ℕ} → first (those f (from a n)) ≡ Some x → (y : ℕ) → a ≤ y → y < x → T (not (f y))
least f a zero {x} e y l u = absurd (not-some x e)
least f a (suc n) {x} e y l u = go (f a) refl e (either (eqb y a)) (λ d. least f (suc a) n d y)
  where
    go : (b : Bool) → f a ≡ b → first (if b then a ∷ those f (from (suc a) n) else those f (from (suc a) n)) ≡ Some x → T (eqb y a) ⊎ T (not (eqb y a))
        → (first (those f (from (suc a) n)) ≡ Some x → suc a ≤ y → y < x → T (not (f y))) → T (not (f y))
    go true p d t r = absurd (omega (arith, same_Some a x d))
    go false p d (inl t) r = rw (eqb→eq y a t, p) tt
    go false p d (inr t) r = r d (omega (arith, (not-eqb-iff y a).0 t)) u

module _ (f : ℕ → Bool) (n : ℕ) where
  pub all-below : T (all f (below n)) ↔ ((x : ℕ) → x < n → T (f x))
  all-below = (λ t x h. (all_in f (below n)).0 t x (below_in h), λ h. (all_in f (below n)).1 (λ x m. h x (in-below n m)))

  pub any_below : T (any f (below n)) ↔ ((x : ℕ) × (x < n) × T (f x))
  any_below = (
    λ t. let (x, m, s) = (any-in f (below n)).0 t in (x, in-below n m, s),
    λ p. (any-in f (below n)).1 (p.0, below_in p.1, p.2),
  )

  pub all-at : T (all f (below n)) → (x : ℕ) → x < n → T (f x)
  all-at = all-below.0

  pub all_of : ((x : ℕ) → x < n → T (f x)) → T (all f (below n))
  all_of = all-below.1

  pub any_at : T (any f (below n)) → (x : ℕ) × (x < n) × T (f x)
  any_at = any_below.0

  pub any_of : {x : ℕ} → x < n → T (f x) → T (any f (below n))
  any_of {x} h t = any_below.1 (x, h, t)

  -- the first of them is the least
  pub first-least : {x : ℕ} → first (those f (below n)) ≡ Some x → (x < n) × T (f x) × ((y : ℕ) → y < x → T (not (f y)))
  first-least e = let (m, t) = first-those f (below n) e in (in-below n m, t, λ y h. least f 0 n e y (omega arith) h)

module _ {f g : ℕ → Bool} (n : ℕ) (h : (x : ℕ) → x < n → f x ≡ g x) where
  pub all_same : all f (below n) ≡ all g (below n)
  all_same = all-cong (below n) (λ x m. h x (in-below n m))

  pub any_same : any f (below n) ≡ any g (below n)
  any_same = any-cong (below n) (λ x m. h x (in-below n m))

  pub those-same : those f (below n) ≡ those g (below n)
  those-same = those-cong (below n) (λ x m. h x (in-below n m))

pub map_same : {A : Type 0} {f g : ℕ → A} (n : ℕ) → ((x : ℕ) → x < n → f x ≡ g x) → map f (below n) ≡ map g (below n)
map_same n h = map-cong (below n) (λ x m. h x (in-below n m))

pub choices-tab : {A : Type 0} (xs : List A) (g : ℕ → A) (n : ℕ) → ((i : ℕ) → i < n → g i ∈ xs) → map g (below n) ∈ choices n xs
choices-tab {A} xs g n h =
    subst (λ (k : ℕ). map g (below n) ∈ choices k xs) (length-map (below n) g ∙ length_from 0 n)
    (choices-in xs (map g (below n)) (λ x m. let (i, k, e) = Memᴰ.of_map g (below n) m in Memᴰ.cast (sym e) (h i (in-below n k))))

-- ---- numbers that a list holds
pub is_in-in : (xs : List ℕ) (x : ℕ) → T (is_in xs x) ↔ x ∈ xs
is_in-in xs x = (
  λ t. let (y, m, s) = (any-in (λ y. eqb y x) xs).0 t in Memᴰ.cast (sym (eqb→eq y x s)) m,
  λ m. (any-in (λ y. eqb y x) xs).1 (x, m, eqb_refl x),
)

pub is_in-below : (n x : ℕ) → T (is_in (below n) x) ↔ x < n
is_in-below n x = (λ t. in-below n ((is_in-in (below n) x).0 t), λ h. (is_in-in (below n) x).1 (below_in h))

-- all numbers below n but one
pub is_in-but-one : (n i x : ℕ) → T (is_in (those (λ y. not (eqb y i)) (below n)) x) ↔ (x < n) × (x ≢ i)
is_in-but-one n i x = (
  λ t. let (m, o) = in-those other (below n) ((is_in-in (those other (below n)) x).0 t) in (in-below n m, (not-eqb-iff x i).0 o),
  λ (h, o). (is_in-in (those other (below n)) x).1 (those-in other (below_in h) ((not-eqb-iff x i).1 o)),
)
  where
    other : ℕ → Bool
    other y = not (eqb y i)

pub is_in-append : (xs ys : List ℕ) (x : ℕ) → is_in (xs ++ ys) x ≡ (is_in xs x || is_in ys x)
is_in-append xs ys x = any_append (λ y. eqb y x) xs ys
