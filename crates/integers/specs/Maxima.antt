-- The greater and the lesser of two whole numbers, the greatest of a list that is not empty, and the least of a list.
-- `mx a b` and `mn a b` tell omega what `max_z a b` and `min_z a b` are. Assumes nothing.
use Rattle.std.proofs.lemmas.Option.{same_Some, none-some as not-some}
use Rattle.std.specs.Prelude.{◌≡◌, refl, Bool, true, false, ◌↔◌, ◌⊎◌, List, [], ◌∷◌, ◌++◌, ◌+◌, min, max, ℤ, ◌≤ℤ◌, if◌then◌else◌, Some, None}
use Rattle.std.proofs.Common.{sym, ap, ◌∙◌, inl, inr}
use mathlib.Core.List.Memᴰ
use mathlib.Core.List.{cons≢nil}
use Rattle.std.specs.Int.Signed.{le_z}
use Rattle.integers.specs.Words.{◌>>=◌, max_z, min_z, greatest_of, smallest_of, least_of}
use Rattle.integers.specs.Linear.{up, dn, zs, ≤ℤ-of-eq, ≤ℤ-trans, ≤ℤ-antisym}
use Rattle.integers.specs.Lists.{◌∈◌}

-- ---- of two
mx-of : (a b : ℤ) (t : Bool) → le_z a b ≡ t → up (if t then b else a) + (dn a + dn b) ≡ dn (if t then b else a) + max (up a + dn b) (up b + dn a)
mx-of a b true e = omega zs
mx-of a b false e = omega zs

pub mx : (a b : ℤ) → up (max_z a b) + (dn a + dn b) ≡ dn (max_z a b) + max (up a + dn b) (up b + dn a)
mx a b = mx-of a b (le_z a b) refl

mn-of : (a b : ℤ) (t : Bool) → le_z a b ≡ t → up (if t then a else b) + (dn a + dn b) ≡ dn (if t then a else b) + min (up a + dn b) (up b + dn a)
mn-of a b true e = omega zs
mn-of a b false e = omega zs

pub mn : (a b : ℤ) → up (min_z a b) + (dn a + dn b) ≡ dn (min_z a b) + min (up a + dn b) (up b + dn a)
mn a b = mn-of a b (le_z a b) refl

one_of : (t : Bool) (x y : ℤ) → ((if t then x else y) ≡ x) ⊎ ((if t then x else y) ≡ y)
one_of true x y = inl refl
one_of false x y = inr refl

module _ (a b : ℤ) where
  pub max-left : a ≤ℤ max_z a b
  max-left = omega (zs, mx a b)

  pub max-right : b ≤ℤ max_z a b
  max-right = omega (zs, mx a b)

  pub min-left : min_z a b ≤ℤ a
  min-left = omega (zs, mn a b)

  pub min-right : min_z a b ≤ℤ b
  min-right = omega (zs, mn a b)

  pub max_cases : (max_z a b ≡ b) ⊎ (max_z a b ≡ a)
  max_cases = one_of (le_z a b) b a

  pub min_cases : (min_z a b ≡ a) ⊎ (min_z a b ≡ b)
  min_cases = one_of (le_z a b) a b

-- ---- the greatest of a list
greatest-of : (z : ℤ) (l : List ℤ) → greatest_of (z ∷ l) ∈ (z ∷ l) × ((y : ℤ) → y ∈ (z ∷ l) → y ≤ℤ greatest_of (z ∷ l))
greatest-of z [] = (Memᴰ.head refl, λ y m. go m)
  where
    go : {y : ℤ} → y ∈ (z ∷ []) → y ≤ℤ z
    go (Memᴰ.head e) = ≤ℤ-of-eq e
    go (Memᴰ.tail m) = absurd (Memᴰ.not-nil m)
greatest-of z (y ∷ l) = let (i, u) = greatest-of y l in (has (max_cases z (greatest_of (y ∷ l))) i, λ x m. tops u m)
  where
    has : (max_z z (greatest_of (y ∷ l)) ≡ greatest_of (y ∷ l)) ⊎ (max_z z (greatest_of (y ∷ l)) ≡ z) → greatest_of (y ∷ l) ∈ (y ∷ l)
        → max_z z (greatest_of (y ∷ l)) ∈ (z ∷ y ∷ l)
    has (inl e) i = Memᴰ.tail (Memᴰ.cast e i)
    has (inr e) i = Memᴰ.head e

    tops : ((x : ℤ) → x ∈ (y ∷ l) → x ≤ℤ greatest_of (y ∷ l)) → {x : ℤ} → x ∈ (z ∷ y ∷ l) → x ≤ℤ max_z z (greatest_of (y ∷ l))
    tops u (Memᴰ.head e) = ≤ℤ-trans (≤ℤ-of-eq e) (max-left z (greatest_of (y ∷ l)))
    tops u {x} (Memᴰ.tail m) = ≤ℤ-trans (u x m) (max-right z (greatest_of (y ∷ l)))

pub greatest-above : {z : ℤ} (l : List ℤ) → z ∈ l → z ≤ℤ greatest_of l
greatest-above [] m = absurd (Memᴰ.not-nil m)
greatest-above {z} (y ∷ l) m = (greatest-of y l).1 z m

pub smallest-below : {z : ℤ} (l : List ℤ) → z ∈ l → smallest_of l ≤ℤ z
smallest-below [] m = absurd (Memᴰ.not-nil m)
smallest-below (y ∷ []) (Memᴰ.head e) = ≤ℤ-of-eq (sym e)
smallest-below (y ∷ []) (Memᴰ.tail m) = absurd (Memᴰ.not-nil m)
smallest-below (y ∷ x ∷ l) (Memᴰ.head e) = ≤ℤ-trans (min-left y (smallest_of (x ∷ l))) (≤ℤ-of-eq (sym e))
smallest-below (y ∷ x ∷ l) (Memᴰ.tail m) = ≤ℤ-trans (min-right y (smallest_of (x ∷ l))) (smallest-below (x ∷ l) m)

pub greatest-attained : {z : ℤ} (l : List ℤ) → z ∈ l → greatest_of l ∈ l
greatest-attained [] m = absurd (Memᴰ.not-nil m)
greatest-attained (y ∷ l) m = (greatest-of y l).0

pub greatest-most : {z u : ℤ} (l : List ℤ) → z ∈ l → ((y : ℤ) → y ∈ l → y ≤ℤ u) → greatest_of l ≤ℤ u
greatest-most l m h = h (greatest_of l) (greatest-attained l m)

pub greatest-is : {z : ℤ} (l : List ℤ) → z ∈ l → ((y : ℤ) → y ∈ l → y ≤ℤ z) → greatest_of l ≡ z
greatest-is l m h = ≤ℤ-antisym (greatest-most l m h) (greatest-above l m)

pub greatest-append : {x y : ℤ} (xs ys : List ℤ) → x ∈ xs → y ∈ ys → greatest_of (xs ++ ys) ≡ max_z (greatest_of xs) (greatest_of ys)
greatest-append xs ys m n = greatest-is (xs ++ ys) (has (max_cases (greatest_of xs) (greatest_of ys))) (λ z k. tops (Memᴰ.append_cases xs k))
  where
    has : (max_z (greatest_of xs) (greatest_of ys) ≡ greatest_of ys) ⊎ (max_z (greatest_of xs) (greatest_of ys) ≡ greatest_of xs)
        → max_z (greatest_of xs) (greatest_of ys) ∈ (xs ++ ys)
    has (inl e) = Memᴰ.append_right xs (Memᴰ.cast e (greatest-attained ys n))
    has (inr e) = Memᴰ.append_left ys (Memᴰ.cast e (greatest-attained xs m))

    tops : {z : ℤ} → z ∈ xs ⊎ z ∈ ys → z ≤ℤ max_z (greatest_of xs) (greatest_of ys)
    tops (inl k) = ≤ℤ-trans (greatest-above xs k) (max-left (greatest_of xs) (greatest_of ys))
    tops (inr k) = ≤ℤ-trans (greatest-above ys k) (max-right (greatest_of xs) (greatest_of ys))

-- ---- the least of a list
least-of : (z : ℤ) (l : List ℤ) → (m : ℤ) × (least_of (z ∷ l) ≡ Some m) × m ∈ (z ∷ l) × ((y : ℤ) → y ∈ (z ∷ l) → m ≤ℤ y)
least-of z [] = (z, refl, Memᴰ.head refl, λ y m. go m)
  where
    go : {y : ℤ} → y ∈ (z ∷ []) → z ≤ℤ y
    go (Memᴰ.head e) = ≤ℤ-of-eq (sym e)
    go (Memᴰ.tail m) = absurd (Memᴰ.not-nil m)
least-of z (y ∷ l) =
    let (m, e, i, u) = least-of y l in
    (min_z z m, ap (λ o. o >>= λ m. Some (min_z z m)) e, has m (min_cases z m) i, λ x k. tops m u k)
  where
    has : (m : ℤ) → (min_z z m ≡ z) ⊎ (min_z z m ≡ m) → m ∈ (y ∷ l) → min_z z m ∈ (z ∷ y ∷ l)
    has m (inl e) i = Memᴰ.head e
    has m (inr e) i = Memᴰ.tail (Memᴰ.cast e i)

    tops : (m : ℤ) → ((x : ℤ) → x ∈ (y ∷ l) → m ≤ℤ x) → {x : ℤ} → x ∈ (z ∷ y ∷ l) → min_z z m ≤ℤ x
    tops m u (Memᴰ.head e) = ≤ℤ-trans (min-left z m) (≤ℤ-of-eq (sym e))
    tops m u {x} (Memᴰ.tail k) = ≤ℤ-trans (min-right z m) (u x k)

pub least-below : {m z : ℤ} (l : List ℤ) → least_of l ≡ Some m → z ∈ l → m ≤ℤ z
least-below [] e k = absurd (Memᴰ.not-nil k)
least-below {m} {z} (y ∷ l) e k = let (j, d, i, u) = least-of y l in ≤ℤ-trans (≤ℤ-of-eq (same_Some m j (sym e ∙ d))) (u z k)

pub least-attained : {m : ℤ} (l : List ℤ) → least_of l ≡ Some m → m ∈ l
least-attained {m} [] e = absurd (not-some m e)
least-attained {m} (y ∷ l) e = let (j, d, i, u) = least-of y l in Memᴰ.cast (same_Some m j (sym e ∙ d)) i

pub least-none : (l : List ℤ) → least_of l ≡ None ↔ l ≡ []
least-none [] = (λ e. refl, λ e. refl)
least-none (y ∷ l) = (λ e. let (j, d, i, u) = least-of y l in absurd (not-some j (sym (sym d ∙ e))), λ e. absurd (cons≢nil e))
