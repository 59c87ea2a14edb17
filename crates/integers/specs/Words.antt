-- Small words that the definitions of document 01 are written with: tests, lists, whole numbers. Assumes nothing.
use Rattle.std.specs.Prelude.{if◌then◌else◌, Option, Some, None}
use Rattle.std.specs.Prelude.{Bool, true, false, ◌&&◌, ◌||◌, List, [], ◌∷◌, ◌++◌, map, ℕ, zero, suc, ◌+◌, ◌*◌, ℤ, pos, negsuc, neg_ℤ, ◌+ℤ◌, leb, eqb}
use Rattle.std.specs.Int.Signed.{le_z}

-- ---- tests

infixr 28 ◌⇒◌
abbrev pub ◌⇒◌ : Bool → Bool → Bool
true ⇒ b = b
false ⇒ b = true

-- a ≤ x ≤ b
abbrev pub within : ℕ → ℕ → ℕ → Bool
within a b x = leb a x && leb x b

-- ---- what may be missing

-- what follows a value that may be missing
infixl 10 ◌>>=◌
abbrev pub ◌>>=◌ : {A B : Type 0} → Option A → (A → Option B) → Option B
None >>= f = None
Some a >>= f = f a

-- ---- lists

-- the n numbers from a upwards, and the numbers below n
abbrev pub from : ℕ → ℕ → List ℕ
from a zero = []
from a (suc n) = a ∷ from (suc a) n

abbrev pub below : ℕ → List ℕ
below n = from 0 n

module _ {A : Type 0} where
  abbrev pub all : (A → Bool) → List A → Bool
  all f [] = true
  all f (x ∷ xs) = f x && all f xs

  abbrev pub any : (A → Bool) → List A → Bool
  any f [] = false
  any f (x ∷ xs) = f x || any f xs

  -- the elements at which the test passes
  abbrev pub those : (A → Bool) → List A → List A
  those f [] = []
  those f (x ∷ xs) = if f x then x ∷ those f xs else those f xs

  -- the first and the last element of a list, which may have none
  abbrev pub first : List A → Option A
  first [] = None
  first (x ∷ xs) = Some x

  abbrev pub last : List A → Option A
  last [] = None
  last (x ∷ []) = Some x
  last (x ∷ y ∷ ys) = last (y ∷ ys)

  -- lists one after the other
  abbrev pub joined : List (List A) → List A
  joined [] = []
  joined (x ∷ xs) = x ++ joined xs

-- all lists of n elements of xs
abbrev pub choices : {A : Type 0} → ℕ → List A → List (List A)
choices zero xs = [] ∷ []
choices (suc n) xs = joined (map (λ x. map (λ r. x ∷ r) (choices n xs)) xs)

abbrev pub is_in : List ℕ → ℕ → Bool
is_in xs x = any (λ y. eqb y x) xs

-- the number whose n lowest bits say where f passes
unfoldable pub bits_of : ℕ → (ℕ → Bool) → ℕ
bits_of zero f = 0
bits_of (suc n) f = (if f 0 then 1 else 0) + 2 * bits_of n (λ k. f (suc k))

-- ---- whole numbers

-- minus n
abbrev pub minus : ℕ → ℤ
minus n = neg_ℤ (pos n)

abbrev pub eq_z : ℤ → ℤ → Bool
eq_z (pos a) (pos b) = eqb a b
eq_z (pos a) (negsuc b) = false
eq_z (negsuc a) (pos b) = false
eq_z (negsuc a) (negsuc b) = eqb a b

-- a ≤ z ≤ b
abbrev pub within_z : ℤ → ℤ → ℤ → Bool
within_z a b z = le_z a z && le_z z b

abbrev pub sum : List ℤ → ℤ
sum [] = pos 0
sum (z ∷ zs) = z +ℤ sum zs

abbrev pub max_z : ℤ → ℤ → ℤ
max_z a b = if le_z a b then b else a

abbrev pub min_z : ℤ → ℤ → ℤ
min_z a b = if le_z a b then a else b

-- the greatest of a list that is not empty
abbrev pub greatest_of : List ℤ → ℤ
greatest_of [] = pos 0
greatest_of (z ∷ []) = z
greatest_of (z ∷ y ∷ zs) = max_z z (greatest_of (y ∷ zs))

-- the lowest of a list that is not empty
abbrev pub smallest_of : List ℤ → ℤ
smallest_of [] = pos 0
smallest_of (z ∷ []) = z
smallest_of (z ∷ y ∷ zs) = min_z z (smallest_of (y ∷ zs))

-- the least of a list, which may have none
abbrev pub least_of : List ℤ → Option ℤ
least_of [] = None
least_of (z ∷ []) = Some z
least_of (z ∷ y ∷ zs) = least_of (y ∷ zs) >>= λ m. Some (min_z z m)
