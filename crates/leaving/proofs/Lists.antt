-- Lists of those numbers that pass a test, one number after the other. Assumes nothing.
use mathlib.Core.Path.{◌≡◌, refl, sym, ap, ap₂, ◌∙◌}
use mathlib.Core.Bool.{Bool, true, false, ◌&&◌, ◌||◌}
use mathlib.Core.List.{List, [], ◌∷◌, ◌++◌, map, append-nil}
use Prim.Native.Nat.{ℕ, zero, suc, ◌+◌, ◌≤◌, ◌<◌}
use native.Mathlib.Nat.{zero-add}
use native.Mathlib.Omega.{arith}
use lib.IntN.{ℤ, pos, ◌+ℤ◌}
use lib.Dec.{T}
use lib.ListN.{length, get_or, length-map}
use lib.Seq.{ext_get_or}
use Rattle.std.specs.Prelude.{if◌then◌else◌}
use Rattle.integers.specs.Words.{from, below, any, those, joined, sum}
use Rattle.integers.specs.Tests.{is_true}
use Rattle.integers.specs.Linear.{flat, zs, ◌▸◌}
use Rattle.integers.specs.Lists.{from-split, those-append, map-append, joined-append}
use Rattle.integers.specs.Tables.{length-tab, get_d-tab, get_d_map}

pub those-next : (f : ℕ → Bool) (n : ℕ) → those f (below (n + 1)) ≡ those f (below n) ++ (if f n then n ∷ [] else [])
those-next f n = ap (those f) (from-split 0 n 1) ∙ those-append f (below n) (from (0 + n) 1) ∙ rw zero-add

pub those-keep : (f : ℕ → Bool) (a n : ℕ) → ((x : ℕ) → a ≤ x → x < a + n → T (f x)) → those f (from a n) ≡ from a n
those-keep f a zero h = refl
those-keep f a (suc n) h =
    let e = is_true (f a) (h a (omega arith) (omega arith)) in
    rw e (ap (λ (l : List ℕ). a ∷ l) (those-keep f (suc a) n (λ x l u. h x (omega arith) (omega arith))))

pub map-keep : (f : ℕ → ℕ) (a n : ℕ) → ((x : ℕ) → a ≤ x → x < a + n → f x ≡ x) → map f (from a n) ≡ from a n
map-keep f a zero h = refl
map-keep f a (suc n) h = ap₂ ◌∷◌ (h a (omega arith) (omega arith)) (map-keep f (suc a) n (λ x l u. h x (omega arith) (omega arith)))

pub map-places : (f : ℕ → ℕ) (xs : List ℕ) → map (λ q. f (get_or xs q 0)) (below (length xs)) ≡ map f xs
map-places f xs =
    let h : ℕ → ℕ = λ q. f (get_or xs q 0) in
    ext_get_or 0 (map h (below (length xs))) (map f xs) (length-tab h 0 (length xs) ∙ sym (length-map xs f))
    (λ q l. let k : q < length xs = omega (arith, length-tab h 0 (length xs)) in get_d-tab h (length xs) q 0 k ∙ sym (get_d_map f xs q 0 0 k))

-- the parts of those that pass, joined
pub joined-next : {A : Type 0} (part : ℕ → List A) (f : ℕ → Bool) (n : ℕ)
    → joined (map part (those f (below (n + 1)))) ≡ joined (map part (those f (below n))) ++ (if f n then part n else [])
joined-next part f n =
    ap (λ (l : List ℕ). joined (map part l)) (those-next f n)
    ∙ ap joined (map-append part (those f (below n)) (if f n then n ∷ [] else []))
    ∙ joined-append (map part (those f (below n))) (map part (if f n then n ∷ [] else []))
    ∙ ap (λ l. joined (map part (those f (below n))) ++ l) (go (f n))
  where
    go : (b : Bool) → joined (map part (if b then n ∷ [] else [])) ≡ (if b then part n else [])
    go true = append-nil (part n)
    go false = refl

-- those that pass, counted in or left out one by one
pub sum-passing : (g : ℕ → ℤ) (f : ℕ → Bool) (xs : List ℕ) → sum (map g (those f xs)) ≡ sum (map (λ x. if f x then g x else pos 0) xs)
sum-passing g f [] = refl
sum-passing g f (x ∷ xs) = go (f x) (sum-passing g f xs)
  where
    go : (b : Bool) → sum (map g (those f xs)) ≡ sum (map (λ x. if f x then g x else pos 0) xs)
        → sum (map g (if b then x ∷ those f xs else those f xs)) ≡ (if b then g x else pos 0) +ℤ sum (map (λ x. if f x then g x else pos 0) xs)
    go true e = ap (λ (z : ℤ). g x +ℤ z) e
    go false e = e ▸ simp flat (omega zs)

pub any-passing : (g f : ℕ → Bool) (xs : List ℕ) → any g (those f xs) ≡ any (λ x. f x && g x) xs
any-passing g f [] = refl
any-passing g f (x ∷ xs) = go (f x) (any-passing g f xs)
  where
    go : (b : Bool) → any g (those f xs) ≡ any (λ x. f x && g x) xs
        → any g (if b then x ∷ those f xs else those f xs) ≡ ((b && g x) || any (λ x. f x && g x) xs)
    go true e = ap (λ (b : Bool). g x || b) e
    go false e = e

pub any-map : (g : ℕ → Bool) (f : ℕ → ℕ) (xs : List ℕ) → any g (map f xs) ≡ any (λ x. g (f x)) xs
any-map g f [] = refl
any-map g f (x ∷ xs) = ap (λ (b : Bool). g (f x) || b) (any-map g f xs)
