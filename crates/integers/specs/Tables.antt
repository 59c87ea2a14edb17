-- Lists read by index: the element at a place, tables of a function, and lists of equal parts, one after the other. Assumes nothing.
use Rattle.std.specs.Prelude.{◌≡◌, refl, Bool, true, false, ◌↔◌, List, [], ◌∷◌, map, ℕ, zero, suc, ◌+◌, ◌*◌, ◌-◌, ◌/◌, ◌%◌, ◌≤◌, ◌<◌, T, length, get_or, take, drop, if◌then◌else◌}
use Rattle.std.proofs.Common.{sym, ap, ◌∙◌, zero-mul, zero-add, suc-mul, add_comm, add-zero, add-suc, suc-add, div-add-mod', div-lt_iff_lt-mul, mod-lt, arith, length-append, get_or-append-add, take_at}
use mathlib.Core.List.Memᴰ
use Rattle.std.proofs.Math.Nat.{sub-zero, suc-sub-suc}
use Rattle.std.proofs.lemmas.List.{length-map}
use Rattle.std.proofs.Math.ListN.{get_or-append}
use Rattle.std.proofs.Math.Seq.{drop-append-add}
use Rattle.integers.specs.Words.{from, below, all, any, those, joined}
use Rattle.integers.specs.Lists.{◌∈◌, all_in, any-in, in-those, length_from, in-from, in-below}

-- ---- the element at a place
module _ {A : Type 0} where
  pub get_d-in : (xs : List A) {i : ℕ} (d : A) → i < length xs → get_or xs i d ∈ xs
  get_d-in [] d h = absurd (omega arith)
  get_d-in (x ∷ xs) {i = zero} d h = Memᴰ.head refl
  get_d-in (x ∷ xs) {i = suc i} d h = Memᴰ.tail (get_d-in xs d (omega arith))

  pub in-get_d : {x : A} {xs : List A} (d : A) → x ∈ xs → (i : ℕ) × (i < length xs) × (get_or xs i d ≡ x)
  in-get_d d (Memᴰ.head e) = (0, omega arith, sym e)
  in-get_d d (Memᴰ.tail m) = let (i, h, e) = in-get_d d m in (suc i, omega arith, e)

  pub all_get_d : (f : A → Bool) (xs : List A) (d : A) → T (all f xs) ↔ ((i : ℕ) → i < length xs → T (f (get_or xs i d)))
  all_get_d f xs d = (
    λ t i h. (all_in f xs).0 t (get_or xs i d) (get_d-in xs d h),
    λ g. (all_in f xs).1 (λ x m. let (i, h, e) = in-get_d d m in rw (← e) (g i h)),
  )

  pub any-get_d : (f : A → Bool) (xs : List A) (d : A) → T (any f xs) ↔ ((i : ℕ) × (i < length xs) × T (f (get_or xs i d)))
  any-get_d f xs d = (
    λ t. let (x, m, s) = (any-in f xs).0 t in let (i, h, e) = in-get_d d m in (i, h, rw e s),
    λ p. (any-in f xs).1 (get_or xs p.0 d, get_d-in xs d p.1, p.2),
  )

pub get_d_map : {A B : Type 0} (f : A → B) (xs : List A) (i : ℕ) (d : A) (e : B) → i < length xs → get_or (map f xs) i e ≡ f (get_or xs i d)
get_d_map f [] i d e h = absurd (omega arith)
get_d_map f (x ∷ xs) zero d e h = refl
get_d_map f (x ∷ xs) (suc i) d e h = get_d_map f xs i d e (omega arith)

-- ---- tables
pub get_d-from : (a n i d : ℕ) → i < n → get_or (from a n) i d ≡ a + i
get_d-from a zero i d h = absurd (omega arith)
get_d-from a (suc n) zero d h = omega arith
get_d-from a (suc n) (suc i) d h = omega (arith, get_d-from (suc a) n i d (omega arith))

module _ {A : Type 0} (f : ℕ → A) where
  pub length-tab : (a n : ℕ) → length (map f (from a n)) ≡ n
  length-tab a n = length-map (from a n) f ∙ length_from a n

  pub get_d-tab-from : (a n i : ℕ) (d : A) → i < n → get_or (map f (from a n)) i d ≡ f (a + i)
  get_d-tab-from a n i d h = get_d_map f (from a n) i 0 d (omega (arith, length_from a n)) ∙ ap f (get_d-from a n i 0 h)

  pub get_d-tab : (n i : ℕ) (d : A) → i < n → get_or (map f (below n)) i d ≡ f i
  get_d-tab n i d h = get_d-tab-from 0 n i d h ∙ ap f (zero-add i)

-- ---- equal parts, each of d elements
abbrev pub Parts : {A : Type 0} → ℕ → List (List A) → Type 0
Parts {A} d ls = (l : List A) → l ∈ ls → length l ≡ d

module _ {A : Type 0} (d : ℕ) where
  pub length-joined : (ls : List (List A)) → Parts d ls → length (joined ls) ≡ length ls * d
  length-joined [] h = sym (zero-mul d)
  length-joined (l ∷ ls) h = rw (length-append, suc-mul, h l (Memᴰ.head refl), length-joined ls (λ k m. h k (Memᴰ.tail m)))
      (add_comm d (length ls * d))

  pub drop-joined : (ls : List (List A)) → Parts d ls → (i : ℕ) → i ≤ length ls → drop (i * d) (joined ls) ≡ joined (drop i ls)
  drop-joined ls h zero u = rw zero-mul
  drop-joined [] h (suc i) u = absurd (omega arith)
  drop-joined (l ∷ ls) h (suc i) u =
      let e : suc i * d ≡ length l + i * d = omega (arith, h l (Memᴰ.head refl)) in
      rw (e, drop-append-add l (joined ls) (i * d)) (drop-joined ls (λ k m. h k (Memᴰ.tail m)) i (omega arith))

  pub get_d-joined : (ls : List (List A)) → Parts d ls → (i k : ℕ) (z : A) → i < length ls → k < d → get_or (joined ls) (i * d + k) z ≡ get_or (get_or ls i []) k z
  get_d-joined [] h i k z u v = absurd (omega arith)
  get_d-joined (l ∷ ls) h zero k z u v =
      let e : 0 * d + k ≡ k = omega arith in
      rw e (get_or-append l (joined ls) z k (omega (arith, h l (Memᴰ.head refl))))
  get_d-joined (l ∷ ls) h (suc i) k z u v =
      let e : suc i * d + k ≡ length l + (i * d + k) = omega (arith, h l (Memᴰ.head refl)) in
      rw (e, get_or-append-add l (joined ls) (i * d + k) z) (get_d-joined ls (λ k m. h k (Memᴰ.tail m)) i k z (omega arith) v)

-- ---- a table's first places, and what follows them
module _ {A : Type 0} (f : ℕ → A) where
  pub drop-tab : (a n i : ℕ) → i ≤ n → drop i (map f (from a n)) ≡ map f (from (a + i) (n - i))
  drop-tab a n zero h = rw (add-zero, sub-zero)
  drop-tab a zero (suc i) h = absurd (omega arith)
  drop-tab a (suc n) (suc i) h = rw (add-suc a i, suc-sub-suc n i) (rw (suc-add a i) at (drop-tab (suc a) n i (omega arith)))

some-wide : (n d : ℕ) {j : ℕ} → j < n * d → 0 < d
some-wide n zero h = absurd (omega arith)
some-wide n (suc d) h = omega arith

-- ---- the rows f 0, .. , f (n − 1), each of d elements
module _ {A : Type 0} (f : ℕ → List A) (n d : ℕ) (size : (x : ℕ) → x < n → length (f x) ≡ d) where
  pub rows : Parts d (map f (below n))
  rows l m = let (x, k, e) = Memᴰ.of_map f (below n) m in rw (← e) (size x (in-below n k))

  pub length-rows : length (joined (map f (below n))) ≡ n * d
  length-rows = rw (length-joined d (map f (below n)) rows, length-tab f 0 n)

  pub get_d_rows : (i k : ℕ) (z : A) → i < n → k < d → get_or (joined (map f (below n))) (i * d + k) z ≡ get_or (f i) k z
  get_d_rows i k z u v = get_d-joined d (map f (below n)) rows i k z (omega (arith, length-tab f 0 n)) v ∙ ap (λ l. get_or l k z) (get_d-tab f n i [] u)

  pub drop-rows : (i : ℕ) → i ≤ n → drop (i * d) (joined (map f (below n))) ≡ joined (map f (from i (n - i)))
  drop-rows i u = drop-joined d (map f (below n)) rows i (omega (arith, length-tab f 0 n)) ∙ ap joined (drop-tab f 0 n i u)
      ∙ ap (λ a. joined (map f (from a (n - i)))) (zero-add i)

  pub row : (i : ℕ) → i < n → take d (drop (i * d) (joined (map f (below n)))) ≡ f i
  row i u =
      let e : n - i ≡ suc (n - suc i) = omega arith in
      rw (drop-rows i (omega arith), e) (take_at (f i) (joined (map f (from (suc i) (n - suc i)))) d (size i u))

  -- a place, by its row and its place there
  pub get_d-rows-at : (j : ℕ) (z : A) → j < n * d → get_or (joined (map f (below n))) j z ≡ get_or (f (j / d)) (j % d) z
  get_d-rows-at j z h =
      let p : 0 < d = some-wide n d h in
      ap (λ i. get_or (joined (map f (below n))) i z) (sym (div-add-mod' j d)) ∙ get_d_rows (j / d) (j % d) z ((div-lt_iff_lt-mul p).1 h) (mod-lt j p)

-- those of the numbers from a upwards rise
module _ (f : ℕ → Bool) where
  those-above : (n a : ℕ) {q : ℕ} → q < length (those f (from a n)) → a ≤ get_or (those f (from a n)) q 0
  those-above n a g = (in-from a n (in-those f (from a n) (get_d-in (those f (from a n)) 0 g)).0).0

  pub those-rising : (n a p q : ℕ) → p < q → q < length (those f (from a n)) → get_or (those f (from a n)) p 0 < get_or (those f (from a n)) q 0
  those-rising zero a p q h g = absurd (omega arith)
  those-rising (suc n) a p q h g = go (those-rising n (suc a)) (f a) p q h g
    where
      next : List ℕ
      next = those f (from (suc a) n)

      go : ((p q : ℕ) → p < q → q < length next → get_or next p 0 < get_or next q 0)
          → (b : Bool) (p q : ℕ) → p < q → q < length (if b then a ∷ next else next)
          → get_or (if b then a ∷ next else next) p 0 < get_or (if b then a ∷ next else next) q 0
      go rest true p zero h g = absurd (omega arith)
      go rest true zero (suc q) h g = omega (arith, those-above n (suc a) {q = q} (omega arith))
      go rest true (suc p) (suc q) h g = rest p q (omega arith) (omega arith)
      go rest false p q h g = rest p q h g
