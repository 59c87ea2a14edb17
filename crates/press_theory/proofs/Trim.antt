-- Which variable the engine presses and which scopes it raises: the variable is the lowest whose active values are refuted with all other
-- scopes raised, and where there is none, every variable has an active value with a supported family; the kept scopes refute too, they rise,
-- leave out the variable's own scope, and are never none; each of the others is kept just where the kept below it and all others above it do
-- not refute, so that none of the kept can be left out. Assumes nothing.
use Rattle.std.specs.Prelude.{Some, None}
use mathlib.Core.Path.{◌≡◌, refl, sym, ap, subst}
use mathlib.Core.Bool.{Bool, true, false, not}
use mathlib.Core.Logic.{◌≢◌, ◌↔◌, ⊎_elim}
use mathlib.Core.List.{List, [], ◌∷◌, ◌++◌, append-nil, append_assoc}
use mathlib.Core.List.Memᴰ
use Prim.Native.Nat.{ℕ, zero, suc, ◌+◌, ◌≤◌, ◌<◌}
use native.Mathlib.Omega.{arith}
use lib.IntN.{ℤ}
use lib.Dec.{T, T_not, not_T, ltb, ltb→lt, eqb}
use lib.ListN.{length, length-append}
use Rattle.integers.specs.Words.{from, below, all, any, those, first, is_in, ◌⇒◌}
use Rattle.integers.specs.Tests.{tests, either, and_intro, and_left, and_right, if-false, if-cases}
use Rattle.integers.specs.Lists.{◌∈◌, all-at, all_of, any_at, any_of, in-those, those-in}
use Rattle.integers.specs.Lists.{is_in-in, those-none, first-none, first-least, in-below, below_in, length_from}
use Rattle.definitions.specs.declared.Case.{Case}
use Rattle.definitions.specs.Case.{scopes, scope_count, lower_end, upper_end, active}
use Rattle.calls.specs.Calls.{is_rising}
use Rattle.definitions.specs.Consistency.{Family, Supported, allowed, refuted, others}
use Rattle.definitions.specs.Engine.{chosen, NoPress, trimmed, kept_scopes}
use Rattle.definitions.specs.Moves.{active_refuted}
use Rattle.definitions.proofs.Refutation.{refuted-sound, not-refuted}
use Rattle.theory.proofs.Shape.{Shape, ends-below}
use Rattle.press_theory.proofs.Raised.{refuted-more}
use Rattle.theory.proofs.Places.{IsTuple, variable-tuple, edge-tuple, some-active-value}

-- ---- tests that fail somewhere
pub not-all : (f : ℕ → Bool) (n : ℕ) → T (not (all f (below n))) → (x : ℕ) × (x < n) × T (not (f x))
not-all f n t =
    ⊎_elim (any_at (λ x. not (f x)) n)
    (λ s. absurd (T_not (all f (below n)) t (all_of f n (λ x h. ⊎_elim (λ p. p)
    (λ p. absurd (T_not (any (λ x. not (f x)) (below n)) s (any_of (λ x. not (f x)) n h p))) (either (f x))))))
    (either (any (λ x. not (f x)) (below n)))

not-imp : (a b : Bool) → T (not (a ⇒ b)) → T a × T (not b)
not-imp true b t = (tt, t)
not-imp false b t = absurd t

-- ---- values that are not refuted

module _ (c : Case) (w : List ℤ) (R : ℕ → Bool) (i k : ℕ) where
  -- where nothing is forbidden, {k} for i and all values for the others
  pub all-open : k < c.d → ((x a b : ℕ) → IsTuple c x a b → T (allowed c w R x a b)) → (S : Family) × Supported c w R i k S
  all-open h free = (
    S,
    record {
      fixed = λ v g s. (simp tests at s) refl;
      non-empty = λ j g. (k, h, mine j);
      allowed-only = λ j v g l s. free j v 0 (variable-tuple c j v g l);
      partner-above = λ e v g l s. (k, h, mine (upper_end c e), free (c.n + e) v k (edge-tuple c e v k g l h));
      partner-below = λ e u g l s. (k, h, mine (lower_end c e), free (c.n + e) k u (edge-tuple c e k u g h l));
    },
  )
    where
      S : Family
      S j v = eqb j i ⇒ eqb v k

      mine : (j : ℕ) → T (S j k)
      mine j = simp tests (λ e. refl)

-- an active value that is refuted has no supported family
pub no-support : (c : Case) (w : List ℤ) (i : ℕ) (raised : List ℕ) → Shape c → T (active_refuted c w i raised)
    → (k : ℕ) → k < c.d → T (active c w i k 0) → (S : Family) → Supported c w (is_in raised) i k S → ⊥
no-support c w i raised shape t k h a =
    let r = all-at (λ k. active c w i k 0 ⇒ refuted c w (is_in raised) i k) c.d t k h in
    (refuted-sound c w (is_in raised) i k (ends-below shape) ((simp tests at r) a)).none-exists

-- ---- the variable

module _ (c : Case) (w : List ℤ) where
  pub chosen-some : {i : ℕ} → chosen c w ≡ Some i
      → (i < c.n) × T (active_refuted c w i (others c i)) × ((j : ℕ) → j < i → T (not (active_refuted c w j (others c j))))
  chosen-some = first-least (λ i. active_refuted c w i (others c i)) c.n

  pub chosen_none : chosen c w ≡ None ↔ ((i : ℕ) → i < c.n → T (not (active_refuted c w i (others c i))))
  chosen_none = (
    λ e i h. not_T (test i) (λ t. T_not (any test (below c.n)) (first-none test (below c.n) e) (any_of test c.n h t)),
    λ f. ap first (those-none test (below c.n) (not_T (any test (below c.n)) (λ t. let (i, h, s) = any_at test c.n t in T_not (test i) (f i h) s))),
  )
    where
      test : ℕ → Bool
      test i = active_refuted c w i (others c i)

  -- no press and no void line is left, said without an algorithm
  pub no-press-iff : Shape c → chosen c w ≡ None ↔ NoPress c w
  no-press-iff shape = (
    λ e i h.
        let (k, g, t) = not-all (λ k. active c w i k 0 ⇒ refuted c w (is_in (others c i)) i k) c.d (chosen_none.0 e i h) in
        let (a, s) = not-imp (active c w i k 0) (refuted c w (is_in (others c i)) i k) t in
        let (S, p) = not-refuted c w (is_in (others c i)) i k s in
        (k, g, a, S, p),
    λ f. chosen_none.1 (λ i h. not_T (active_refuted c w i (others c i)) (λ t. let (k, g, a, S, s) = f i h in no-support c w i (others c i) shape t k g a S s)),
  )

-- ---- the kept scopes

-- what holds of the scopes raised at first, and still where one is dropped whose dropping keeps the values refuted, holds of the kept scopes
module _ (c : Case) (w : List ℤ) (i : ℕ) (P : List ℕ → Type 0)
    (drops : (kept rest : List ℕ) (x : ℕ) → T (active_refuted c w i (kept ++ rest)) → P (kept ++ (x ∷ rest)) → P (kept ++ rest)) where
  trimmed-has : (kept rest : List ℕ) → P (kept ++ rest) → P (trimmed c w i kept rest)
  trimmed-has kept [] p = rw (append-nil kept) at p
  trimmed-has kept (x ∷ rest) p =
      if-cases (λ l. P (trimmed c w i l rest)) (active_refuted c w i (kept ++ rest)) kept (kept ++ (x ∷ []))
      (λ t. trimmed-has kept rest (drops kept rest x t p))
      (λ t. trimmed-has (kept ++ (x ∷ [])) rest (rw (append_assoc kept (x ∷ []) rest) p))

  pub kept-has : P (others c i) → P (kept_scopes c w i)
  kept-has = trimmed-has [] (others c i)

drop-rising : (kept rest : List ℕ) (x : ℕ) → T (is_rising (kept ++ (x ∷ rest))) → T (is_rising (kept ++ rest))
drop-rising [] [] x t = tt
drop-rising [] (y ∷ rest) x t = and_right (ltb x y) (is_rising (y ∷ rest)) t
drop-rising (a ∷ []) [] x t = tt
drop-rising (a ∷ []) (y ∷ rest) x t = let p = simp tests at t in simp tests (omega arith, p.1.1)
drop-rising (a ∷ b ∷ kept) rest x t =
    and_intro (ltb a b) (is_rising (b ∷ kept ++ rest)) (and_left (ltb a b) (is_rising (b ∷ kept ++ (x ∷ rest))) t)
    (drop-rising (b ∷ kept) rest x (and_right (ltb a b) (is_rising (b ∷ kept ++ (x ∷ rest))) t))

from-rising : (a n : ℕ) → T (is_rising (from a n))
from-rising a zero = tt
from-rising a (suc zero) = tt
from-rising a (suc (suc n)) = and_intro (ltb a (suc a)) (is_rising (from (suc a) (suc n))) (simp tests (omega arith)) (from-rising (suc a) (suc n))

those-rising : (f : ℕ → Bool) (kept xs : List ℕ) → T (is_rising (kept ++ xs)) → T (is_rising (kept ++ those f xs))
those-rising f kept [] t = t
those-rising f kept (x ∷ xs) t =
    if-cases (λ l. T (is_rising (kept ++ l))) (f x) (x ∷ those f xs) (those f xs)
    (λ p. rw (append_assoc kept (x ∷ []) (those f xs)) at (those-rising f (kept ++ (x ∷ [])) xs (rw (append_assoc kept (x ∷ []) xs) t)))
    (λ p. those-rising f kept xs (drop-rising kept xs x t))

those-most : {A : Type 0} (f : A → Bool) (xs : List A) → length (those f xs) ≤ length xs
those-most f [] = omega arith
those-most f (y ∷ xs) = if-cases (λ l. length l ≤ suc (length xs)) (f y) (y ∷ those f xs) (those f xs) (λ t. omega (arith, those-most f xs))
    (λ t. omega (arith, those-most f xs))

those-fewer : {A : Type 0} (f : A → Bool) {x : A} {xs : List A} → x ∈ xs → T (not (f x)) → length (those f xs) < length xs
those-fewer f {x} (Memᴰ.head {x = y} {xs = xs} e) t = rw (if-false (y ∷ those f xs) (those f xs) (f y) (rw e at t)) (omega (arith, those-most f xs))
those-fewer f {x} (Memᴰ.tail {x = y} {xs = xs} m) t =
    if-cases (λ l. length l < suc (length xs)) (f y) (y ∷ those f xs) (those f xs) (λ p. omega (arith, those-fewer f m t))
    (λ p. omega (arith, those-fewer f m t))

others-rising : (c : Case) (i : ℕ) → T (is_rising (others c i))
others-rising c i = those-rising (λ x. not (eqb x i)) [] (scopes c) (from-rising 0 (scope_count c))

module _ (c : Case) (w : List ℤ) (i : ℕ) where
  pub kept-refuted : T (active_refuted c w i (others c i)) → T (active_refuted c w i (kept_scopes c w i))
  kept-refuted = kept-has c w i (λ l. T (active_refuted c w i l)) (λ kept rest x t p. t)

  pub kept-rising : T (is_rising (kept_scopes c w i))
  kept-rising = kept-has c w i (λ l. T (is_rising l)) (λ kept rest x t. drop-rising kept rest x) (others-rising c i)

  pub kept-scopes : {x : ℕ} → x ∈ kept_scopes c w i → (x < scope_count c) × (x ≢ i)
  kept-scopes {x} = kept-has c w i (λ l. x ∈ l → (x < scope_count c) × (x ≢ i))
      (λ kept rest y t p m. p (⊎_elim (λ n. Memᴰ.append_left (y ∷ rest) n) (λ n. Memᴰ.append_right kept (Memᴰ.tail n)) (Memᴰ.append_cases kept m)))
      (λ m. let (n, t) = in-those (λ y. not (eqb y i)) (scopes c) m in (in-below (scope_count c) n, simp tests at t))

  pub kept-fewer : i < c.n → length (kept_scopes c w i) < scope_count c
  kept-fewer h = kept-has c w i (λ l. length l < scope_count c)
      (λ kept rest x t p. omega (arith, length-append kept rest, length-append kept (x ∷ rest)))
      (omega (
        arith,
        those-fewer (λ x. not (eqb x i)) {x = i} {xs = scopes c} (below_in {n = scope_count c} (omega arith)) (simp tests refl),
        length_from 0 (scope_count c),
      ))

  -- where the active values are refuted, something is forbidden
  module _ (shape : Shape c) (own : i < c.n) where
    pub not-all-open : (raised : List ℕ) → T (active_refuted c w i raised) → ((x a b : ℕ) → IsTuple c x a b → T (allowed c w (is_in raised) x a b)) → ⊥
    not-all-open raised t free =
        let (k, h, a) = some-active-value c w shape.some-value i own in
        let (S, s) = all-open c w (is_in raised) i k h free in
        no-support c w i raised shape t k h a S s

    pub kept-some : T (active_refuted c w i (others c i)) → 0 < length (kept_scopes c w i)
    kept-some t = go (kept_scopes c w i) (kept-refuted t)
      where
        go : (l : List ℕ) → T (active_refuted c w i l) → 0 < length l
        go [] t = absurd (not-all-open [] t (λ x a b u. tt))
        go (x ∷ l) t = omega arith

-- ---- which of the others are kept

rising-tail : (x : ℕ) (xs : List ℕ) → T (is_rising (x ∷ xs)) → T (is_rising xs)
rising-tail x [] t = tt
rising-tail x (y ∷ xs) t = and_right (ltb x y) (is_rising (y ∷ xs)) t

rising-after : (kept rest : List ℕ) → T (is_rising (kept ++ rest)) → T (is_rising rest)
rising-after [] rest t = t
rising-after (a ∷ kept) rest t = rising-after kept rest (rising-tail a (kept ++ rest) t)

rising-above : (x : ℕ) (xs : List ℕ) {y : ℕ} → T (is_rising (x ∷ xs)) → y ∈ xs → x < y
rising-above x [] t m = elim m [ ]
rising-above x (z ∷ xs) t (Memᴰ.head e) = omega (arith, ltb→lt x z (and_left (ltb x z) (is_rising (z ∷ xs)) t))
rising-above x (z ∷ xs) t (Memᴰ.tail m) = omega (
  arith,
  ltb→lt x z (and_left (ltb x z) (is_rising (z ∷ xs)) t),
  rising-above z xs (rising-tail x (z ∷ xs) t) m,
)

rising-below : (kept rest : List ℕ) (x : ℕ) {y : ℕ} → T (is_rising (kept ++ (x ∷ rest))) → y ∈ kept → y < x
rising-below [] rest x t m = elim m [ ]
rising-below (a ∷ kept) rest x t (Memᴰ.head e) =
    omega (arith, rising-above a (kept ++ (x ∷ rest)) t (Memᴰ.append_right kept (Memᴰ.head {xs = rest} refl)))
rising-below (a ∷ kept) rest x t (Memᴰ.tail m) = rising-below kept rest x (rising-tail a (kept ++ (x ∷ rest)) t) m

abbrev pub lower_than : ℕ → List ℕ → List ℕ
lower_than x l = those (λ y. ltb y x) l

abbrev pub higher_than : ℕ → List ℕ → List ℕ
higher_than x l = those (λ y. ltb x y) l

module _ (c : Case) (w : List ℤ) (i : ℕ) where
  -- with more scopes raised the values stay refuted
  pub active_refuted-more : (l m : List ℕ) → ((y : ℕ) → y ∈ l → y ∈ m) → T (active_refuted c w i l) → T (active_refuted c w i m)
  active_refuted-more l m sub = refuted-more c w i (is_in l) (is_in m) (λ x g q. (is_in-in m x).1 (sub x ((is_in-in l x).0 q)))

  trimmed-from : (kept rest : List ℕ) {y : ℕ} → y ∈ trimmed c w i kept rest → y ∈ (kept ++ rest)
  trimmed-from kept rest {y} = trimmed-has c w i (λ l. y ∈ l → y ∈ (kept ++ rest))
      (λ k q x t p m. p (⊎_elim (λ n. Memᴰ.append_left (x ∷ q) n) (λ n. Memᴰ.append_right k (Memᴰ.tail n)) (Memᴰ.append_cases k m))) kept rest
      (λ m. m)

  trimmed-keeps : (kept rest : List ℕ) {y : ℕ} → y ∈ kept → y ∈ trimmed c w i kept rest
  trimmed-keeps kept [] m = m
  trimmed-keeps kept (x ∷ rest) {y} m = if-cases (λ l. y ∈ trimmed c w i l rest) (active_refuted c w i (kept ++ rest)) kept (kept ++ (x ∷ []))
      (λ t. trimmed-keeps kept rest m) (λ t. trimmed-keeps (kept ++ (x ∷ [])) rest (Memᴰ.append_left (x ∷ []) m))

  -- x is tried with `kept` before it and `rest` after it
  module _ (kept rest : List ℕ) (x : ℕ) (rises : T (is_rising (kept ++ (x ∷ rest)))) (l : List ℕ) where
    abbrev tried : List ℕ
    tried = lower_than x (trimmed c w i l rest) ++ higher_than x (x ∷ rest)

    tried-most : ((y : ℕ) → y ∈ kept → y ∈ l) → (y : ℕ) → y ∈ (kept ++ rest) → y ∈ tried
    tried-most sub y m = ⊎_elim
        (λ n. Memᴰ.append_left (higher_than x (x ∷ rest)) (those-in (λ y. ltb y x) (trimmed-keeps l rest (sub y n))
        (simp tests (rising-below kept rest x rises n))))
        (λ n. Memᴰ.append_right (lower_than x (trimmed c w i l rest))
        (those-in (λ y. ltb x y) (Memᴰ.tail n) (simp tests (rising-above x rest (rising-after kept (x ∷ rest) rises) n))))
        (Memᴰ.append_cases kept m)

    tried-least : ((y : ℕ) → y ∈ l → y < x → y ∈ kept) → (y : ℕ) → y ∈ tried → y ∈ (kept ++ rest)
    tried-least back y m = ⊎_elim
        (λ n. let (o, t) = in-those (λ y. ltb y x) (trimmed c w i l rest) n in
        ⊎_elim (λ p. Memᴰ.append_left rest (back y p (simp tests at t))) (λ p. Memᴰ.append_right kept p) (Memᴰ.append_cases l (trimmed-from l rest o)))
        (λ n. let (o, t) = in-those (λ y. ltb x y) (x ∷ rest) n in Memᴰ.append_right kept (later o (simp tests at t)))
        (Memᴰ.append_cases (lower_than x (trimmed c w i l rest)) m)
      where
        later : {y : ℕ} → y ∈ (x ∷ rest) → x < y → y ∈ rest
        later (Memᴰ.head e) h = absurd (omega arith)
        later (Memᴰ.tail n) h = n

  abbrev KeptJustWhere : ℕ → List ℕ → List ℕ → Type 0
  KeptJustWhere x l rest = (x ∈ l) ↔ T (not (active_refuted c w i (lower_than x l ++ higher_than x rest)))

  trimmed-first : (kept rest : List ℕ) (x : ℕ) → T (is_rising (kept ++ (x ∷ rest))) → KeptJustWhere x (trimmed c w i kept (x ∷ rest)) (x ∷ rest)
  trimmed-first kept rest x t = if-cases (λ l. KeptJustWhere x (trimmed c w i l rest) (x ∷ rest)) (active_refuted c w i (kept ++ rest)) kept (kept ++ (x ∷ []))
      (λ a. (
        λ m. absurd (not-less (⊎_elim (λ n. rising-below kept rest x t n) (λ n. rising-above x rest (rising-after kept (x ∷ rest) t) n)
            (Memᴰ.append_cases kept (trimmed-from kept rest m)))),
        λ n. absurd (T_not (active_refuted c w i (tried kept rest x t kept)) n
            (active_refuted-more (kept ++ rest) (tried kept rest x t kept) (tried-most kept rest x t kept (λ y m. m)) a)),
      ))
      (λ a. (
        λ m. not_T (active_refuted c w i (tried kept rest x t (kept ++ (x ∷ [])))) (λ u. T_not (active_refuted c w i (kept ++ rest)) a
            (active_refuted-more (tried kept rest x t (kept ++ (x ∷ []))) (kept ++ rest) (tried-least kept rest x t (kept ++ (x ∷ [])) back) u)),
        λ n. trimmed-keeps (kept ++ (x ∷ [])) rest (Memᴰ.append_right kept (Memᴰ.head {xs = []} refl)),
      ))
    where
      not-less : x < x → ⊥
      not-less h = omega arith

      back : (y : ℕ) → y ∈ (kept ++ (x ∷ [])) → y < x → y ∈ kept
      back y m h = ⊎_elim (λ n. n) (λ n. let e : y ≡ x = Memᴰ.eq_of_singleton n in absurd (omega arith)) (Memᴰ.append_cases kept m)

  trimmed-upwards : (kept rest : List ℕ) (x : ℕ) → T (is_rising (kept ++ rest)) → x ∈ rest → KeptJustWhere x (trimmed c w i kept rest) rest
  trimmed-upwards kept [] x t m = elim m [ ]
  trimmed-upwards kept (z ∷ rest) x t (Memᴰ.head e) =
      subst (λ (y : ℕ). KeptJustWhere y (trimmed c w i kept (z ∷ rest)) (z ∷ rest)) (sym e) (trimmed-first kept rest z t)
  trimmed-upwards kept (z ∷ rest) x t (Memᴰ.tail m) =
      rw (if-false (z ∷ higher_than x rest) (higher_than x rest) (ltb x z)
      (let h = rising-above z rest (rising-after kept (z ∷ rest) t) m in simp tests (omega arith)))
      (if-cases (λ l. KeptJustWhere x (trimmed c w i l rest) rest) (active_refuted c w i (kept ++ rest)) kept (kept ++ (z ∷ []))
      (λ a. trimmed-upwards kept rest x (drop-rising kept rest z t) m)
      (λ a. trimmed-upwards (kept ++ (z ∷ [])) rest x (rw (append_assoc kept (z ∷ []) rest) t) m))

  -- upwards through the others: x is kept just where the kept below x and all others above it do not refute
  pub kept-upwards : (x : ℕ) → x ∈ others c i → (x ∈ kept_scopes c w i)
      ↔ T (not (active_refuted c w i (lower_than x (kept_scopes c w i) ++ higher_than x (others c i))))
  kept-upwards x = trimmed-upwards [] (others c i) x (others-rising c i)
