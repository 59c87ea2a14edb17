-- A scope's weights are a contiguous part of the table. Assumes nothing.
use mathlib.Core.Path.{◌≡◌, sym, ap, ap₂, subst, ◌∙◌}
use mathlib.Core.List.{List, ◌++◌, map}
use Prim.Native.Nat.{ℕ, zero, suc, ◌+◌, ◌*◌, ◌≤◌, ◌<◌}
use native.Mathlib.Nat.{zero-mul, mul-le-mul_right}
use native.Mathlib.Omega.{arith}
use lib.IntN.{ℤ, pos}
use lib.ListN.{length, get_or, take, drop, length-drop}
use lib.Seq.{get_or-take, get_or-drop, ext_get_or, length-take-le}
use lib.Dec.{T}
use Rattle.integers.specs.Words.{from, below, all, joined, greatest_of}
use Rattle.integers.specs.Tests.{same_test, if-true, if-false}
use Rattle.integers.specs.Lists.{all_in, map_same, map-map, map-append, from-shift, from-split}
use Rattle.integers.specs.Tables.{length-tab, get_d-tab}
use Rattle.definitions.specs.declared.Case.{Case}
use Rattle.definitions.specs.Case.{scope_count, is_variable, each_tuple, place, own_length, weight, greatest, is_barred, barred, wholly_barred}
use Rattle.theory.proofs.Places.{by-scope, variable-is, edge-is, place-variable, place-edge, each-variable, each-edge, tuple-in, in-tuples}
use Rattle.theory.proofs.Barred.{each_all}
use Rattle.tables.specs.Scopes.{size_of}

-- rows of d numbers, one after the other
next_row : (d a n : ℕ) → from (a * d + 0) d ++ from (suc a * d) (n * d) ≡ from (a * d) (suc n * d)
next_row d a n =
    let e : a * d + 0 ≡ a * d = omega arith in
    let f : suc a * d ≡ a * d + d = omega arith in
    let g : suc n * d ≡ d + n * d = omega arith in
    rw (e, f, g) (sym (from-split (a * d) d (n * d)))

rows-from : {A : Type 0} (g : ℕ → A) (d a n : ℕ) → joined (map (λ k. map (λ l. g (k * d + l)) (below d)) (from a n)) ≡ map g (from (a * d) (n * d))
rows-from g d a zero = rw (zero-mul d)
rows-from g d a (suc n) =
    ap₂ ◌++◌ (sym (map-map g (λ l. a * d + l) (below d)) ∙ ap (map g) (sym (from-shift (a * d) 0 d))) (rows-from g d (suc a) n)
    ∙ sym (map-append g (from (a * d + 0) d) (from (suc a * d) (n * d))) ∙ ap (map g) (next_row d a n)

-- the n elements from place a on
pub part-tab : (w : List ℤ) (a n : ℕ) → a + n ≤ length w → map (λ i. get_or w (a + i) (pos 0)) (below n) ≡ take n (drop a w)
part-tab w a n h =
    let l : length (take n (drop a w)) ≡ n = length-take-le n (drop a w) (simp length-drop (omega arith)) in
    ext_get_or (pos 0) (map (λ i. get_or w (a + i) (pos 0)) (below n)) (take n (drop a w)) (length-tab (λ i. get_or w (a + i) (pos 0)) 0 n ∙ sym l)
    (λ i k. let h : i < n = omega (arith, length-tab (λ i. get_or w (a + i) (pos 0)) 0 n) in
    get_d-tab (λ i. get_or w (a + i) (pos 0)) n i (pos 0) h ∙ sym (get_or-take n (drop a w) i (pos 0) h ∙ get_or-drop a w i (pos 0)))

module _ (c : Case) where
  pub size-variable : (i : ℕ) → i < c.n → size_of c i ≡ c.d
  size-variable i h = if-true _ _ (is_variable c i) (variable-is c h)

  pub size-edge : (e : ℕ) → size_of c (c.n + e) ≡ c.d * c.d
  size-edge e = if-false _ _ (is_variable c (c.n + e)) (edge-is c e)

  -- a scope's part ends within the own places
  pub part-own : (x : ℕ) → x < scope_count c → place c x 0 0 + size_of c x ≤ own_length c
  part-own = by-scope c (λ x. place c x 0 0 + size_of c x ≤ own_length c)
      (λ i h. rw (place-variable c i 0 0 h, size-variable i h) (omega (arith, mul-le-mul_right {m = suc i} {n = c.n} c.d h)))
      (λ e h. rw (place-edge c e 0 0, size-edge e) (omega (arith, mul-le-mul_right {m = suc e} {n = c.m} (c.d * c.d) h)))

  module _ (w : List ℤ) (long : own_length c ≤ length w) where
    pub scope-part : (x : ℕ) → x < scope_count c → each_tuple c x (weight c w x) ≡ take (size_of c x) (drop (place c x 0 0) w)
    scope-part = by-scope c (λ x. each_tuple c x (weight c w x) ≡ take (size_of c x) (drop (place c x 0 0) w))
        (λ i h.
        each-variable c (weight c w i) i h
        ∙ map_same c.d (λ k p. ap (λ a. get_or w a (pos 0)) (place-variable c i k 0 h ∙ omega (arith, place-variable c i 0 0 h)))
        ∙ ap (λ n. map (λ k. get_or w (place c i 0 0 + k) (pos 0)) (below n)) (sym (size-variable i h))
        ∙ part-tab w (place c i 0 0) (size_of c i) (omega (arith, part-own i (omega arith))))
        (λ e h.
        each-edge c (weight c w (c.n + e)) e
        ∙ ap joined (map_same c.d (λ k p. map_same c.d (λ l q. ap (λ a. get_or w a (pos 0)) (place-edge c e k l ∙ omega (arith, place-edge c e 0 0)))))
        ∙ rows-from (λ j. get_or w (place c (c.n + e) 0 0 + j) (pos 0)) c.d 0 c.d
        ∙ ap₂ (λ a n. map (λ j. get_or w (place c (c.n + e) 0 0 + j) (pos 0)) (from a n)) (zero-mul c.d) (sym (size-edge e))
        ∙ part-tab w (place c (c.n + e) 0 0) (size_of c (c.n + e)) (omega (arith, part-own (c.n + e) (omega arith))))

    pub part-greatest : (x : ℕ) → x < scope_count c → greatest_of (take (size_of c x) (drop (place c x 0 0) w)) ≡ greatest c w x
    part-greatest x h = ap greatest_of (sym (scope-part x h))

    pub part-barred : (x : ℕ) → x < scope_count c → all is_barred (take (size_of c x) (drop (place c x 0 0) w)) ≡ wholly_barred c w x
    part-barred x h = same_test _ _
        (λ t. (each_all c (barred c w x) x h).1 (λ k l u. (all_in is_barred (each_tuple c x (weight c w x))).0 (rw (sym (scope-part x h)) at t) (weight c w x k l)
        (tuple-in c (weight c w x) u)))
        (λ t. rw (sym (scope-part x h)) ((all_in is_barred (each_tuple c x (weight c w x))).1 (λ z m.
        let (k, l, u, e) = in-tuples c (weight c w x) x h m in subst (λ (z : ℤ). T (is_barred z)) e ((each_all c (barred c w x) x h).0 t k l u))))
