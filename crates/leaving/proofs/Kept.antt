-- The weights of the scopes that stay, one scope after the other, are the table that is left. Assumes nothing.
use mathlib.Core.Path.{◌≡◌, refl, sym, ap, ap₂, ◌∙◌}
use mathlib.Core.Bool.{Bool, not}
use mathlib.Core.Logic.{⊎_elim}
use mathlib.Core.List.{List, [], ◌∷◌, ◌++◌, map}
use Prim.Native.Nat.{ℕ, zero, suc, ◌+◌, ◌*◌, ◌-◌, ◌≤◌, ◌<◌}
use native.Mathlib.Nat.{zero-add}
use native.Mathlib.Numerals.{add-one}
use native.Mathlib.Omega.{arith}
use lib.IntN.{ℤ, pos}
use lib.Dec.{eqb, ltb, ltb→lt, nltb→le}
use lib.ListN.{length, take, drop, replicate}
use lib.Seq.{drop-drop}
use Rattle.std.specs.Prelude.{if◌then◌else◌}
use Rattle.integers.specs.Words.{from, below, those, joined}
use Rattle.integers.specs.Tests.{either, if-true, if-false, is_true, not-eqb-iff, eqb-iff}
use Rattle.integers.specs.Lists.{from-split, from-shift, map-append, map-map, map_same, those-append, those-map, those-same}
use Rattle.definitions.specs.declared.Case.{Case}
use Rattle.definitions.specs.Case.{scope_count, scopes, is_variable, place, own_length, weight}
use Rattle.definitions.specs.Moves.{table_of}
use Rattle.logs.specs.Leave.{has_end, staying_edges, moved_up, scope_before, table_without, fresh_case}
use Rattle.theory.proofs.Shape.{Shape}
use Rattle.theory.proofs.Places.{by-scope, variable-is, edge-is, edge-of, place-variable, place-edge, table-length}
use Rattle.theory.proofs.Leave.{up-below, up_above, before-variable, before-edge, before-below, each_left}
use Rattle.tables.specs.Scopes.{size_of, scope_part}
use Rattle.tables.proofs.Parts.{scope-part, size-variable, size-edge}
use Rattle.leaving.specs.Scopes.{stays, kept_to, KeptPart}
use Rattle.leaving.proofs.Lists.{those-keep, map-keep, map-places, joined-next}

-- all numbers below n but i are those that move up
module _ (i : ℕ) where
  ups : (a k : ℕ) → i ≤ a → map (moved_up i) (from a k) ≡ from (suc a) k
  ups a zero h = refl
  ups a (suc k) h = ap₂ ◌∷◌ (up_above i h ∙ add-one a) (ups (suc a) k (omega arith))

  but-one : {n : ℕ} → i < n → those (λ j. not (eqb j i)) (below n) ≡ map (moved_up i) (below (n - 1))
  but-one {n} h =
      let k : ℕ = n - 1 - i in
      let other : ℕ → Bool = λ j. not (eqb j i) in
      let u : n ≡ i + suc k = omega arith in
      let v : i + k ≡ n - 1 = omega arith in
      ap (λ (n : ℕ). those other (below n)) u ∙ ap (those other) (from-split 0 i (suc k))
      ∙ those-append other (below i) (from (0 + i) (suc k))
      ∙ ap₂ ◌++◌ (those-keep other 0 i (λ x l u. (not-eqb-iff x i).1 (λ e. omega arith)) ∙ sym (map-keep (moved_up i) 0 i (λ x l u. up-below i (omega arith))))
      (ap (λ (a : ℕ). those other (from a (suc k))) (zero-add i) ∙ own k ∙ sym (ups i k (omega arith))
      ∙ ap (λ (a : ℕ). map (moved_up i) (from a k)) (sym (zero-add i)))
      ∙ sym (map-append (moved_up i) (below i) (from (0 + i) k)) ∙ ap (map (moved_up i)) (sym (from-split 0 i k))
      ∙ ap (λ (n : ℕ). map (moved_up i) (below n)) v
    where
      own : (k : ℕ) → those (λ j. not (eqb j i)) (from i (suc k)) ≡ from (suc i) k
      own k =
          let e = is_true (eqb i i) ((eqb-iff i i).1 refl) in
          rw e (those-keep (λ j. not (eqb j i)) (suc i) k (λ x l u. (not-eqb-iff x i).1 (λ e. omega arith)))

module _ (c : Case) (i : ℕ) where
  stays-variable : (j : ℕ) → j < c.n → stays c i j ≡ not (eqb j i)
  stays-variable j h = if-true _ _ (is_variable c j) (variable-is c h)

  stays-edge : (e : ℕ) → stays c i (c.n + e) ≡ not (has_end c i e)
  stays-edge e = if-false _ _ (is_variable c (c.n + e)) (edge-is c e) ∙ ap (λ (e : ℕ). not (has_end c i e)) (edge-of c e)

  -- ---- one more scope

  pub place-next : (x : ℕ) → x < scope_count c → place c (x + 1) 0 0 ≡ place c x 0 0 + size_of c x
  place-next = by-scope c (λ x. place c (x + 1) 0 0 ≡ place c x 0 0 + size_of c x)
      (λ j h. rw (place-variable c j 0 0 h, size-variable c j h) (⊎_elim
      (λ t. place-variable c (j + 1) 0 0 (ltb→lt (j + 1) c.n t) ∙ omega arith)
      (λ t.
      let g : c.n ≤ j + 1 = nltb→le (j + 1) c.n t in
      let e : j + 1 ≡ c.n + 0 = omega arith in
      ap (λ (x : ℕ). place c x 0 0) e ∙ place-edge c 0 0 0 ∙ next j c.d (omega arith))
      (either (ltb (j + 1) c.n))))
      (λ e h.
      let a : c.n + e + 1 ≡ c.n + (e + 1) = omega arith in
      rw (a, place-edge c (e + 1) 0 0, place-edge c e 0 0, size-edge c e) (omega arith))
    where
      next : (j d : ℕ) → c.n ≡ j + 1 → c.n * d + (0 * (d * d) + (0 * d + 0)) ≡ j * d + 0 + d
      next j d e = rw e (omega arith)

  module _ (w : List ℤ) where
    kept_next : (x : ℕ) → kept_to c i w (x + 1) ≡ kept_to c i w x ++ (if stays c i x then scope_part c w x else [])
    kept_next x = joined-next (scope_part c w) (stays c i) x

    pub kept_step : (x : ℕ) (u v : List ℤ) (from to size next : ℕ) (stay : Bool)
        → from ≡ place c x 0 0 → size ≡ size_of c x → stay ≡ stays c i x → take to u ≡ kept_to c i w x → drop from u ≡ drop from w
        → KeptPart u v from to size stay next
        → (take next v ≡ kept_to c i w (x + 1)) × (drop (from + size) v ≡ drop (from + size) w)
    kept_step x u v from to size next stay a b d front rest k = (
      k.front ∙ ap₂ ◌++◌ front (ap₂ (λ (t : Bool) (l : List ℤ). if t then l else []) d (ap₂ take b (rest ∙ ap (λ (n : ℕ). drop n w) a)))
          ∙ sym (kept_next x),
      k.rest ∙ sym (drop-drop size from u) ∙ ap (drop size) rest ∙ drop-drop size from w,
    )

    -- ---- all scopes

    module _ (shape : Shape c) (inside : i < c.n) (several : 1 < c.n) where
      abbrev c' : Case
      c' = fresh_case c i

      staying : map (scope_before c i) (scopes c') ≡ those (stays c i) (scopes c)
      staying =
          ap (map (scope_before c i)) (from-split 0 c'.n c'.m) ∙ map-append (scope_before c i) (below c'.n) (from (0 + c'.n) c'.m)
          ∙ ap₂ ◌++◌ variables edges
          ∙ sym (ap (those (stays c i)) (from-split 0 c.n c.m) ∙ those-append (stays c i) (below c.n) (from (0 + c.n) c.m))
        where
          variables : map (scope_before c i) (below c'.n) ≡ those (stays c i) (below c.n)
          variables =
              map_same c'.n (λ j h. before-variable c i (pos 0) shape inside several h) ∙ sym (but-one i inside)
              ∙ sym (those-same c.n stays-variable)

          edges : map (scope_before c i) (from (0 + c'.n) c'.m) ≡ those (stays c i) (from (0 + c.n) c.m)
          edges =
              ap (map (scope_before c i)) (ap (λ (a : ℕ). from a c'.m) (omega arith) ∙ from-shift c'.n 0 c'.m)
              ∙ map-map (scope_before c i) (λ q. c'.n + q) (below c'.m)
              ∙ map_same c'.m (λ q h. before-edge c i (pos 0) shape inside several q)
              ∙ map-places (λ e. c.n + e) (staying_edges c i)
              ∙ ap (map (λ e. c.n + e)) (sym (those-same c.m (λ e h. stays-edge e)))
              ∙ sym (those-map (stays c i) (λ e. c.n + e) (below c.m))
              ∙ ap (those (stays c i)) (sym (ap (λ (a : ℕ). from a c.m) (omega arith) ∙ from-shift c.n 0 c.m))

      module _ (long : own_length c ≤ length w) where
        kept_table : table_of c' (λ y k l. weight c w (scope_before c i y) k l) ≡ kept_to c i w (scope_count c)
        kept_table = ap joined (
            map_same (scope_count c') (λ y h.
            each_left c i (pos 0) shape inside several (weight c w (scope_before c i y)) y h
            ∙ scope-part c w long (scope_before c i y) (before-below c i (pos 0) shape inside several h))
            ∙ sym (map-map (scope_part c w) (scope_before c i) (scopes c')) ∙ ap (map (scope_part c w)) staying)

        pub kept-length : length (kept_to c i w (scope_count c)) ≡ own_length c'
        kept-length = ap length (sym kept_table) ∙ table-length c' (λ y k l. weight c w (scope_before c i y) k l)

        pub kept-all : kept_to c i w (scope_count c) ++ replicate (length w - own_length c') (pos 0) ≡ table_without c i w
        kept-all = ap (λ (l : List ℤ). l ++ replicate (length w - own_length c') (pos 0)) (sym kept_table)
