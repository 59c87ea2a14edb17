-- The places of a table that its marks are read from. Assumes nothing.
use mathlib.Core.Path.{◌≡◌, refl, sym, ap, ◌∙◌}
use mathlib.Core.Bool.{Bool, true, false, ◌&&◌, and-false}
use mathlib.Core.Logic.{⊎_elim}
use mathlib.Core.List.{List}
use Prim.Native.Nat.{ℕ, ◌+◌, ◌*◌, ◌-◌, ◌≤◌, ◌<◌}
use native.Mathlib.Omega.{arith}
use borrow.Author.Tests.{lt-ltb, le-ltb, ltb-true, ltb-false}
use lib.IntN.{ℤ, pos}
use lib.Dec.{ltb, ltb→lt, nltb→le}
use lib.ListN.{length, get_or}
use Rattle.std.specs.Prelude.{if◌then◌else◌}
use Rattle.integers.specs.Words.{eq_z}
use Rattle.integers.specs.Tests.{either, if-true, if-false}
use Rattle.definitions.specs.declared.Case.{Case}
use Rattle.definitions.specs.Rules.{edge_places}
use Rattle.definitions.specs.Case.{scope_count, place, is_variable}
use Rattle.theory.proofs.Places.{variable-is, edge-is, place-variable, place-edge}
use Rattle.tables.specs.Scopes.{size_of}
use Rattle.tables.proofs.Order.{variables-small, values-small, full-variables, full-edges}
use Rattle.tables.proofs.Parts.{part-own}
use Rattle.marks.specs.Marks.{mark, byte_of}
use Rattle.marks.proofs.Laws.{mark-byte_of, byte_of-cong, byte-is, mark-zero}
use Rattle.arcs.specs.Active.{set_where, above_where, below_where, row_where, Sized, has_weight, best_marks, Crossed}

-- the first place of an edge's scope
abbrev pub first_of_edge : Case → ℕ → ℕ
first_of_edge c e = c.n * c.d + e * (c.d * c.d)

module _ (c : Case) (w : List ℤ) (h : Sized c w) where
  -- products within the limits
  pub record Few : Type 0 where
    pub variables : c.n * c.d ≤ 2048
    pub values : c.d * c.d ≤ 64
    pub one : c.d ≤ 8
    pub table : length w ≤ 2048 + edge_places * 64

  pub few : Few
  few = record {
    variables = variables-small c h.limits;
    values = values-small c h.limits;
    one = h.limits.values-few;
    table = omega (arith, h.long, full-variables c h.limits, full-edges c h.limits);
  }

  -- ---- a variable's scope
  module _ (j : ℕ) (u : j < c.n) where
    scope-in : j < scope_count c
    scope-in = omega arith

    size_is : size_of c j ≡ c.d
    size_is = if-true _ _ (is_variable c j) (variable-is c u)

    first-is : place c j 0 0 ≡ j * c.d
    first-is = place-variable c j 0 0 u ∙ omega arith

    pub variable-room : j * c.d + c.d ≤ length w
    variable-room = omega (arith, part-own c j scope-in, size_is, first-is, h.long, h.limits.own-lent)

    pub variable-with : (best : ℤ) → best_marks w (j * c.d) c.d best ≡ set_where c (has_weight c w best) j
    variable-with best =
        byte_of-cong (λ v g.
        let e : j * c.d + v ≡ place c j v 0 = omega (arith, place-variable c j v 0 u) in
        ap (λ (p : ℕ). ltb v c.d && eq_z (get_or w p (pos 0)) best) e)

  -- ---- an edge's scope
  module _ (e : ℕ) (u : e < c.m) where
    edge_in : c.n + e < scope_count c
    edge_in = omega arith

    edge-size : size_of c (c.n + e) ≡ c.d * c.d
    edge-size = if-false _ _ (is_variable c (c.n + e)) (edge-is c e)

    edge-first : place c (c.n + e) 0 0 ≡ first_of_edge c e
    edge-first = place-edge c e 0 0 ∙ omega arith

    edge-place : (k l : ℕ) → place c (c.n + e) k l ≡ first_of_edge c e + (k * c.d + l)
    edge-place k l = omega (arith, place-edge c e k l)

    pub edge-room : first_of_edge c e + c.d * c.d ≤ length w
    edge-room = omega (arith, part-own c (c.n + e) edge_in, edge-size, edge-first, h.long, h.limits.own-lent)

    none-at : (k : ℕ) (f : ℕ → Bool) → c.d ≤ k → 0 ≡ byte_of (λ l. ltb l c.d && (ltb k c.d && f l))
    none-at k f g = byte-is 0 _ (omega arith) (λ l i. mark-zero l ∙ sym (simp (le-ltb k c.d g, and-false)))

    module _ (best : ℤ) where
      above-is : (k : ℕ) → k < c.d → best_marks w (first_of_edge c e + k * c.d) c.d best ≡ above_where c (has_weight c w best) e k
      above-is k g =
          rw (lt-ltb k c.d g)
          (byte_of-cong (λ l i.
          let s : first_of_edge c e + k * c.d + l ≡ place c (c.n + e) k l = omega (arith, edge-place k l) in
          ap (λ (p : ℕ). ltb l c.d && eq_z (get_or w p (pos 0)) best) s))

      module _ (S : List ℕ) (crossed : Crossed (λ k. best_marks w (first_of_edge c e + k * c.d) c.d best) c.d S) where
        above_at : (p : ℕ) → p < 8 → get_or S p 0 ≡ above_where c (has_weight c w best) e p
        above_at p g = ⊎_elim (λ t. crossed.rows p (ltb→lt p c.d t) ∙ above-is p (ltb→lt p c.d t))
            (λ t. let h = nltb→le p c.d t in crossed.rest p h g ∙ none-at p (λ l. has_weight c w best (c.n + e) p l) h) (either (ltb p c.d))

        below_at : (l : ℕ) → l < 8 → get_or S (8 + l) 0 ≡ below_where c (has_weight c w best) e l
        below_at l g = crossed.columns l g ∙ byte_of-cong (λ k i. by k (ltb k c.d) refl)
          where
            by : (k : ℕ) (b : Bool) → ltb k c.d ≡ b → (b && mark (best_marks w (first_of_edge c e + k * c.d) c.d best)
                l) ≡ (b && (ltb l c.d && has_weight c w best (c.n + e) k l))
            by k true t =
                ap (λ (s : ℕ). mark s l) (above-is k (ltb-true k c.d t)) ∙ mark-byte_of
                (λ l. ltb l c.d && (ltb k c.d && has_weight c w best (c.n + e) k l)) l g
                ∙ ap (λ (b : Bool). ltb l c.d && (b && has_weight c w best (c.n + e) k l)) t
            by k false t = refl

        pub crossed-row : (p : ℕ) → p < 16 → get_or S p 0 ≡ row_where c (has_weight c w best) e p
        crossed-row p g = by (ltb p 8) refl
          where
            by : (b : Bool) → ltb p 8 ≡ b → get_or S p 0 ≡ (if b then above_where c (has_weight c w best) e p else below_where c (has_weight c w best) e (p - 8))
            by true t = above_at p (ltb-true p 8 t)
            by false t =
                let h = ltb-false p 8 t in
                let z : p ≡ 8 + (p - 8) = omega arith in
                ap (λ (q : ℕ). get_or S q 0) z ∙ below_at (p - 8) (omega arith)
