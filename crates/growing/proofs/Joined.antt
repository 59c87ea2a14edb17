-- The weights that wait, put in their places in both tables, are the tables of the grown case. Assumes nothing.
use mathlib.Core.Path.{◌≡◌, refl, sym, ap, ◌∙◌}
use mathlib.Core.Logic.{⊎_elim}
use mathlib.Core.List.{List, []}
use Prim.Native.Nat.{ℕ, ◌+◌, ◌*◌, ◌-◌, ◌≤◌, ◌<◌}
use native.Mathlib.Omega.{arith}
use lib.IntN.{ℤ, pos}
use lib.Dec.{not_T, eqb, ltb, ltb→lt, nltb→le, eqb→eq}
use lib.ListN.{length, get_or, take, get_or-eq_default}
use lib.Seq.{get_or-drop}
use Rattle.integers.specs.Tests.{either, if-true, if-false, eqb-iff}
use Rattle.definitions.specs.declared.Case.{Case}
use Rattle.definitions.specs.Rules.{rules_of}
use Rattle.definitions.specs.Case.{place, own_length, lent_length, weight}
use Rattle.definitions.specs.CaseFiles.{zeroed_from}
use Rattle.definitions.specs.Moves.{Difference}
use Rattle.definitions.proofs.CaseLaws.{place-own}
use Rattle.logs.specs.Join.{grown_table}
use Rattle.logs.specs.Waiting.{small_case, new_scope, waiting_weights, grown_with}
use Rattle.theory.proofs.Places.{place-variable, place-edge}
use Rattle.theory.proofs.Validity.{own-lent}
use Rattle.case_theory.proofs.Zeroed.{zeroed-length, zeroed-before, zeroed-past}
use Rattle.growing.specs.Growing.{joined}
use Rattle.growing.specs.Parts.{Written, PutIn}
use Rattle.growing.proofs.Grown.{among_edges, Placed, grown-own, grown-variable-place, grown-edge-place, grown-placed}

-- where the variables' weights end, how many weights the edges have, and where the new edges' weights begin and end
abbrev pub first : Case → ℕ
first c = c.n * c.d

abbrev pub count : Case → ℕ
count c = c.m * (c.d * c.d)

abbrev pub rest : Case → ℕ
rest c = first c + count c + c.d

abbrev pub end : Case → ℕ → ℕ
end c p = rest c + p * (c.d * c.d)

pub end-lent : (c : Case) (p : ℕ) → c.n < (rules_of c).variables → c.m + p ≤ (rules_of c).edges → end c p ≤ lent_length (rules_of c) c
end-lent c p h k = omega (arith, grown-own c p [], own-lent (rules_of c) (grown_with c p []) (omega arith) k)

module _ (c : Case) (p : ℕ) (w₀ : List ℤ) where
  -- the weight that waits for a tuple of a new scope
  abbrev waiting : Difference
  waiting y k l = weight (small_case c p) (waiting_weights c w₀) (new_scope c y) k l

  waits : (y k l q : ℕ) → place (small_case c p) (new_scope c y) k l ≡ q → get_or w₀ (own_length c + q) (pos 0) ≡ waiting y k l
  waits y k l q e = sym (ap (λ (q : ℕ). get_or (waiting_weights c w₀) q (pos 0)) e ∙ get_or-drop (own_length c) w₀ q (pos 0))

  variable-waits : (k : ℕ) → get_or w₀ (own_length c + k) (pos 0) ≡ waiting c.n k 0
  variable-waits k =
      let e : new_scope c c.n ≡ 0 = if-true _ _ (eqb c.n c.n) ((eqb-iff c.n c.n).1 refl) in
      waits c.n k 0 k (rw e (place-variable (small_case c p) 0 k 0 (omega arith) ∙ omega arith))

  edge-waits : (e k l : ℕ) → get_or w₀ (own_length c + c.d + among_edges c e k l) (pos 0) ≡ waiting (c.n + 1 + (c.m + e)) k l
  edge-waits e k l =
      let y : ℕ = c.n + 1 + (c.m + e) in
      let a : new_scope c y ≡ 1 + e =
      if-false _ _ (eqb y c.n) (not_T (eqb y c.n) (λ t. let d = eqb→eq y c.n t in omega arith)) ∙ omega arith in
      let b : own_length c + c.d + among_edges c e k l ≡ own_length c + (c.d + among_edges c e k l) = omega arith in
      ap (λ (q : ℕ). get_or w₀ q (pos 0)) b
      ∙ waits y k l (c.d + among_edges c e k l) (rw a (place-edge (small_case c p) e k l ∙ omega arith))

  edge-inside : (e k l : ℕ) → e < p → k < c.d → l < c.d → among_edges c e k l < p * (c.d * c.d)
  edge-inside e k l h u v = omega (arith, place-edge (small_case c p) e k l, place-own (small_case c p) (1 + e) k l (omega arith) u v)

-- The starting table s and the working table t with the new variable's weights put in; then v, the starting table with 0 past the new edges'
-- weights, and u, the working table with what v holds from there on.
module _ (c : Case) (p : ℕ) (w₀ w s t v u : List ℤ) (room : end c p ≤ length w₀) (same : length w ≡ length w₀)
    (put : PutIn w t (first c) c.d (count c) (λ i. get_or w₀ (first c + count c + i) (pos 0)))
    (put₀ : PutIn w₀ s (first c) c.d (count c) (λ i. get_or t (first c + i) (pos 0)))
    (zeroed : v ≡ zeroed_from (end c p) s)
    (copied : Written (pos 0) t u (rest c) 0 (length t - rest c) (λ i. get_or v (rest c + i) (pos 0))) where
  below_end : (q : ℕ) → q < end c p → get_or v q (pos 0) ≡ get_or s q (pos 0)
  below_end q h = rw zeroed (zeroed-before (end c p) s q h)

  past_end : (q : ℕ) → end c p ≤ q → get_or v q (pos 0) ≡ pos 0
  past_end q h = rw zeroed (zeroed-past (end c p) s q h)

  starting-placed : Placed c p w₀ (waiting c p w₀) v
  starting-placed = record {
    long = ap length zeroed ∙ zeroed-length (end c p) s ∙ put₀.long;
    variables = λ q h. below_end q (omega arith) ∙ put₀.before q h;
    new-variable = λ k h. below_end (first c + k) (omega arith) ∙ put₀.there k h ∙ put.there k h ∙ variable-waits c p w₀ k;
    edges = λ q h. below_end (first c + c.d + q) (omega arith) ∙ put₀.moved q h;
    new-edges = λ e k l h a b.
        below_end (own_length c + c.d + among_edges c e k l) (omega (arith, edge-inside c p w₀ e k l h a b))
        ∙ put₀.past (own_length c + c.d + among_edges c e k l) (omega arith) ∙ edge-waits c p w₀ e k l;
    past = λ q h. past_end q (omega arith);
  }

  module _ (lower : List ℕ) where
    abbrev g : Case
    g = grown_with c p (take p lower)

    working-placed : Placed c p w (weight g v) u
    working-placed = record {
      long = copied.long ∙ put.long;
      variables = λ q h. copied.before q (omega arith) ∙ put.before q h;
      new-variable = λ k h.
          copied.before (first c + k) (omega arith) ∙ sym (put₀.there k h) ∙ sym (below_end (first c + k) (omega arith))
          ∙ ap (λ (q : ℕ). get_or v q (pos 0)) (sym (grown-variable-place c p (take p lower) k));
      edges = λ q h. copied.before (first c + c.d + q) (omega arith) ∙ put.moved q h;
      new-edges = λ e k l h a b.
          copied.there (among_edges c e k l) (omega arith) (omega (arith, edge-inside c p w₀ e k l h a b, put.long))
          ∙ ap (λ (q : ℕ). get_or v q (pos 0)) (sym (grown-edge-place c p (take p lower) e k l));
      past = λ q h. ⊎_elim
          (λ b.
          let o : q < length u = ltb→lt q (length u) b in
          let e : rest c + (q - rest c) ≡ q = omega arith in
          sym (ap (λ (q : ℕ). get_or u q (pos 0)) e) ∙ copied.there (q - rest c) (omega arith) (omega (arith, copied.long, put.long))
          ∙ past_end (rest c + (q - rest c)) (omega arith))
          (λ b. get_or-eq_default u (pos 0) {n = q} (nltb→le q (length u) b)) (either (ltb q (length u)));
    }

    pub both-joined : (v ≡ (joined c w₀ w p lower).starting) × (u ≡ (joined c w₀ w p lower).weights)
    both-joined =
        let o = grown-own c p (take p lower) in
        let a : v ≡ (joined c w₀ w p lower).starting =
        grown-placed c p (take p lower) w₀ v (waiting c p w₀) (omega (arith, o)) starting-placed in
        let b : u ≡ grown_table c g w (weight g v) = grown-placed c p (take p lower) w u (weight g v) (omega (arith, o)) working-placed in
        (a, b ∙ ap (λ (z : List ℤ). grown_table c g w (weight g z)) a)
