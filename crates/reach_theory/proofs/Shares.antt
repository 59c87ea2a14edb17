-- How far the weights of each scope may lie apart before the first press: a variable's, barred ones counted as 0, and an edge's that are not
-- barred. Each scope has a share; a pair's round moves the shares of its variables into that of the edge, so that the sum stays. The sum of the
-- scopes' spreads is at most that of the shares. Assumes nothing.
use mathlib.Core.Path.{◌≡◌, sym, ap, subst, ◌∙◌}
use mathlib.Core.Bool.{not}
use mathlib.Core.Logic.{◌≢◌, ⊎_elim}
use mathlib.Core.List.{List}
use Prim.Native.Nat.{ℕ, ◌+◌, ◌<◌}
use native.Mathlib.Omega.{arith}
use lib.IntN.{ℤ, pos, ◌+ℤ◌, ◌-ℤ◌}
use lib.Dec.{T, T_not, not_T, eqb, eqb→eq, eqb_refl}
use lib.Signed.{◌≤ℤ◌}
use Rattle.integers.specs.Tests.{either, if-true, not-eqb-iff}
use Rattle.integers.specs.Linear.{flat, zs, ◌▸◌}
use Rattle.integers.specs.Sums.{Σ, Σ-mono, Σ-add, Σ-sub, Σ-only, only, only-off}
use Rattle.definitions.specs.declared.Case.{Case}
use Rattle.definitions.specs.Rules.{Rules, Coherent}
use Rattle.definitions.specs.Case.{lower_end, upper_end, scope_count, weight, greatest, is_barred, barred}
use Rattle.definitions.specs.Valid.{working_weight}
use Rattle.theory.proofs.Shape.{Shape}
use Rattle.theory.proofs.Places.{IsTuple, by-scope, variable-tuple, greatest-at, active-weight}
use Rattle.theory.proofs.Barred.{active-free}
use Rattle.theory.proofs.Validity.{Handed}
use Rattle.pair_theory.specs.Closed.{shifted}
use Rattle.pair_theory.proofs.Gains.{lower-tuple, upper-tuple, shifted-free}
use Rattle.pair_theory.proofs.Rounded.{pair_rounded, by-pair, rounded-barred, rounded-lower, rounded-upper, rounded-edge, rounded-else}
use Rattle.reach_theory.proofs.Spread.{total_spread, spread, spread-within}

pub record Shares (c : Case) (w : List ℤ) (u : ℕ) : Type 0 where
  pub share : ℕ → ℤ
  pub least : (x : ℕ) → x < scope_count c → pos 0 ≤ℤ share x
  pub total : Σ share 0 (scope_count c) ≤ℤ pos u
  pub variables : (i k l : ℕ) → i < c.n → k < c.d → l < c.d → (shifted c w i l -ℤ shifted c w i k) ≤ℤ share i
  pub edges : (e k l k' l' : ℕ) → IsTuple c (c.n + e) k l → IsTuple c (c.n + e) k' l' → e < c.m → T (not (barred c w (c.n + e) k l))
      → T (not (barred c w (c.n + e) k' l'))
      → (weight c w (c.n + e) k' l' -ℤ weight c w (c.n + e) k l) ≤ℤ share (c.n + e)

pub only_at : (i : ℕ) (z : ℤ) → only i z i ≡ z
only_at i z = if-true z (pos 0) (eqb i i) (eqb_refl i)

-- ---- the spreads

pub shares-spread : {r : Rules} {c : Case} {w : List ℤ} {u : ℕ} → Coherent r → Handed r (working_weight r) c w → Shares c w u → total_spread c w ≤ℤ pos u
shares-spread {r} {c} {w} {u} coherent h s =
    Σ-mono (spread c w) s.share 0 (scope_count c) (λ x l u. at x (omega arith)) ▸ s.total ▸ simp flat (omega zs)
  where
    free : (x k l : ℕ) → x < scope_count c → weight c w x k l ≡ greatest c w x → T (not (barred c w x k l))
    free x k l o e = active-free c coherent w h.in-range x o (h.some-free x o) k l ((active-weight c w x k l).1 e)

    at : (x : ℕ) → x < scope_count c → spread c w x ≤ℤ s.share x
    at = by-scope c (λ x. spread c w x ≤ℤ s.share x)
        (λ i o. spread-within c w h.shape (omega arith) (s.least i (omega arith)) (λ k l t f.
        let e = t.alone o in
        let (k', l', t', g) = greatest-at c w t in
        let e' = t'.alone o in
        s.variables i k k' o t.one t'.one ▸ g ▸ shifted-free c w i k (rw e at f) ▸ shifted-free c w i k' (rw e' at (free i k' l' (omega arith) g))
        ▸ ap (weight c w i k) e ▸ ap (weight c w i k') e' ▸ simp flat (omega zs)))
        (λ e o. spread-within c w h.shape (omega arith) (s.least (c.n + e) (omega arith)) (λ k l t f.
        let (k', l', t', g) = greatest-at c w t in
        s.edges e k l k' l' t t' o f (free (c.n + e) k' l' (omega arith) g) ▸ g ▸ simp flat (omega zs)))

-- ---- a pair's round

module _ (c : Case) (w : List ℤ) (e : ℕ) (shape : Shape c) (h : e < c.m) where
  abbrev rounded : List ℤ
  rounded = pair_rounded c w e

  -- a barred tuple is one after it
  pub was_free : {x k l : ℕ} → IsTuple c x k l → T (not (barred c rounded x k l)) → T (not (barred c w x k l))
  was_free {x} {k} {l} u f = not_T (barred c w x k l) (λ t. T_not (barred c rounded x k l) f (subst (λ (z : ℤ). T (is_barred z)) (sym (rounded-barred c w e u t)) t))

  zero-at : (i k : ℕ) → IsTuple c i k 0 → (T (not (barred c w i k 0)) → weight c rounded i k 0 ≡ pos 0) → shifted c rounded i k ≡ pos 0
  zero-at i k u z = ⊎_elim (λ t. if-true (pos 0) (weight c rounded i k 0) (barred c rounded i k 0) t)
      (λ t. shifted-free c rounded i k t ∙ z (was_free u t)) (either (barred c rounded i k 0))

  pub shifted-lower : (k : ℕ) → k < c.d → shifted c rounded (lower_end c e) k ≡ pos 0
  shifted-lower k p = zero-at (lower_end c e) k (lower-tuple c shape e h p) (rounded-lower c w e shape h k p)

  pub shifted-upper : (k : ℕ) → k < c.d → shifted c rounded (upper_end c e) k ≡ pos 0
  shifted-upper k p = zero-at (upper_end c e) k (upper-tuple c shape e h p) (rounded-upper c w e shape h k p)

  pub shifted-else : (i k : ℕ) → i < c.n → k < c.d → i ≢ lower_end c e → i ≢ upper_end c e → shifted c rounded i k ≡ shifted c w i k
  shifted-else i k o p a b = rw (rounded-else c w e (variable-tuple c i k o p) a b (omega arith))

  module _ {u : ℕ} (s : Shares c w u) where
    abbrev at_lower : ℕ → ℤ
    at_lower = only (lower_end c e) (s.share (lower_end c e))

    abbrev at_upper : ℕ → ℤ
    at_upper = only (upper_end c e) (s.share (upper_end c e))

    abbrev at_edge : ℕ → ℤ
    at_edge = only (c.n + e) (s.share (lower_end c e) +ℤ s.share (upper_end c e))

    abbrev moved : ℕ → ℤ
    moved x = (s.share x -ℤ (at_lower x +ℤ at_upper x)) +ℤ at_edge x

    up : lower_end c e < upper_end c e
    up = shape.ascending e h

    in-n : upper_end c e < c.n
    in-n = shape.below-n e h

    moved-lower : moved (lower_end c e) ≡ pos 0
    moved-lower =
        let o = up in
        let q = in-n in
        only_at (lower_end c e) (s.share (lower_end c e)) ▸ only-off (upper_end c e) (s.share (upper_end c e)) {x = lower_end c e} (omega arith)
        ▸ only-off (c.n + e) (s.share (lower_end c e) +ℤ s.share (upper_end c e)) {x = lower_end c e} (omega arith) ▸ simp flat (omega zs)

    moved-upper : moved (upper_end c e) ≡ pos 0
    moved-upper =
        let o = up in
        let q = in-n in
        only_at (upper_end c e) (s.share (upper_end c e)) ▸ only-off (lower_end c e) (s.share (lower_end c e)) {x = upper_end c e} (omega arith)
        ▸ only-off (c.n + e) (s.share (lower_end c e) +ℤ s.share (upper_end c e)) {x = upper_end c e} (omega arith) ▸ simp flat (omega zs)

    moved-edge : moved (c.n + e) ≡ (s.share (lower_end c e) +ℤ s.share (upper_end c e)) +ℤ s.share (c.n + e)
    moved-edge =
        let o = up in
        let q = in-n in
        only-off (lower_end c e) (s.share (lower_end c e)) {x = c.n + e} (omega arith)
        ▸ only-off (upper_end c e) (s.share (upper_end c e)) {x = c.n + e} (omega arith)
        ▸ only_at (c.n + e) (s.share (lower_end c e) +ℤ s.share (upper_end c e)) ▸ simp flat (omega zs)

    moved-else : (x : ℕ) → x ≢ lower_end c e → x ≢ upper_end c e → x ≢ c.n + e → moved x ≡ s.share x
    moved-else x a b g =
        only-off (lower_end c e) (s.share (lower_end c e)) a ▸ only-off (upper_end c e) (s.share (upper_end c e)) b
        ▸ only-off (c.n + e) (s.share (lower_end c e) +ℤ s.share (upper_end c e)) g ▸ simp flat (omega zs)

    pub shares-rounded : Shares c rounded u
    shares-rounded =
        let o = up in
        let q = in-n in
        record {
          share = moved;
          least = by-pair c e (λ x. x < scope_count c → pos 0 ≤ℤ moved x) (λ t. moved-lower ▸ simp flat (omega zs)) (λ t. moved-upper ▸ simp flat (omega zs))
              (λ t. moved-edge ▸ s.least (lower_end c e) (omega arith) ▸ s.least (upper_end c e) (omega arith) ▸ s.least (c.n + e) t ▸ simp flat (omega zs))
              (λ x a b g t. moved-else x a b g ▸ s.least x t ▸ simp flat (omega zs));
          total =
              Σ-add (λ x. s.share x -ℤ (at_lower x +ℤ at_upper x)) at_edge 0 (scope_count c)
              ▸ Σ-sub s.share (λ x. at_lower x +ℤ at_upper x) 0 (scope_count c) ▸ Σ-add at_lower at_upper 0 (scope_count c)
              ▸ Σ-only (lower_end c e) (s.share (lower_end c e)) 0 (scope_count c) (omega arith) (omega arith)
              ▸ Σ-only (upper_end c e) (s.share (upper_end c e)) 0 (scope_count c) (omega arith) (omega arith)
              ▸ Σ-only (c.n + e) (s.share (lower_end c e) +ℤ s.share (upper_end c e)) 0 (scope_count c) (omega arith) (omega arith)
              ▸ s.total ▸ simp flat (omega zs);
          variables = λ i k l t p p'. by-pair c e (λ i. i < c.n → (shifted c rounded i l -ℤ shifted c rounded i k) ≤ℤ moved i)
              (λ t. shifted-lower k p ▸ shifted-lower l p' ▸ moved-lower ▸ simp flat (omega zs))
              (λ t. shifted-upper k p ▸ shifted-upper l p' ▸ moved-upper ▸ simp flat (omega zs))
              (λ t. absurd (omega arith))
              (λ i a b g t. shifted-else i k t p a b ▸ shifted-else i l t p' a b ▸ moved-else i a b g ▸ s.variables i k l t p p' ▸ simp flat (omega zs)) i t;
          edges = λ f k l k' l' t t' d n n'. ⊎_elim
              (λ m. subst (λ (f : ℕ). IsTuple c (c.n + f) k l → IsTuple c (c.n + f) k' l' → T (not (barred c rounded (c.n + f) k l))
              → T (not (barred c rounded (c.n + f) k' l')) → (weight c rounded (c.n + f) k' l' -ℤ weight c rounded (c.n + f) k l) ≤ℤ moved (c.n + f))
              (sym (eqb→eq f e m)) (λ t t' n n'.
              rounded-edge c w e shape h k l t.one t.two (was_free t n) ▸ rounded-edge c w e shape h k' l' t'.one t'.two (was_free t' n')
              ▸ s.variables (lower_end c e) k k' (omega arith) t.one t'.one ▸ s.variables (upper_end c e) l l' (omega arith) t.two t'.two
              ▸ s.edges e k l k' l' t t' h (was_free t n) (was_free t' n') ▸ moved-edge ▸ simp flat (omega zs)) t t' n n')
              (λ m.
              let g : f ≢ e = (not-eqb-iff f e).0 m in
              rounded-else c w e t (omega arith) (omega arith) (omega arith) ▸ rounded-else c w e t' (omega arith) (omega arith) (omega arith)
              ▸ moved-else (c.n + f) (omega arith) (omega arith) (omega arith) ▸ s.edges f k l k' l' t t' d (was_free t n) (was_free t' n')
              ▸ simp flat (omega zs))
              (either (eqb f e));
        }
