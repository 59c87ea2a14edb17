-- The active values of a variable, by which scopes are raised: with more scopes they stay refuted, and the variable's own scope makes no
-- difference to them. Assumes nothing.
use mathlib.Core.Path.{◌≡◌, sym, subst}
use mathlib.Core.Bool.{Bool, true, false, not, ◌&&◌}
use mathlib.Core.Logic.{◌≢◌, ⊎_elim}
use mathlib.Core.List.{List}
use Prim.Native.Nat.{ℕ, ◌+◌, ◌<◌}
use native.Mathlib.Omega.{arith}
use lib.IntN.{ℤ}
use lib.Dec.{T, eqb, eqb→eq}
use Rattle.integers.specs.Words.{◌⇒◌}
use Rattle.integers.specs.Tests.{either, same_test, imp_intro, imp_elim, not-eqb-iff}
use Rattle.integers.specs.Lists.{all-at, all_of, all_same}
use Rattle.definitions.specs.declared.Case.{Case}
use Rattle.definitions.specs.Case.{scope_count, active}
use Rattle.definitions.specs.Consistency.{Family, Supported, allowed, refuted, all_refuted}
use Rattle.definitions.specs.Moves.{active_values}
use Rattle.definitions.proofs.Refutation.{refuted-sound, refuted-complete, refuted-raised}
use Rattle.theory.proofs.Shape.{Shape, ends-below}

pub refuted-more : (c : Case) (w : List ℤ) (i : ℕ) (R Q : ℕ → Bool) → ((x : ℕ) → x < scope_count c → T (R x) → T (Q x))
    → T (all_refuted c w R i (active_values c w i)) → T (all_refuted c w Q i (active_values c w i))
refuted-more c w i R Q more t =
    all_of (λ k. active c w i k 0 ⇒ refuted c w Q i k) c.d (λ k h. imp_intro (active c w i k 0) (refuted c w Q i k) (λ a.
    refuted-raised c w R Q i k more
    (imp_elim (active c w i k 0) (refuted c w R i k) (all-at (λ k. active c w i k 0 ⇒ refuted c w R i k) c.d t k h) a)))

-- an active tuple is allowed
active-allowed : (r a : Bool) → T a → T (not (r && not a))
active-allowed true true t = tt
active-allowed false true t = tt
active-allowed false false t = elim t [ ]
active-allowed true false t = elim t [ ]

module _ (c : Case) (w : List ℤ) (i : ℕ) (h : i < c.n) where
  module _ (R Q : ℕ → Bool) (same : (x : ℕ) → x < scope_count c → x ≢ i → R x ≡ Q x) (k : ℕ) (a : T (active c w i k 0)) where
    carried : (x v u : ℕ) → x < scope_count c → x ≢ i → T (allowed c w R x v u) → T (allowed c w Q x v u)
    carried x v u g ne = subst (λ (r : Bool). T (not (r && not (active c w x v u)))) (same x g ne)

    own-supported : (S : Family) → Supported c w R i k S → Supported c w Q i k S
    own-supported S p = record {
      fixed = p.fixed;
      non-empty = p.non-empty;
      allowed-only = λ j v g l s. ⊎_elim
          (λ t.
          let e : j ≡ i = eqb→eq j i t in
          let f : v ≡ k = p.fixed v l (subst (λ (j : ℕ). T (S j v)) e s) in
          subst (λ (j : ℕ). T (allowed c w Q j v 0)) (sym e) (subst (λ (v : ℕ). T (allowed c w Q i v 0)) (sym f) (active-allowed (Q i) (active c w i k 0) a)))
          (λ t. carried j v 0 (omega arith) ((not-eqb-iff j i).0 t) (p.allowed-only j v g l s))
          (either (eqb j i));
      partner-above = λ e v g l s. let (u, m, q, o) = p.partner-above e v g l s in
          (u, m, q, carried (c.n + e) v u (omega arith) (λ q. absurd (omega arith)) o);
      partner-below = λ e u g l s. let (v, m, q, o) = p.partner-below e u g l s in
          (v, m, q, carried (c.n + e) v u (omega arith) (λ q. absurd (omega arith)) o);
    }

    own-refuted : Shape c → T (refuted c w Q i k) → T (refuted c w R i k)
    own-refuted shape t = refuted-complete c w R i k (record {
      none-exists = λ S s. (refuted-sound c w Q i k (ends-below shape) t).none-exists S
          (own-supported S s);
    })

  pub own-scope : Shape c → (R Q : ℕ → Bool) → ((x : ℕ) → x < scope_count c → x ≢ i → R x ≡ Q x)
      → all_refuted c w R i (active_values c w i) ≡ all_refuted c w Q i (active_values c w i)
  own-scope shape R Q same = all_same c.d (λ k l. same_test _ _
      (λ t. imp_intro (active c w i k 0) (refuted c w Q i k) (λ a. own-refuted Q R (λ x g ne. sym (same x g ne)) k a shape
      (imp_elim (active c w i k 0) (refuted c w R i k) t a)))
      (λ t. imp_intro (active c w i k 0) (refuted c w R i k) (λ a. own-refuted R Q same k a shape (imp_elim (active c w i k 0) (refuted c w Q i k) t a))))
