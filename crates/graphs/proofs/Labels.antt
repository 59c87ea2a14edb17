-- Labels that are written place by place, and what they tell. Assumes nothing.
use mathlib.Core.Path.{◌≡◌, sym, subst, ◌∙◌}
use mathlib.Core.Bool.{true, false}
use mathlib.Core.Logic.{◌≢◌}
use mathlib.Core.List.{List, map}
use Prim.Native.Nat.{ℕ, suc, ◌+◌, ◌<◌}
use native.Mathlib.Omega.{arith}
use lib.ListN.{length, get_or, length-map}
use lib.Seq.{take_all}
use Rattle.integers.specs.Words.{below}
use Rattle.integers.specs.Tests.{same_test}
use Rattle.integers.specs.Lists.{length_from}
use Rattle.integers.specs.Tables.{get_d_map, get_d-from}
use Rattle.definitions.specs.declared.Case.{Case}
use Rattle.definitions.specs.Case.{lower_end, upper_end}
use Rattle.definitions.specs.Graph.{relabelled, is_acyclic}
use Rattle.theory.proofs.Shape.{Shape}
use Rattle.graph_theory.proofs.Walks.{Decides, InTurn, label, acyclic-iff, acyclic-in-turn, next-labels, next-in-turn, next-cyclic}
use Rattle.arcs.specs.Active.{Written}
use Rattle.arcs.proofs.Marked.{written-part}

-- ---- all places are written

module _ (S S' : List ℕ) where
  written_all : (bytes : List ℕ) (f : ℕ → ℕ) → length bytes ≡ length S → ((p : ℕ) → p < length S → get_or bytes p 0 ≡ f p) → Written f 0 (length S) S S'
      → S' ≡ bytes
  written_all bytes f len is w = sym (take_all (length S) S' (omega (arith, w.same_length))) ∙ written-part bytes S S' f (length S) len is (omega arith) w

  pub own-written : Written (λ p. p) 0 (length S) S S' → S' ≡ below (length S)
  own-written w = written_all (below (length S)) (λ p. p) (length_from 0 (length S)) (λ p h. omega (arith, get_d-from 0 (length S) p 0 h)) w

  pub map-written : (f : ℕ → ℕ) → Written (λ p. f (get_or S p 0)) 0 (length S) S S' → S' ≡ map f S
  map-written f w = written_all (map f S) (λ p. f (get_or S p 0)) (length-map S f) (λ p h. get_d_map f S p 0 0 h) w

-- ---- edge after edge

module _ (c : Case) (shape : Shape c) where
  module _ {k : ℕ} {labels : List ℕ} (decides : Decides c (below k) labels) (turn : InTurn c k) (h : k < c.m) where
    pub edge-joined : label c labels (lower_end c k) ≢ label c labels (upper_end c k) → {joined : List ℕ} → joined ≡ relabelled c k labels
        → Decides c (below (k + 1)) joined × InTurn c (k + 1)
    edge-joined apart {joined} e =
        let next : suc k ≡ k + 1 = omega arith in
        subst (λ (j : ℕ). Decides c (below j) joined × InTurn c j) next
        (subst (Decides c (below (suc k))) (sym e) (next-labels c shape decides h), next-in-turn c shape decides h turn apart)

  pub none-closes : InTurn c c.m → true ≡ is_acyclic c
  none-closes turn = same_test true (is_acyclic c) (λ t. (acyclic-iff c shape).1 ((acyclic-in-turn c).1 turn)) (λ t. tt)

  pub one-closes : (k : ℕ) {labels : List ℕ} → Decides c (below k) labels → k < c.m → label c labels (lower_end c k) ≡ label c labels (upper_end c k)
      → false ≡ is_acyclic c
  one-closes k decides h same = same_test false (is_acyclic c) (λ t. absurd t) (λ t. next-cyclic c shape decides h same ((acyclic-iff c shape).0 t))
