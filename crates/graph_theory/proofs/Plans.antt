-- Where the edges form no cycle, values with partners across every edge can be chosen together: edge after edge, the value of one variable
-- given. So in a state with no press and no void line left some assignment uses active tuples only (`hilltop`). Assumes nothing.
use mathlib.Core.Path.{◌≡◌, refl, sym, subst, ◌∙◌, ap}
use mathlib.Core.Bool.{Bool, true, false}
use mathlib.Core.Logic.{◌↔◌, ⊎_elim}
use mathlib.Core.List.{List, map}
use Prim.Native.Nat.{ℕ, zero, suc, ◌+◌, ◌≤◌, ◌<◌}
use native.Mathlib.Omega.{arith}
use lib.IntN.{ℤ, ◌+ℤ◌}
use Rattle.integers.specs.Linear.{flat, zs, ◌▸◌}
use lib.Dec.{T, T_not, not_T, eqb, ltb, eqb→eq, ltb→lt, lt→ltb, nltb→le}
use lib.ListN.{length}
use Rattle.std.specs.Prelude.{if◌then◌else◌}
use Rattle.integers.specs.Words.{below, all, is_in}
use Rattle.integers.specs.Tests.{either, same_test, if-true, if-false, if-cases, eqb-iff, not-eqb-iff, and_intro}
use Rattle.integers.specs.Lists.{all_map, all_of, is_in-below}
use Rattle.integers.specs.Tables.{get_d-tab, length-tab}
use Rattle.definitions.specs.declared.Case.{Case}
use Rattle.definitions.specs.Rules.{Rules, Coherent}
use Rattle.definitions.specs.Case.{lower_end, upper_end, scope_count, is_assignment, value_of, at_used, objective, upper_bound, active, barred, is_lawful}
use Rattle.definitions.specs.Valid.{working_weight}
use Rattle.definitions.specs.Consistency.{Family, Supported, allowed_on_edge, others}
use Rattle.definitions.specs.Graph.{Connected, Acyclic, connected}
use Rattle.definitions.specs.Engine.{NoPress}
use Rattle.definitions.proofs.Refutation.{others-active}
use Rattle.theory.proofs.Shape.{Shape, lower-below}
use Rattle.theory.proofs.Places.{by-scope}
use Rattle.theory.proofs.Totals.{used-variable, used-edge, at-used, first_used, second_used, bound-above, bound-met}
use Rattle.theory.proofs.Barred.{active-free, lawful-iff}
use Rattle.theory.proofs.Validity.{Handed}
use Rattle.graph_theory.specs.Hilltop.{Meets, Hilltop, Best}
use Rattle.graph_theory.proofs.Walks.{walk-on, walk-back, connected-iff, acyclic-in-turn}

module _ {c : Case} (shape : Shape c) {w : List ℤ} {R : ℕ → Bool} {i k : ℕ} {S : Family} (p : Supported c w R i k S) where
  -- a value of each variable's set, v for variable r, such that the tuples on the first m edges are allowed
  record Chosen (m r v : ℕ) (x : ℕ → ℕ) : Type 0 where
    pub given : x r ≡ v
    pub member : (j : ℕ) → j < c.n → (x j < c.d) × T (S j (x j))
    pub allowed : (e : ℕ) → e < m → T (allowed_on_edge c w R e (x (lower_end c e)) (x (upper_end c e)))

  -- a value of one variable's set can be completed
  abbrev Completed : ℕ → Type 0
  Completed m = (r v : ℕ) → r < c.n → v < c.d → T (S r v) → (x : ℕ → ℕ) × Chosen m r v x

  -- ---- no edge

  some-member : (j : ℕ) → (v : ℕ) × (j < c.n → (v < c.d) × T (S j v))
  some-member j = ⊎_elim
      (λ t. let (v, g, s) = p.non-empty j (ltb→lt j c.n t) in (v, λ h. (g, s)))
      (λ t. (0, λ h. let l = nltb→le j c.n t in absurd (omega arith)))
      (either (ltb j c.n))

  no_edge : Completed 0
  no_edge r v h g s = (
    λ j. if eqb j r then v else (some-member j).0,
    record {
      given = if-true v (some-member r).0 (eqb r r) ((eqb-iff r r).1 refl);
      member = λ j l. if-cases (λ u. (u < c.d) × T (S j u)) (eqb j r) v (some-member j).0
          (λ t. (g, subst (λ (j : ℕ). T (S j v)) (sym (eqb→eq j r t)) s)) (λ t. (some-member j).1 l);
      allowed = λ e l. absurd (omega arith);
    },
  )

  -- ---- edge m

  module _ {m : ℕ} (h : m < c.m) where
    -- what the first m edges connect, or not
    linked : (j b : ℕ) → j < c.n → b < c.n → T (connected c (below m) j b) ↔ Connected c (below m) j b
    linked = connected-iff c shape (below m) (λ e t. let l = (is_in-below m e).0 t in omega arith)

    module _ {b : ℕ} (in_b : b < c.n) (x y : ℕ → ℕ) where
      -- y where they connect to variable b, x elsewhere
      abbrev grafted : ℕ → ℕ
      grafted j = if connected c (below m) j b then y j else x j

      there : grafted b ≡ y b
      there = if-true (y b) (x b) (connected c (below m) b b) ((linked b b in_b in_b).1 Connected.here)

      elsewhere : {j : ℕ} → j < c.n → (Connected c (below m) j b → ⊥) → grafted j ≡ x j
      elsewhere {j} l n = if-false (y j) (x j) (connected c (below m) j b) (not_T (connected c (below m) j b) (λ t. n ((linked j b l in_b).0 t)))

      -- both ends of an edge are on one side
      one_side : (e : ℕ) → e < m → connected c (below m) (lower_end c e) b ≡ connected c (below m) (upper_end c e) b
      one_side e l =
          let o : e < c.m = omega arith in
          let t = (is_in-below m e).1 l in
          let low = linked (lower_end c e) b (lower-below shape e o) in_b in
          let high = linked (upper_end c e) b (shape.below-n e o) in_b in
          same_test _ _ (λ s. high.1 (Connected.down e t (low.0 s))) (λ s. low.1 (Connected.up e t (high.0 s)))

      both : (e l u : ℕ) (near : Bool) → T (allowed_on_edge c w R e (y l) (y u)) → T (allowed_on_edge c w R e (x l) (x u))
          → T (allowed_on_edge c w R e (if near then y l else x l) (if near then y u else x u))
      both e l u true s t = s
      both e l u false s t = t

      grafts : {r v u : ℕ} → r < c.n → Chosen m r v x → Chosen m b u y → (Connected c (below m) r b → ⊥) → Chosen m r v grafted
      grafts g one two apart = record {
        given = elsewhere g apart ∙ one.given;
        member = λ j l. if-cases (λ z. (z < c.d) × T (S j z)) (connected c (below m) j b) (y j) (x j) (λ t. two.member j l) (λ t. one.member j l);
        allowed = λ e l. rw (one_side e l) (both e (lower_end c e) (upper_end c e) (connected c (below m) (upper_end c e) b) (two.allowed e l) (one.allowed e l));
      }

    one-edge-more : {r v : ℕ} {x : ℕ → ℕ} → Chosen m r v x → T (allowed_on_edge c w R m (x (lower_end c m)) (x (upper_end c m))) → Chosen (suc m) r v x
    one-edge-more {x = x} one a = record {
      given = one.given;
      member = one.member;
      allowed = λ e l. ⊎_elim
          (λ s. subst (λ (e : ℕ). T (allowed_on_edge c w R e (x (lower_end c e)) (x (upper_end c e)))) (sym (eqb→eq e m s)) a)
          (λ s. one.allowed e (omega (arith, (not-eqb-iff e m).0 s)))
          (either (eqb e m));
    }

    -- a and b are the ends of edge m, and b is not connected to the given variable: b gets a partner, and what is connected to b follows it
    module _ (rest : Completed m) {a b : ℕ} (in-a : a < c.n) (in_b : b < c.n) (apart : Connected c (below m) a b → ⊥) (fits : ℕ → ℕ → Bool)
        (partner : (v : ℕ) → v < c.d → T (S a v) → (u : ℕ) × (u < c.d) × T (S b u) × T (fits v u))
        (ends : (z : ℕ → ℕ) → T (fits (z a) (z b)) → T (allowed_on_edge c w R m (z (lower_end c m)) (z (upper_end c m)))) where
      complete-at : {r v : ℕ} {x : ℕ → ℕ} → r < c.n → Chosen m r v x → (Connected c (below m) r b → ⊥) → (z : ℕ → ℕ) × Chosen (suc m) r v z
      complete-at {x = x} g one n =
          let (l, s) = one.member a in-a in
          let (u, o, t, f) = partner (x a) l s in
          let (y, two) = rest b u in_b o t in
          let z = grafted in_b x y in
          (z, one-edge-more (grafts in_b x y g one two n) (ends z (rw (there in_b x y, two.given, elsewhere in_b x y in-a apart) f)))

    complete-edge : (Connected c (below m) (lower_end c m) (upper_end c m) → ⊥) → Completed m → Completed (suc m)
    complete-edge apart rest r v g l s =
        let low = lower-below shape m h in
        let high = shape.below-n m h in
        let (x, one) = rest r v g l s in
        let near = linked r (upper_end c m) g high in
        ⊎_elim
        (λ t. complete-at rest high low (λ w. apart (walk-back c w)) (λ v u. allowed_on_edge c w R m u v) (λ v. p.partner-below m v h) (λ z f. f) g one
        (λ w. apart (walk-on c (walk-back c w) (near.0 t))))
        (λ t. complete-at rest low high apart (allowed_on_edge c w R m) (λ v. p.partner-above m v h) (λ z f. f) g one
        (λ w. T_not (connected c (below m) r (upper_end c m)) t (near.1 w)))
        (either (connected c (below m) r (upper_end c m)))

  complete : Acyclic c → (m : ℕ) → m ≤ c.m → Completed m
  complete acyclic zero l = no_edge
  complete acyclic (suc m) l = complete-edge (omega arith) ((acyclic-in-turn c).0 acyclic m (omega arith)) (complete acyclic m (omega arith))

-- ---- a state with no press and no void line left

module _ {c : Case} (shape : Shape c) (w : List ℤ) where
  -- values chosen together, as an assignment
  module _ {i k : ℕ} (h : i < c.n) (a : T (active c w i k 0)) {S : Family} (p : Supported c w (is_in (others c i)) i k S) {r v : ℕ} {x : ℕ → ℕ}
      (one : Chosen shape p c.m r v x) where
    plan : List ℕ
    plan = map x (below c.n)

    value-is : (j : ℕ) → j < c.n → value_of plan j ≡ x j
    unfolding plan
    value-is j l = get_d-tab x c.n j 0 l

    plan-assigned : T (is_assignment c plan)
    unfolding plan
    plan-assigned =
        and_intro (eqb (length plan) c.n) (all (λ k. ltb k c.d) plan) ((eqb-iff (length plan) c.n).1 (length-tab x 0 c.n))
        (rw (all_map (λ k. ltb k c.d) x (below c.n)) (all_of (λ j. ltb (x j) c.d) c.n (λ j l. lt→ltb (x j) c.d (one.member j l).0)))

    active-at : (j : ℕ) → j < c.n → T (active c w j (x j) 0)
    active-at j l = ⊎_elim
        (λ t.
        let (g, s) = one.member j l in
        let q : j ≡ i = eqb→eq j i t in
        let e : x j ≡ k = p.fixed (x j) g (subst (λ (y : ℕ). T (S y (x j))) q s) in
        rw (e, q) a)
        (λ t. let (g, s) = one.member j l in
        others-active c w i j (x j) 0 (omega arith) ((not-eqb-iff j i).0 t) (p.allowed-only j (x j) l g s))
        (either (eqb j i))

    plan-active : (y : ℕ) → y < scope_count c → T (at_used c plan y (active c w y))
    plan-active = by-scope c (λ y. T (at_used c plan y (active c w y)))
        (λ j l. rw (used-variable c plan (active c w j) j l, value-is j l) (active-at j l))
        (λ e l. rw (used-edge c plan (active c w (c.n + e)) e, value-is (lower_end c e) (lower-below shape e l), value-is (upper_end c e) (shape.below-n e l))
        (others-active c w i (c.n + e) (x (lower_end c e)) (x (upper_end c e)) (omega arith) (λ q. omega arith) (one.allowed e l)))

  -- "some plan uses active combinations only"
  pub active-plan : Acyclic c → NoPress c w → (p : List ℕ) × T (is_assignment c p) × ((x : ℕ) → x < scope_count c → T (at_used c p x (active c w x)))
  active-plan acyclic rest =
      let (k, l, a, S, p) = rest 0 shape.some-variable in
      let (v, g, s) = p.non-empty 0 shape.some-variable in
      let (x, one) = complete shape p acyclic c.m (omega arith) 0 v shape.some-variable g s in
      (plan shape.some-variable a p one, plan-assigned shape.some-variable a p one, plan-active shape.some-variable a p one)

module _ {r : Rules} (coherent : Coherent r) {c : Case} {w : List ℤ} (handed : Handed r (working_weight r) c w) where
  -- an assignment that uses active tuples only is lawful
  active-lawful : (p : List ℕ) → T (is_assignment c p) → ((x : ℕ) → x < scope_count c → T (at_used c p x (active c w x))) → T (is_lawful c w p)
  active-lawful p a f = (lawful-iff c w p).1 (
    a,
    λ x h. rw (at-used c p (barred c w x) x) (active-free c coherent w handed.in-range x h (handed.some-free x h) (first_used c p x) (second_used c p x)
        (rw (at-used c p (active c w x) x) at (f x h))),
  )

  pub hilltop : Hilltop c w
  hilltop acyclic rest =
      let (p, a, f) = active-plan handed.shape w acyclic rest in
      let met : objective c w p +ℤ c.carry ≡ upper_bound c w = (bound-met handed.shape p a w).1 f in (
        p,
        record {
          active-only = f;
          total = sym met;
          none-greater = λ q b. met ▸ bound-above handed.shape q b w ▸ simp flat (omega zs);
          lawful = active-lawful p a f;
        },
      )

-- an assignment that meets the bound of v has the greatest objective in w too, if the lawful assignments of w and v and their objectives are the same
pub kept-best : {c : Case} {w v : List ℤ} → ((p : List ℕ) → T (is_lawful c v p) → T (is_lawful c w p))
    → ((p : List ℕ) → T (is_lawful c w p) → objective c v p ≡ objective c w p) → (p : List ℕ) × Meets c v p
    → (p : List ℕ) × Meets c v p × Best c w p × (upper_bound c v ≡ objective c w p +ℤ c.carry)
kept-best {c} {w} {v} back same (p, meets) =
    let t = back p meets.lawful in (
      p,
      meets,
      record {
        lawful = t;
        none-greater = λ q s. rw (← (same q s), ← (same p t)) (meets.none-greater q ((lawful-iff c w q).0 s).0);
      },
      meets.total ∙ ap (λ (z : ℤ). z +ℤ c.carry) (same p t),
    )
