-- A link joins: where the weights of the case before lie in the grown one, and what a plan of it comes to beside the plans of the case before.
-- Assumes nothing.
use mathlib.Core.Path.{◌≡◌, refl, sym, ap, ap₂, subst, ◌∙◌}
use mathlib.Core.Bool.{Bool, true, false, not}
use mathlib.Core.Logic.{◌≢◌, ⊎_elim}
use mathlib.Core.List.{List}
use Prim.Native.Nat.{ℕ, suc, ◌+◌, ◌-◌, ◌≤◌, ◌<◌}
use native.Mathlib.Omega.{arith}
use lib.IntN.{ℤ, ◌+ℤ◌}
use lib.Dec.{T, T_not, not_T, eqb, ltb, leb, ltb→lt, nltb→le, lt→ltb, le→leb, eqb→eq}
use lib.Signed.{◌≤ℤ◌}
use lib.ListN.{length, take}
use lib.Seq.{get_or-take, length-take-le}
use Rattle.std.specs.Prelude.{if◌then◌else◌}
use Rattle.integers.specs.Words.{all}
use Rattle.integers.specs.Tests.{is_true, true-is, is_false, either, if-true, if-false, and_intro, and_left, or_right, not-or-iff, eqb-iff, not-eqb-iff, not-leb-iff}
use Rattle.integers.specs.Linear.{flat, zs, ◌▸◌}
use Rattle.integers.specs.Tables.{all_get_d}
use Rattle.integers.specs.Sums.{Σ, Σ-cong, Σ-split, Σ-shift, Σ-last}
use Rattle.definitions.specs.declared.Case.{Case}
use Rattle.definitions.specs.Case.{lower_end, upper_end, scope_count, weight, is_assignment, value_of, at_used, objective, is_barred, barred, is_lawful}
use Rattle.definitions.specs.Rules.{Rules, Coherent, full_length}
use Rattle.definitions.specs.Valid.{starting_weight, working_weight}
use Rattle.logs.specs.Join.{is_new, scope_ungrown, grown_table}
use Rattle.theory.proofs.Shape.{Shape, lower-below}
use Rattle.theory.proofs.Places.{IsTuple, by-scope, by-tuple, variable-tuple, edge-tuple, first-tuple, each-cong}
use Rattle.theory.proofs.Totals.{used-variable, used-edge, at-used, value-used, used-tuple}
use Rattle.theory.proofs.Barred.{lawful-iff}
use Rattle.theory.proofs.Full.{full-weight, full-long, full-past}
use Rattle.theory.proofs.Validity.{Handed, working-weights, BothHanded}

-- the number that scope x of the case before has in the grown one
abbrev pub grown_scope : Case → ℕ → ℕ
grown_scope c x = if ltb x c.n then x else x + 1

-- g is the case c with one variable more and edges that come last, and t has the weights of w₀ at the scopes before
pub record Grown (c g : Case) (w₀ t : List ℤ) : Type 0 where
  pub shape : Shape c
  pub grown-shape : Shape g
  pub variables : g.n ≡ c.n + 1
  pub values : g.d ≡ c.d
  pub edges : c.m ≤ g.m
  pub carry : g.carry ≡ c.carry
  pub lower : (e : ℕ) → e < c.m → lower_end g e ≡ lower_end c e
  pub upper : (e : ℕ) → e < c.m → upper_end g e ≡ upper_end c e
  pub weights : (x k l : ℕ) → IsTuple c x k l → weight g t (grown_scope c x) k l ≡ weight c w₀ x k l

module _ (c : Case) where
  pub grown-variable : {i : ℕ} → i < c.n → grown_scope c i ≡ i
  grown-variable {i} l = if-true _ _ (ltb i c.n) (lt→ltb i c.n l)

  pub edge-up : (e : ℕ) → grown_scope c (c.n + e) ≡ c.n + 1 + e
  edge-up e =
      if-false _ _ (ltb (c.n + e) c.n) (not_T (ltb (c.n + e) c.n) (λ b. let l = ltb→lt (c.n + e) c.n b in omega arith)) ∙ omega arith

  not_new : {y : ℕ} → y ≢ c.n → y < c.n + 1 + c.m → is_new c y ≡ false
  not_new {y} n l = is_false (is_new c y) ((not-or-iff (eqb y c.n) (leb (c.n + 1 + c.m) y)).1 ((not-eqb-iff y c.n).1 n, (not-leb-iff (c.n + 1 + c.m) y).1 l))

  -- a scope of the case before is not new
  pub old-scope : (x : ℕ) → x < scope_count c → (is_new c (grown_scope c x) ≡ false) × (scope_ungrown c (grown_scope c x) ≡ x)
  old-scope = by-scope c (λ x. (is_new c (grown_scope c x) ≡ false) × (scope_ungrown c (grown_scope c x) ≡ x))
      (λ i l. rw (grown-variable l) (not_new (λ e. omega arith) (omega arith), if-true _ _ (ltb i c.n) (lt→ltb i c.n l)))
      (λ e l. rw (edge-up e) (
        not_new (λ d. omega arith) (omega arith),
        if-false _ _ (ltb (c.n + 1 + e) c.n) (not_T (ltb (c.n + 1 + e) c.n) (λ b. let q = ltb→lt (c.n + 1 + e) c.n b in omega arith))
            ∙ omega arith,
      ))

module _ {c g : Case} {w₀ t : List ℤ} (h : Grown c g w₀ t) where
  grown-edge : (e : ℕ) → grown_scope c (c.n + e) ≡ g.n + e
  grown-edge e = edge-up c e ∙ omega (arith, h.variables)

  pub grown-tuple : {x k l : ℕ} → IsTuple c x k l → IsTuple g (grown_scope c x) k l
  grown-tuple = by-tuple c (λ x k l. IsTuple g (grown_scope c x) k l)
      (λ i k l p. rw (grown-variable c l) (variable-tuple g i k (omega (arith, h.variables)) (omega (arith, h.values))))
      (λ e k l m p q. rw (grown-edge e) (edge-tuple g e k l (omega (arith, h.edges)) (omega (arith, h.values)) (omega (arith, h.values))))

  -- ---- plans: the first n values of a plan of the grown case

  module _ (p : List ℕ) (assigned : T (is_assignment g p)) where
    pub plan_of : List ℕ
    plan_of = take c.n p

    long : length p ≡ g.n
    long = eqb→eq (length p) g.n (and_left (eqb (length p) g.n) (all (λ k. ltb k g.d) p) assigned)

    value-of : {j : ℕ} → j < c.n → value_of plan_of j ≡ value_of p j
    unfolding plan_of
    value-of {j} l = get_or-take c.n p j 0 l

    pub of-assigned : T (is_assignment c plan_of)
    unfolding plan_of
    of-assigned =
        let e : length plan_of ≡ c.n = length-take-le c.n p (omega (arith, long, h.variables)) in
        and_intro (eqb (length plan_of) c.n) (all (λ k. ltb k c.d) plan_of) ((eqb-iff (length plan_of) c.n).1 e)
        ((all_get_d (λ k. ltb k c.d) plan_of 0).1 (λ j l. rw (value-of {j = j} (omega arith)) (lt→ltb (value_of p j) c.d
        (omega (arith, h.values, value-used h.grown-shape p assigned j (omega (arith, h.variables)))))))

    used-of : {A : Type 0} (f : ℕ → ℕ → A) (x : ℕ) → x < scope_count c → at_used g p (grown_scope c x) f ≡ at_used c plan_of x f
    used-of f = by-scope c (λ x. at_used g p (grown_scope c x) f ≡ at_used c plan_of x f)
        (λ i l.
        ap (λ (x : ℕ). at_used g p x f) (grown-variable c l) ∙ used-variable g p f i (omega (arith, h.variables))
        ∙ ap (λ (k : ℕ). f k 0) (sym (value-of l)) ∙ sym (used-variable c plan_of f i l))
        (λ e l.
        ap (λ (x : ℕ). at_used g p x f) (grown-edge e) ∙ used-edge g p f e
        ∙ ap₂ f (ap (value_of p) (h.lower e l) ∙ sym (value-of (lower-below h.shape e l)))
        (ap (value_of p) (h.upper e l) ∙ sym (value-of (h.shape.below-n e l)))
        ∙ sym (used-edge c plan_of f e))

  -- ---- a sum over the scopes of the grown case is that over those before and those that are new

  pub new_sum : (ℕ → ℤ) → ℤ
  new_sum f = f c.n +ℤ Σ (λ e. f (g.n + e)) c.m (g.m - c.m)

  pub sum-grown : (f : ℕ → ℤ) → Σ f 0 (scope_count g) ≡ Σ (λ x. f (grown_scope c x)) 0 (scope_count c) +ℤ new_sum f
  unfolding new_sum
  sum-grown f =
      let k : ℕ → ℤ = λ x. f (grown_scope c x) in
      let v : ℕ → ℤ = λ e. f (g.n + e) in
      let d : g.n ≡ suc c.n = omega (arith, h.variables) in
      let m : g.m ≡ c.m + (g.m - c.m) = omega (arith, h.edges) in
      let a : Σ f 0 (scope_count g) ≡ Σ f 0 g.n +ℤ Σ v 0 g.m = split f g.n g.m in
      let b : Σ f 0 g.n ≡ Σ f 0 c.n +ℤ f c.n =
      ap (Σ f 0) d ∙ Σ-last f 0 c.n ∙ ap (λ (x : ℕ). Σ f 0 c.n +ℤ f x) (omega arith) in
      let e : Σ v 0 g.m ≡ Σ v 0 c.m +ℤ Σ v c.m (g.m - c.m) =
      ap (Σ v 0) m ∙ Σ-split v 0 c.m (g.m - c.m) ∙ ap (λ (x : ℕ). Σ v 0 c.m +ℤ Σ v x (g.m - c.m)) (omega arith) in
      let q : Σ k 0 (scope_count c) ≡ Σ k 0 c.n +ℤ Σ (λ e. k (c.n + e)) 0 c.m = split k c.n c.m in
      let r : Σ k 0 c.n ≡ Σ f 0 c.n = Σ-cong k f 0 c.n (λ x l u. ap f (grown-variable c (omega arith))) in
      let s : Σ (λ e. k (c.n + e)) 0 c.m ≡ Σ v 0 c.m = Σ-cong (λ e. k (c.n + e)) v 0 c.m (λ e l u. ap f (grown-edge e)) in
      a ▸ b ▸ e ▸ q ▸ r ▸ s ▸ simp flat (omega zs)
    where
      split : (f : ℕ → ℤ) (n m : ℕ) → Σ f 0 (n + m) ≡ Σ f 0 n +ℤ Σ (λ e. f (n + e)) 0 m
      split f n m = Σ-split f 0 n m ∙ ap (λ (x : ℕ). Σ f 0 n +ℤ Σ f x m) (omega arith) ∙ ap (λ (z : ℤ). Σ f 0 n +ℤ z) (Σ-shift f n m)

  -- what holds at the new variable's scope and at those of the new edges
  new-same : (f k : ℕ → ℤ) → f c.n ≡ k c.n → ((e : ℕ) → c.m ≤ e → e < g.m → f (g.n + e) ≡ k (g.n + e)) → new_sum f ≡ new_sum k
  unfolding new_sum
  new-same f k a b = ap₂ ◌+ℤ◌ a (Σ-cong (λ e. f (g.n + e)) (λ e. k (g.n + e)) c.m (g.m - c.m) (λ e l u. b e l (omega arith)))

  module _ (p : List ℕ) (assigned : T (is_assignment g p)) (u v : List ℤ)
      (same : (x k l : ℕ) → IsTuple c x k l → weight g u (grown_scope c x) k l ≡ weight c v x k l) where
    pub objective-grown : objective g u p ≡ objective c v (plan_of p assigned) +ℤ new_sum (λ y. at_used g p y (weight g u y))
    objective-grown =
        sum-grown (λ y. at_used g p y (weight g u y))
        ∙ ap (λ (z : ℤ). z +ℤ new_sum (λ y. at_used g p y (weight g u y)))
        (Σ-cong (λ x. at_used g p (grown_scope c x) (weight g u (grown_scope c x))) (λ x. at_used c (plan_of p assigned) x (weight c v x)) 0 (scope_count c)
        (λ x l m. let b : x < scope_count c = omega arith in
        used-of p assigned (weight g u (grown_scope c x)) x b ∙ at-used c (plan_of p assigned) (weight g u (grown_scope c x)) x
        ∙ same x _ _ (used-tuple h.shape (plan_of p assigned) (of-assigned p assigned) x b) ∙ sym (at-used c (plan_of p assigned) (weight c v x) x)))

  -- ---- the working weights, and what a plan comes to by them

  new-variable : is_new c c.n ≡ true
  new-variable = rw (is_true (eqb c.n c.n) ((eqb-iff c.n c.n).1 refl))

  new-edge : (e : ℕ) → c.m ≤ e → is_new c (g.n + e) ≡ true
  new-edge e l = is_true (is_new c (g.n + e)) (or_right (eqb (g.n + e) c.n) (leb (c.n + 1 + c.m) (g.n + e)) (le→leb (c.n + 1 + c.m) (g.n + e) (omega (arith, h.variables))))

  grown-of : {y k l : ℕ} → IsTuple g y k l → T (not (is_new c y)) → (x : ℕ) × IsTuple c x k l × (grown_scope c x ≡ y)
  grown-of = by-tuple g (λ y k l. T (not (is_new c y)) → (x : ℕ) × IsTuple c x k l × (grown_scope c x ≡ y))
      (λ j k a b n.
      let d : j ≢ c.n = λ e. T_not (is_new c j) n (true-is (is_new c j) (ap (is_new c) e ∙ new-variable)) in
      let o : j < c.n = ⊎_elim (λ t. ltb→lt j c.n t) (λ t. let q : c.n ≤ j = nltb→le j c.n t in absurd (d (omega (arith, h.variables))))
      (either (ltb j c.n)) in
      (j, variable-tuple c j k o (omega (arith, h.values)), grown-variable c o))
      (λ e k l a p q n.
      let o : e < c.m = ⊎_elim (λ t. ltb→lt e c.m t)
      (λ t. absurd (T_not (is_new c (g.n + e)) n (true-is (is_new c (g.n + e)) (new-edge e (nltb→le e c.m t))))) (either (ltb e c.m)) in
      (c.n + e, edge-tuple c e k l o (omega (arith, h.values)) (omega (arith, h.values)), grown-edge e))

  module _ (w : List ℤ) where
    abbrev after : List ℤ
    after = grown_table c g w (weight g t)

    pub after-old : (x k l : ℕ) → IsTuple c x k l → weight g after (grown_scope c x) k l ≡ weight c w x k l
    after-old x k l i =
        let (a, b) = old-scope c x i.scope in
        full-weight g (λ y k l. if is_new c y then weight g t y k l else weight c w (scope_ungrown c y) k l) w (grown-tuple i) ∙ rw (a, b)

    after-new : {y : ℕ} → is_new c y ≡ true → {k l : ℕ} → IsTuple g y k l → weight g after y k l ≡ weight g t y k l
    after-new {y} a i = full-weight g (λ y k l. if is_new c y then weight g t y k l else weight c w (scope_ungrown c y) k l) w i ∙ rw a

    -- barred just where the starting weights are
    pub after-bars : ((x k l : ℕ) → IsTuple c x k l → barred c w x k l ≡ barred c w₀ x k l)
        → (y k l : ℕ) → IsTuple g y k l → barred g after y k l ≡ barred g t y k l
    after-bars bars y k l i = ⊎_elim
        (λ b. ap is_barred (after-new (is_true (is_new c y) b) i))
        (λ b. let (x, j, e) = grown-of i b in
        subst (λ (y : ℕ). barred g after y k l ≡ barred g t y k l) e
        (ap is_barred (after-old x k l j) ∙ bars x k l j ∙ sym (ap is_barred (h.weights x k l j))))
        (either (is_new c y))

    -- "working total plus carry is at least its starting total"
    pub joined-kept : ((p : List ℕ) → T (is_lawful c w₀ p) → objective c w₀ p ≤ℤ (objective c w p +ℤ c.carry))
        → (p : List ℕ) → T (is_lawful g t p) → objective g t p ≤ℤ (objective g after p +ℤ g.carry)
    joined-kept kept p a =
        let (s, f) = (lawful-iff g t p).0 a in
        let q : List ℕ = plan_of p s in
        let b : T (is_lawful c w₀ q) = (lawful-iff c w₀ q).1 (
          of-assigned p s,
          λ x l.
              rw (
                at-used c q (barred c w₀ x) x,
                ← (ap is_barred (h.weights x _ _ (used-tuple h.shape q (of-assigned p s) x l))),
                ← (at-used c q (barred g t (grown_scope c x)) x),
                ← (used-of p s (barred g t (grown_scope c x)) x l),
              )
              (f (grown_scope c x) (grown-tuple (first-tuple c h.shape.some-value x l)).scope),
        ) in
        let e : new_sum (λ y. at_used g p y (weight g after y)) ≡ new_sum (λ y. at_used g p y (weight g t y)) =
        new-same (λ y. at_used g p y (weight g after y)) (λ y. at_used g p y (weight g t y)) (used-same p s new-variable (omega (arith, h.variables)))
        (λ e l u. used-same p s (new-edge e l) (omega arith)) in
        kept q b ▸ h.carry ▸ objective-grown p s t w₀ h.weights ▸ objective-grown p s after w after-old ▸ e ▸ simp flat (omega zs)
      where
        used-same : (p : List ℕ) → T (is_assignment g p) → {y : ℕ} → is_new c y ≡ true → y < scope_count g
            → at_used g p y (weight g after y) ≡ at_used g p y (weight g t y)
        used-same p s {y} a l =
            at-used g p (weight g after y) y ∙ after-new a (used-tuple h.grown-shape p s y l) ∙ sym (at-used g p (weight g t y) y)

    -- tables that calls take stay such
    pub joined-handed : {r : Rules} → Coherent r → BothHanded r c w₀ w → Handed r (starting_weight r) g t → BothHanded r g t after
    joined-handed {r} coherent b first =
        let bars = after-bars b.bars in
        let long = full-long g (λ y k l. if is_new c y then weight g t y k l else weight c w (scope_ungrown c y) k l) w
        (omega (arith, first.long, first.own-fits, b.now.long, ap (full_length r) h.values)) in
        record {
          first = first;
          now = record {
            variables-most = first.variables-most;
            values-most = first.values-most;
            edges_most = first.edges_most;
            long = long ∙ b.now.long ∙ ap (λ (d : ℕ). full_length r d) (sym h.values);
            own-fits = omega (arith, long, first.long, first.own-fits, b.now.long, ap (full_length r) h.values);
            carry-in = first.carry-in;
            shape = first.shape;
            apart = first.apart;
            in-range = λ y k l i. ⊎_elim
                (λ m. subst (λ (z : ℤ). T (working_weight r z)) (sym (after-new (is_true (is_new c y) m) i)) (working-weights coherent first y k l i))
                (λ m. let (x, j, e) = grown-of i m in
                subst (λ (y : ℕ). T (working_weight r (weight g after y k l))) e
                (subst (λ (z : ℤ). T (working_weight r z)) (sym (after-old x k l j)) (b.now.in-range x k l j)))
                (either (is_new c y));
            past = full-past g (λ y k l. if is_new c y then weight g t y k l else weight c w (scope_ungrown c y) k l) w;
            some-free = λ y l. subst (λ (bs : List Bool). T (not (all (λ b. b) bs))) (sym (each-cong g y l (bars y))) (first.some-free y l);
          };
          bars = bars;
        }
