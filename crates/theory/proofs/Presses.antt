-- A press lowers no lawful assignment's objective (Theorem 4 with δ = 1): an assignment that uses a lowered value uses a forbidden tuple too, or
-- its values would be a supported family. Assumes nothing.
use mathlib.Core.Path.{◌≡◌, sym, ap, ◌∙◌}
use mathlib.Core.Bool.{Bool, not, ◌&&◌}
use mathlib.Core.Logic.{◌⊎◌, inl, inr, ⊎_elim}
use mathlib.Core.List.{List}
use Prim.Native.Nat.{ℕ, ◌+◌, ◌<◌}
use native.Mathlib.Omega.{arith}
use lib.IntN.{ℤ, pos, neg_ℤ}
use lib.Dec.{T, T_not, not_T, eqb, eqb→eq, eqb_refl}
use lib.Signed.{◌≤ℤ◌}
use Rattle.integers.specs.Words.{any, all, below, is_in, ◌⇒◌}
use Rattle.integers.specs.Tests.{either, if-true, if-false, if-cases, imp_elim, and_left, and_right}
use Rattle.integers.specs.Linear.{flat, zs, ◌▸◌}
use Rattle.integers.specs.Lists.{any_at, any_of, all-at}
use Rattle.definitions.specs.declared.Case.{Case}
use Rattle.definitions.specs.Case.{values, scopes, scope_count, each_tuple, value_of, at_used, lower_end, upper_end, is_assignment, objective, is_lawful, barred}
use Rattle.definitions.specs.Consistency.{Family, Supported, Refuted, forbidden, allowed, refuted, all_refuted}
use Rattle.definitions.specs.Moves.{Difference, only_where, press_by, spared, press, moved}
use Rattle.definitions.specs.Replay.{all_barred}
use Rattle.definitions.proofs.Refutation.{refuted-sound}
use Rattle.theory.proofs.Shape.{Shape, lower-below, ends-below}
use Rattle.theory.proofs.Words.{sum-above}
use Rattle.theory.proofs.Totals.{objective_of, objective_of-one, used-variable, used-edge, objective_of-add}
use Rattle.theory.proofs.Totals.{objective-plus, value-used, used-tuple, at-used, first_used, second_used}
use Rattle.theory.proofs.Barred.{each_all, lawful-iff, spared-used}

all_refuted-sound : {c : Case} → Shape c → (w : List ℤ) (raised : List ℕ) (i : ℕ) (lowered : ℕ → Bool)
    → T (all_refuted c w (is_in raised) i lowered) → (k : ℕ) → k < c.d → T (lowered k) → Refuted c w (is_in raised) i k
all_refuted-sound {c} s w raised i lowered r k g t =
    refuted-sound c w (is_in raised) i k (ends-below s)
    (imp_elim (lowered k) (refuted c w (is_in raised) i k) (all-at (λ k. lowered k ⇒ refuted c w (is_in raised) i k) c.d r k g) t)

module _ {c : Case} (s : Shape c) (p : List ℕ) (assigned : T (is_assignment c p)) (w : List ℤ) (R : ℕ → Bool) where
  -- an assignment is a family
  abbrev alone : Family
  alone j v = eqb v (value_of p j)

  -- where all tuples that it uses are allowed
  pub used-supported : ((x : ℕ) → x < scope_count c → T (at_used c p x (allowed c w R x))) → (i : ℕ) → Supported c w R i (value_of p i) alone
  used-supported clear i = record {
    fixed = λ v h t. eqb→eq v (value_of p i) t;
    non-empty = λ j h. (value_of p j, value-used s p assigned j h, eqb_refl (value_of p j));
    allowed-only = λ j v h g t. rw (eqb→eq v (value_of p j) t) (rw (used-variable c p (allowed c w R j) j h) at (clear j (omega arith)));
    partner-above = λ e v h g t. (
      value_of p (upper_end c e),
      value-used s p assigned (upper_end c e) (s.below-n e h),
      eqb_refl (value_of p (upper_end c e)),
      rw (eqb→eq v (value_of p (lower_end c e)) t) (edge e h),
    );
    partner-below = λ e u h g t. (
      value_of p (lower_end c e),
      value-used s p assigned (lower_end c e) (lower-below s e h),
      eqb_refl (value_of p (lower_end c e)),
      rw (eqb→eq u (value_of p (upper_end c e)) t) (edge e h),
    );
  }
    where
      edge : (e : ℕ) → e < c.m → T (allowed c w R (c.n + e) (value_of p (lower_end c e)) (value_of p (upper_end c e)))
      edge e h = rw (used-edge c p (allowed c w R (c.n + e)) e) at (clear (c.n + e) (omega arith))

  -- so an assignment that uses a refuted value uses a forbidden tuple
  pub forbidden-used : (i : ℕ) → Refuted c w R i (value_of p i) → (x : ℕ) × (x < scope_count c) × T (at_used c p x (forbidden c w R x))
  forbidden-used i r = ⊎_elim
      (λ t. any_at test (scope_count c) t)
      (λ t. absurd (r.none-exists alone (used-supported (λ x h. rw (at-used c p (allowed c w R x) x)
      (not_T (forbidden c w R x (first_used c p x) (second_used c p x)) (λ u.
      T_not (any test (below (scope_count c))) t (any_of test (scope_count c) h (rw (at-used c p (forbidden c w R x) x) u))))) i)))
      (either (any test (below (scope_count c))))
    where
      test : ℕ → Bool
      test x = at_used c p x (forbidden c w R x)

  module _ (i : ℕ) (h : i < c.n) (lowered : ℕ → Bool) (refutes : (k : ℕ) → k < c.d → T (lowered k) → Refuted c w R i k) (a : ℤ) (least : pos 0 ≤ℤ a) where
    -- what the press takes from the value that is used, and what it gives to the tuple used in each scope
    down : Difference
    down x k l = only_where (eqb x i && lowered k) (neg_ℤ a)

    up : Difference
    up x k l = only_where (forbidden c w R x k l) a

    taken : objective_of c down p ≡ only_where (lowered (value_of p i)) (neg_ℤ a)
    unfolding down
    taken = objective_of-one c p (λ k l. lowered k) (neg_ℤ a) {y = i} (omega arith)
        ∙ ap (λ (b : Bool). only_where b (neg_ℤ a)) (used-variable c p (λ k l. lowered k) i h)

    given-at : (x : ℕ) → at_used c p x (up x) ≡ only_where (at_used c p x (forbidden c w R x)) a
    unfolding up
    given-at x = at-used c p (up x) x ∙ ap (λ (b : Bool). only_where b a) (sym (at-used c p (forbidden c w R x) x))

    some-given : (x : ℕ) → pos 0 ≤ℤ at_used c p x (up x)
    some-given x = rw (given-at x) (if-cases (λ z. pos 0 ≤ℤ z) (at_used c p x (forbidden c w R x)) a (pos 0) (λ t. least) (λ t. omega zs))

    given : (x : ℕ) → x < scope_count c → at_used c p x (up x) ≤ℤ objective_of c up p
    given x g = sum-above (λ x. at_used c p x (up x)) (scope_count c) g (λ x u. some-given x)

    pub press-lowers-none : pos 0 ≤ℤ objective_of c (press_by c w i lowered R a) p
    unfolding down up
    press-lowers-none = objective_of-add c p down up ▸ taken ▸ paid (either (lowered (value_of p i))) ▸ simp flat (omega zs)
      where
        paid : T (lowered (value_of p i)) ⊎ T (not (lowered (value_of p i))) → neg_ℤ (only_where (lowered (value_of p i)) (neg_ℤ a)) ≤ℤ objective_of c up p
        paid (inl t) =
            let (x, g, f) = forbidden-used i (refutes (value_of p i) (value-used s p assigned i h) t) in
            if-true (neg_ℤ a) (pos 0) (lowered (value_of p i)) t ▸ given x g ▸ given-at x ▸ if-true a (pos 0) (at_used c p x (forbidden c w R x)) f
            ▸ simp flat (omega zs)
        paid (inr t) = if-false (neg_ℤ a) (pos 0) (lowered (value_of p i)) t ▸ some-given i ▸ given i (omega arith) ▸ simp flat (omega zs)

-- the press of values that are all refuted, active or not
pub press-moves : {c : Case} → Shape c → (p : List ℕ) (w : List ℤ) → T (is_lawful c w p) → (i : ℕ) → i < c.n
    → (lowered : ℕ → Bool) (raised : List ℕ) → T (all_refuted c w (is_in raised) i lowered)
    → (a : ℤ) → pos 0 ≤ℤ a → objective c w p ≤ℤ objective c (moved c (press i lowered raised a) w) p
press-moves {c} s p w lawful i h lowered raised r a least =
    let assigned : T (is_assignment c p) = ((lawful-iff c w p).0 lawful).0 in
    objective-plus s p assigned (spared c w (press_by c w i lowered (is_in raised) a)) w
    ▸ spared-used c w p lawful (press_by c w i lowered (is_in raised) a)
    ▸ press-lowers-none s p assigned w (is_in raised) i h lowered (λ k g t. all_refuted-sound s w raised i lowered r k g t) a least
    ▸ simp flat (omega zs)

-- A void line's conditions leave no lawful assignment: its value of the variable would be one of the refuted ones, all others being barred, and
-- it would use no forbidden tuple, all being barred, so that its values were a supported family.
pub none-lawful : {c : Case} → Shape c → (p : List ℕ) (w : List ℤ) → T (is_lawful c w p) → (i : ℕ) → i < c.n
    → (lowered : ℕ → Bool) (raised : List ℕ) → T (all_refuted c w (is_in raised) i lowered) → T (all_barred c w i lowered (is_in raised)) → ⊥
none-lawful {c} s p w lawful i h lowered raised r b =
    let (x, g, f) = forbidden-used s p assigned w R i (all_refuted-sound s w raised i lowered r (value_of p i) (value-used s p assigned i h) is-lowered) in
    T_not (at_used c p x (barred c w x)) (free x g) (rw (at-used c p (barred c w x) x)
    (imp_elim (forbidden c w R x (first_used c p x) (second_used c p x)) (barred c w x (first_used c p x) (second_used c p x))
    ((each_all c (λ k l. forbidden c w R x k l ⇒ barred c w x k l) x g).0
    (all-at tuples (scope_count c) (and_right (all others (values c)) (all tuples (scopes c)) b) x g)
    (first_used c p x) (second_used c p x) (used-tuple s p assigned x g)) (rw (at-used c p (forbidden c w R x) x) at f)))
  where
    R : ℕ → Bool
    R = is_in raised

    assigned : T (is_assignment c p)
    assigned = ((lawful-iff c w p).0 lawful).0

    free : (x : ℕ) → x < scope_count c → T (not (at_used c p x (barred c w x)))
    free = ((lawful-iff c w p).0 lawful).1

    others : ℕ → Bool
    others k = not (lowered k) ⇒ barred c w i k 0

    tuples : ℕ → Bool
    tuples x = all (λ b. b) (each_tuple c x (λ k l. forbidden c w (is_in raised) x k l ⇒ barred c w x k l))

    is-lowered : T (lowered (value_of p i))
    is-lowered = ⊎_elim (λ t. t) (λ t. absurd (T_not (at_used c p i (barred c w i)) (free i (omega arith)) (rw (used-variable c p (barred c w i) i h)
        (imp_elim (not (lowered (value_of p i))) (barred c w i (value_of p i) 0)
        (all-at others c.d (and_left (all others (values c)) (all tuples (scopes c)) b) (value_of p i) (value-used s p assigned i h)) t))))
        (either (lowered (value_of p i)))
