-- On a table that was checked, with its greatest weights at hand, the answer is a void line's barring condition. Assumes nothing.
use mathlib.Core.Path.{◌≡◌, sym, subst, ◌∙◌}
use mathlib.Core.Bool.{Bool, not}
use mathlib.Core.Logic.{⊎_elim}
use mathlib.Core.List.{List}
use Prim.Native.Nat.{ℕ, ◌≤◌, ◌<◌}
use native.Mathlib.Omega.{arith}
use lib.IntN.{ℤ}
use lib.Dec.{T, T_not, not_T, eqb, eqb→eq, eqb_refl}
use lib.ListN.{length}
use borrow.Author.Tests.{le-ltb}
use Rattle.integers.specs.Words.{any, all, eq_z, ◌⇒◌}
use Rattle.integers.specs.Tests.{same_test, either, and_left, and_right, and_intro, or_left, or_right, or_cases, imp_intro, imp_elim}
use Rattle.integers.specs.Lists.{◌∈◌, any-in, all-at, all_of}
use Rattle.definitions.specs.declared.Case.{Case}
use Rattle.definitions.specs.Rules.{rules_of}
use Rattle.definitions.specs.Case.{values, scopes, scope_count, each_tuple, own_length, weight, active, is_barred, barred}
use Rattle.definitions.specs.Valid.{working_weight}
use Rattle.definitions.specs.Consistency.{forbidden}
use Rattle.definitions.specs.Moves.{active_values}
use Rattle.definitions.specs.Replay.{all_barred}
use Rattle.calls.specs.Calls.{is_raised}
use Rattle.theory.proofs.Words.{none_below}
use Rattle.theory.proofs.Places.{IsTuple, variable-tuple, tuple-in, in-tuples}
use Rattle.theory.proofs.Barred.{each_all}
use Rattle.theory.proofs.Validity.{Handed}
use Rattle.tables.specs.Scopes.{best_at, BestOf, scope_weights}
use Rattle.tables.proofs.Parts.{scope-part}
use Rattle.tables.proofs.Answered.{limits-true, scope-weights-known}
use Rattle.bars.specs.Bars.{is_open, is_asked, open_in, some_open, rest_barred}

module _ {c : Case} {w best : List ℤ} (h : Handed (rules_of c) (working_weight (rules_of c)) c w) (b : BestOf c w best) (raised : List ℕ) (i : ℕ) where
  own : own_length c ≤ length w
  own = let e = h.long in omega arith

  -- no weight of scope x is open just where every inactive tuple is barred
  closed-scope : (x : ℕ) → x < scope_count c → T (not (open_in (rules_of c) c w x (best_at best x)))
      → (k l : ℕ) → IsTuple c x k l → T (not (active c w x k l)) → T (barred c w x k l)
  closed-scope x g t k l u n = ⊎_elim (λ s. s) (λ s. absurd (T_not (open_in (rules_of c) c w x (best_at best x)) t
      ((any-in (is_open (best_at best x)) (scope_weights (rules_of c) c w x)).1 (
        weight c w x k l,
        subst (λ (s : List ℤ). weight c w x k l ∈ s) (scope-part c w own x g ∙ sym (scope-weights-known h x g)) (tuple-in c (weight c w x) u),
        and_intro (not (eq_z (weight c w x k l) (best_at best x))) (not (barred c w x k l)) (rw (b.holds x g) n) s,
      )))) (either (barred c w x k l))

  open-scope : (x : ℕ) → x < scope_count c → ((k l : ℕ) → IsTuple c x k l → T (not (active c w x k l)) → T (barred c w x k l))
      → T (not (open_in (rules_of c) c w x (best_at best x)))
  open-scope x g f = not_T (open_in (rules_of c) c w x (best_at best x)) (λ t.
      let (z, m, o) = (any-in (is_open (best_at best x)) (scope_weights (rules_of c) c w x)).0 t in
      let (k, l, u, e) = in-tuples c (weight c w x) x g (subst (λ (s : List ℤ). z ∈ s)
      (scope-weights-known h x g ∙ sym (scope-part c w own x g)) m) in
      T_not (is_barred z) (and_right (not (eq_z z (best_at best x))) (not (is_barred z)) o)
      (subst (λ (z : ℤ). T (is_barred z)) e (f k l u (subst (λ (a : ℤ). T (not (eq_z (weight c w x k l) a))) (b.holds x g)
      (subst (λ (z : ℤ). T (not (eq_z z (best_at best x)))) (sym e) (and_left (not (eq_z z (best_at best x))) (not (is_barred z)) o))))))

  pub rest-barred-is : scope_count c ≤ length raised → i < c.n
      → rest_barred (rules_of c) c w best raised i ≡ all_barred c w i (active_values c w i) (is_raised raised)
  unfolding rest_barred
  rest-barred-is room g =
      rw (limits-true h, le-ltb (length best) (scope_count c) b.enough, le-ltb (length raised) (scope_count c) room)
      (same_test (not (any test (scopes c))) (all_barred c w i (active_values c w i) (is_raised raised)) there back)
    where
      test : ℕ → Bool
      test x = some_open (rules_of c) c w best raised i x

      others : ℕ → Bool
      others k = not (active_values c w i k) ⇒ barred c w i k 0

      tuples : ℕ → Bool
      tuples x = all (λ b. b) (each_tuple c x (λ k l. forbidden c w (is_raised raised) x k l ⇒ barred c w x k l))

      -- a scope that is asked has no open weight
      shut : T (not (any test (scopes c))) → (x : ℕ) → x < scope_count c → T (is_asked raised i x) → T (not (open_in (rules_of c) c w x (best_at best x)))
      shut t x u a = not_T (open_in (rules_of c) c w x (best_at best x)) (λ o.
          T_not (test x) ((none_below test (scope_count c)).0 t x u) (and_intro (is_asked raised i x) (open_in (rules_of c) c w x (best_at best x)) a o))

      there : T (not (any test (scopes c))) → T (all_barred c w i (active_values c w i) (is_raised raised))
      there t = and_intro (all others (values c)) (all tuples (scopes c))
          (all_of others c.d (λ k u. imp_intro (not (active_values c w i k)) (barred c w i k 0) (closed-scope i (omega arith)
          (shut t i (omega arith) (or_left (eqb i i) (is_raised raised i) (eqb_refl i))) k 0 (variable-tuple c i k g u))))
          (all_of tuples (scope_count c) (λ x u. (each_all c (λ k l. forbidden c w (is_raised raised) x k l ⇒ barred c w x k l) x u).1 (λ k l v.
          imp_intro (forbidden c w (is_raised raised) x k l) (barred c w x k l) (λ f. closed-scope x u
          (shut t x u (or_right (eqb x i) (is_raised raised x) (and_left (is_raised raised x) (not (active c w x k l)) f))) k l v
          (and_right (is_raised raised x) (not (active c w x k l)) f)))))

      back : T (all_barred c w i (active_values c w i) (is_raised raised)) → T (not (any test (scopes c)))
      back t = (none_below test (scope_count c)).1 (λ x u. not_T (test x) (λ s.
          T_not (open_in (rules_of c) c w x (best_at best x)) (open-scope x u (λ k l v n. ⊎_elim
          (λ e. let d : x ≡ i = eqb→eq x i e in
          let z : l ≡ 0 = v.alone (rw d g) in
          rw (d, z) (imp_elim (not (active_values c w i k)) (barred c w i k 0)
          (all-at others c.d (and_left (all others (values c)) (all tuples (scopes c)) t) k v.one) (rw (d, z) at n)))
          (λ m. imp_elim (forbidden c w (is_raised raised) x k l) (barred c w x k l)
          ((each_all c (λ k l. forbidden c w (is_raised raised) x k l ⇒ barred c w x k l) x u).0
          (all-at tuples (scope_count c) (and_right (all others (values c)) (all tuples (scopes c)) t) x u) k l v)
          (and_intro (is_raised raised x) (not (active c w x k l)) m n))
          (or_cases (eqb x i) (is_raised raised x) (and_left (is_asked raised i x) (open_in (rules_of c) c w x (best_at best x)) s))))
          (and_right (is_asked raised i x) (open_in (rules_of c) c w x (best_at best x)) s)))
