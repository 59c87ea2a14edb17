-- Weights changed on a table that was checked, with the greatest weights kept beside it: whether a weight leaves its range, and that `best` stays right.
-- Assumes nothing.
use mathlib.Core.Path.{◌≡◌, refl, sym, ap, ap₂, subst, ◌∙◌}
use mathlib.Core.Bool.{Bool, true, false, not, ◌||◌}
use mathlib.Core.Logic.{◌↔◌, ◌⊎◌, inl, inr, ⊎_elim}
use mathlib.Core.List.{List, [], ◌∷◌, map}
use Prim.Native.Nat.{ℕ, ◌≤◌, ◌<◌}
use native.Mathlib.Omega.{arith}
use lib.IntN.{ℤ, pos}
use lib.Dec.{T, eqb, ltb, eqb→eq, nltb→le}
use lib.ListN.{length, get_or, set, length-set}
use lib.Seq.{get_or-set_same, get_or-set_other}
use borrow.Author.Tests.{eq-eqb}
use Rattle.std.specs.Prelude.{if◌then◌else◌, Result, Ok, Err, Option, Some, None, ⊤}
use Rattle.integers.specs.Words.{◌⇒◌, below, all}
use Rattle.integers.specs.Tests.{either, imp_intro, imp_elim, same_test, if-true, if-false, or_left, or_right, not-or-iff, not-not-iff, not-eqb-iff, false-is}
use Rattle.integers.specs.Lists.{all_in, all-at, all_of}
use Rattle.definitions.specs.declared.Case.{Case}
use Rattle.definitions.specs.declared.Refusal.{Refusal}
use Rattle.definitions.specs.declared.Refusal.TheVariants.{OutsideLimits, WrongLength, OutOfRange, LeavesRange}
use Rattle.definitions.specs.Rules.{Rules, rules_of}
use Rattle.definitions.specs.Refusals.{◌when◌, first_refusal}
use Rattle.definitions.specs.Answers.{outcome_of, unless_refused}
use Rattle.definitions.specs.Case.{scope_count, each_tuple, own_length, lent_length, weight, greatest}
use Rattle.definitions.specs.Valid.{working_weight, within_limits}
use Rattle.definitions.specs.Moves.{Difference, spared, plus, keeps_range, leaves_range}
use Rattle.theory.proofs.Places.{IsTuple, tuple-in, in-tuples, weight-plus, plus-cong}
use Rattle.theory.proofs.Barred.{stays-in-range}
use Rattle.theory.proofs.Validity.{Handed}
use Rattle.tables.specs.Scopes.{best_at, BestOf, written_over}
use Rattle.tables.proofs.Answered.{limits-true}
use Rattle.tables.proofs.Best.{over-length, over-at, over-is}
use Rattle.changes.specs.Spaced.{sparing, stays_with}
use Rattle.changes.specs.Kept.{Change, table_after, stays_working, best_after, KeptCall, kept_call, kept_tests, Gives, KeptIs}
use Rattle.changes.proofs.SpacedLaws.{stays-is, sparing-none, with_none}
use Rattle.changes.proofs.ScopeLaws.{same-greatest}

module _ (r : Rules) (c : Case) (w : List ℤ) (m : Change) where
  abbrev in_range : ℕ → ℕ → ℕ → Bool
  in_range x k l = stays_with r (weight c w x k l) (m.adds x k l)

  abbrev tested : ℕ → ℕ → ℕ → Bool
  tested x k l = m.touches x k l ⇒ in_range x k l

  pub stays-iff : T (stays_working r c w m) ↔ ((x k l : ℕ) → IsTuple c x k l → T (m.touches x k l) → T (stays_with r (weight c w x k l) (m.adds x k l)))
  stays-iff = (
    λ s x k l t u. imp_elim (m.touches x k l) (in_range x k l)
        ((all_in (λ b. b) (each_tuple c x (tested x))).0 (all-at (λ x. _) (scope_count c) s x t.scope) _ (tuple-in c (tested x) t)) u,
    λ f. all_of (λ x. _) (scope_count c) (λ x h. (all_in (λ b. b) (each_tuple c x (tested x))).1 (λ b i.
        let (k, l, t, e) = in-tuples c (tested x) x h i in
        subst (λ (b : Bool). T b) e (imp_intro (m.touches x k l) (in_range x k l) (f x k l t)))),
  )

  -- nothing is added elsewhere, and the weights are working weights
  module _ (working : (x k l : ℕ) → IsTuple c x k l → T (working_weight r (weight c w x k l)))
      (still : (x k l : ℕ) → IsTuple c x k l → T (not (m.touches x k l)) → m.adds x k l ≡ pos 0) where
    pub leaves-is : not (stays_working r c w m) ≡ leaves_range r c w (table_after c w m)
    leaves-is = ap not (same_test (stays_working r c w m) all_keep
        (λ s. (not-not-iff all_keep).0 ((stays-in-range c r w (table_after c w m)).1 (λ x k l t. keeps x k l (weight-plus c (spared c w m.adds) w t) (⊎_elim
        (λ u. subst T (sym (stays-is r (weight c w x k l) (m.adds x k l))) (stays-iff.0 s x k l t u))
        (λ u. keeps x k l (with_none (weight c w x k l) (m.adds x k l) (still x k l t u)) (working x k l t))
        (either (m.touches x k l))))))
        (λ s. stays-iff.1 (λ x k l t u. subst T (stays-is r (weight c w x k l) (m.adds x k l))
        (keeps x k l (sym (weight-plus c (spared c w m.adds) w t)) ((stays-in-range c r w (table_after c w m)).0 ((not-not-iff all_keep).1 s) x k l t)))))
      where
        all_keep : Bool
        all_keep = all (λ p. keeps_range r (get_or w p (pos 0)) (get_or (table_after c w m) p (pos 0))) (below (own_length c))

        keeps : (x k l : ℕ) {z y : ℤ} → z ≡ y → T (keeps_range r (weight c w x k l) y) → T (keeps_range r (weight c w x k l) z)
        keeps x k l e = subst (λ (z : ℤ). T (keeps_range r (weight c w x k l) z)) (sym e)

-- the numbers kept are the greatest weights after the move
module _ (c : Case) (w best : List ℤ) (m : Change) (b : BestOf c w best)
    (still : (x k l : ℕ) → IsTuple c x k l → T (not (m.in_scope x)) → m.adds x k l ≡ pos 0) where
  pub best-kept : BestOf c (table_after c w m) (best_after c w best m)
  best-kept =
      let f : ℕ → ℤ = λ x. if m.in_scope x then greatest c (table_after c w m) x else best_at best x in
      record {
        enough = omega (arith, b.enough, over-length f (scope_count c) best b.enough);
        holds = λ x h. over-at f (scope_count c) best b.enough x h ∙ ⊎_elim
            (λ t. if-true _ _ (m.in_scope x) t)
            (λ t. if-false _ _ (m.in_scope x) t ∙ b.holds x h ∙ sym (same-greatest c (spared c w m.adds) w x h
            (λ k l u. ap (sparing (weight c w x k l)) (still x k l u t) ∙ sparing-none (weight c w x k l))))
            (either (m.in_scope x));
      }

-- two numbers written anew
module _ (f : ℕ → ℤ) (best : List ℤ) (a b s : ℕ) (room : s ≤ length best) (p : a < s) (q : b < s) where
  one : List ℤ
  one = set best a (f a)

  abbrev kept : ℕ → ℤ
  kept x = if (eqb x a || eqb x b) then f x else best_at best x

  two_at : (x : ℕ) → T (eqb x a) ⊎ T (not (eqb x a)) → T (eqb x b) ⊎ T (not (eqb x b)) → best_at (set one b (f b)) x ≡ kept x
  unfolding one
  two_at x d (inl u) =
      let e : x ≡ b = eqb→eq x b u in
      ap (best_at (set one b (f b))) e ∙ get_or-set_same one b (f b) (pos 0) (omega (arith, length-set best a (f a))) ∙ ap f (sym e)
      ∙ sym (if-true _ _ (eqb x a || eqb x b) (or_right (eqb x a) (eqb x b) u))
  two_at x (inl t) (inr u) =
      let e : x ≡ a = eqb→eq x a t in
      get_or-set_other one b x (f b) (pos 0) ((not-eqb-iff x b).0 u) ∙ ap (best_at one) e ∙ get_or-set_same best a (f a) (pos 0) (omega arith) ∙ ap f (sym e)
      ∙ sym (if-true _ _ (eqb x a || eqb x b) (or_left (eqb x a) (eqb x b) t))
  two_at x (inr t) (inr u) =
      get_or-set_other one b x (f b) (pos 0) ((not-eqb-iff x b).0 u) ∙ get_or-set_other best a x (f a) (pos 0) ((not-eqb-iff x a).0 t)
      ∙ sym (if-false _ _ (eqb x a || eqb x b) ((not-or-iff (eqb x a) (eqb x b)).1 (t, u)))

  pub two-kept : set (set best a (f a)) b (f b) ≡ written_over (map kept (below s)) best
  unfolding one
  two-kept = over-is kept s best room (set one b (f b)) (length-set one b (f b) ∙ length-set best a (f a))
      (λ x h. two_at x (either (eqb x a)) (either (eqb x b)))
      (λ x h. get_or-set_other one b x (f b) (pos 0) (λ e. omega arith) ∙ get_or-set_other best a x (f a) (pos 0) (λ e. omega arith))

-- ---- a call, by what was asked
module _ (c : Case) (w best : List ℤ) (m : Change) (wrong out : Bool) where
  abbrev pub call : KeptCall
  call = kept_call c w best m (first_refusal (kept_tests (rules_of c) c w m wrong out))

  pub kept-limits-refused : within_limits (rules_of c) c.n c.d c.m ≡ false → Gives call (Err OutsideLimits) w best
  kept-limits-refused e = (rw e, rw e, rw e)

  module _ (e : within_limits (rules_of c) c.n c.d c.m ≡ true) where
    pub wrong-length : (not (eqb (length w) (lent_length (rules_of c) c)) || wrong) ≡ true → Gives call (Err WrongLength) w best
    wrong-length d = (rw (e, d), rw (e, d), rw (e, d))

    module _ (d : (not (eqb (length w) (lent_length (rules_of c) c)) || wrong) ≡ false) where
      pub out_of_range : out ≡ true → Gives call (Err OutOfRange) w best
      out_of_range f = (rw (e, d, f), rw (e, d, f), rw (e, d, f))

      pub in_order : out ≡ false → first_refusal (kept_tests (rules_of c) c w m wrong out) ≡ first_refusal (LeavesRange when (not (stays_working (rules_of c) c w m)) ∷ [])
      in_order f = rw (e, d, f)

      pub call_next : out ≡ false → {o : Result ⊤ Refusal} {t b : List ℤ} → KeptIs c w best m (stays_working (rules_of c) c w m) o t b → Gives call o t b
      call_next f (p, q, s) = let g = in_order f in (
        p ∙ ap outcome_of (sym g),
        q ∙ ap (λ x. unless_refused x (table_after c w m) w) (sym g),
        s ∙ ap (λ x. unless_refused x (best_after c w best m) best) (sym g),
      )

-- lengths that are not wrong
pub kept-lengths-right : (c : Case) (w best : List ℤ) → (not (eqb (length w) (lent_length (rules_of c) c)) || ltb (length best) (scope_count c)) ≡ false
    → (length w ≡ lent_length (rules_of c) c) × (scope_count c ≤ length best)
kept-lengths-right c w best e =
    let (s, t) = (not-or-iff (not (eqb (length w) (lent_length (rules_of c) c))) (ltb (length best) (scope_count c))).0 (false-is _ e) in
    (eqb→eq (length w) (lent_length (rules_of c) c) ((not-not-iff (eqb (length w) (lent_length (rules_of c) c))).0 s), nltb→le (length best) (scope_count c) t)

pub or-left-three : (a b c : Bool) → (a || b) ≡ true → (a || (b || c)) ≡ true
or-left-three true b c e = refl
or-left-three false true c e = refl
or-left-three false false c e = cc

pub or-three : (a b c d : Bool) → (a || b) ≡ false → c ≡ d → (a || (b || c)) ≡ d
or-three true b c d e f = cc
or-three false true c d e f = cc
or-three false false c d e f = f

-- a move that stays, and one that does not
module _ (c : Case) (w best : List ℤ) (m : Change) (b : Bool) where
  pub kept-left : b ≡ false → KeptIs c w best m b (Err LeavesRange) w best
  kept-left e = (rw e, rw e, rw e)

  -- the answer where all that changes stays in the range, or not
  abbrev stays_or_not : Bool → Result ⊤ Refusal
  stays_or_not b = if b then Ok tt else Err LeavesRange

  pub kept-refused : {x : Refusal} {t : List ℤ} → Err x ≡ stays_or_not b
      → t ≡ (if b then table_after c w m else w)
      → KeptIs c w best m b (Err x) t best
  kept-refused {x} {t} = go b
    where
      go : (b : Bool) → Err x ≡ stays_or_not b → t ≡ (if b then table_after c w m else w)
          → KeptIs c w best m b (Err x) t best
      go true e d = absurd (let z : ◌≡◌ {A = ℕ} 0 1 = cc in omega arith)
      go false e d = (e, d, refl)

  pub kept-done : {t u : List ℤ} → Ok tt ≡ stays_or_not b → t ≡ (if b then table_after c w m else w)
      → (t ≡ table_after c w m → u ≡ best_after c w best m) → KeptIs c w best m b (Ok tt) t u
  kept-done {t} {u} = go b
    where
      go : (b : Bool) → Ok tt ≡ stays_or_not b → t ≡ (if b then table_after c w m else w)
          → (t ≡ table_after c w m → u ≡ best_after c w best m) → KeptIs c w best m b (Ok tt) t u
      go true e d f = (refl, d, f d)
      go false e d f = absurd (let z : ◌≡◌ {A = ℕ} 0 1 = cc in omega arith)

  pub kept-made : b ≡ true → {t u : List ℤ} → t ≡ table_after c w m → u ≡ best_after c w best m → KeptIs c w best m b (Ok tt) t u
  kept-made e p q = (rw e, rw e p, rw e q)

-- ---- the call on a case and a table that were checked, where `best` holds the greatest weights
module _ {c : Case} {w best : List ℤ} (h : Handed (rules_of c) (working_weight (rules_of c)) c w) (b : BestOf c w best) (m : Change)
    (still : (x k l : ℕ) → IsTuple c x k l → T (not (m.touches x k l)) → m.adds x k l ≡ pos 0)
    (off : (x k l : ℕ) → IsTuple c x k l → T (not (m.in_scope x)) → m.adds x k l ≡ pos 0)
    (δ : Difference) (same : (x k l : ℕ) → IsTuple c x k l → m.adds x k l ≡ δ x k l) (wrong out : Bool) (right : wrong ≡ false) (inside : out ≡ false) where
  after : table_after c w m ≡ plus c (spared c w δ) w
  after = plus-cong c (spared c w m.adds) w (spared c w δ) (λ x k l t. ap (sparing (weight c w x k l)) (same x k l t))

  abbrev leaves : Option Refusal
  leaves = first_refusal (LeavesRange when (leaves_range (rules_of c) c w (plus c (spared c w δ) w)) ∷ [])

  pub left-to-ask : first_refusal (kept_tests (rules_of c) c w m wrong out) ≡ leaves
  left-to-ask =
      in_order c w best m wrong out (limits-true h) (rw (eq-eqb (length w) (lent_length (rules_of c) c) h.long, right)) inside
      ∙ ap (λ (b : Bool). first_refusal (LeavesRange when b ∷ []))
      (leaves-is (rules_of c) c w m h.in-range still ∙ ap (leaves_range (rules_of c) c w) after)

  pub call-answer : (call c w best m wrong out).answer ≡ outcome_of leaves
  call-answer = ap outcome_of left-to-ask

  pub call-table : (call c w best m wrong out).table ≡ unless_refused leaves (plus c (spared c w δ) w) w
  call-table = ap₂ (λ (o : Option Refusal) (t : List ℤ). unless_refused o t w) left-to-ask after

  pub call-best : BestOf c (call c w best m wrong out).table (call c w best m wrong out).best
  call-best = go (first_refusal (kept_tests (rules_of c) c w m wrong out))
    where
      go : (o : Option Refusal) → BestOf c (unless_refused o (table_after c w m) w) (unless_refused o (best_after c w best m) best)
      go None = best-kept c w best m b off
      go (Some x) = b
