-- The press after the check of what is handed over, with marks and greatest weights made for it. Assumes nothing.
use mathlib.Core.Path.{◌≡◌, refl, sym, ap, subst, ◌∙◌}
use mathlib.Core.Bool.{Bool, true, false, not, ◌&&◌, ◌||◌}
use mathlib.Core.List.{List, [], ◌∷◌}
use Prim.Native.Nat.{ℕ, ◌-◌, ◌≤◌, ◌<◌}
use native.Mathlib.Omega.{arith}
use lib.IntN.{ℤ, pos, neg_ℤ, ◌+ℤ◌}
use lib.Dec.{T, T_not, not_T, eqb, ltb, ltb→lt}
use lib.ListN.{length, get_or}
use Rattle.std.specs.Prelude.{if◌then◌else◌, Result, Ok, Err, ⊤}
use Rattle.std.specs.Result.{result_unwrap_or}
use Rattle.integers.specs.Words.{all, any, is_in, within}
use Rattle.integers.specs.Tests.{not-not-iff}
use Rattle.integers.specs.Lists.{all_in, any-in}
use Rattle.definitions.specs.declared.Case.{Case}
use Rattle.definitions.specs.declared.Refusal.{Refusal}
use Rattle.definitions.specs.declared.Refusal.TheVariants.{OutsideLimits, LeavesRange}
use Rattle.definitions.specs.Rules.{rules_of}
use Rattle.definitions.specs.Refusals.{Test, ◌when◌, first_refusal}
use Rattle.definitions.specs.Answers.{outcome_of, unless_refused}
use Rattle.definitions.specs.Case.{scope_count, active, barred}
use Rattle.definitions.specs.Valid.{working_weight, within_limits, handed_over}
use Rattle.definitions.specs.Moves.{spared, plus, only_where, press_by, active_values, active_press, moved, press_amount, active_refuted, leaves_range}
use Rattle.calls.specs.Calls.{is_rising, move_call, press_out, press_call, is_raised}
use Rattle.theory.proofs.Places.{plus-cong}
use Rattle.theory.proofs.Validity.{Handed}
use Rattle.tables.specs.Scopes.{BestOf, greatest_call}
use Rattle.tables.proofs.Best.{greatest-known}
use Rattle.arcs.specs.Best.{values_unsupported_answer}
use Rattle.arcs.proofs.Best.{values-unsupported-is-refuted}
use Rattle.changes.specs.Kept.{MarksOf, lowering_out, best_values, lower_and_raise_call}
use Rattle.changes.proofs.LoweringLaws.{lower-and-raise-is-press}
use Rattle.changes.proofs.ValueLaws.{best-values-active}
use Rattle.moves.specs.Marks.{marked, asked_of_raised, asked_of_press}
use Rattle.moves.proofs.Answers.{refused-answer, refused-table, next-answer, next-table}
use Rattle.moves.proofs.MarkLaws.{marked-long, raised_is, marks-inside, marks-refute}

-- ---- the arguments, by what is asked of the variable and the amount first
module _ (c : Case) (raised : List ℕ) (i : ℕ) (a : ℤ) where
  pub first_out : lowering_out (rules_of c) c i a ≡ true → true ≡ press_out (rules_of c) c i raised a
  first_out e = go (not (ltb i c.n)) (not (within 1 (scope_count c - 1) (length raised))) (any (λ x. not (ltb x (scope_count c))) raised)
      (not (press_amount (rules_of c) a)) e
    where
      go : (p q r s : Bool) → (p || s) ≡ true → true ≡ (p || q || r || s)
      go true q r s e = refl
      go false true r s e = refl
      go false false true s e = refl
      go false false false s e = sym e

  module _ (e : lowering_out (rules_of c) c i a ≡ false) where
    pub count-out : within 1 (scope_count c - 1) (length raised) ≡ false → true ≡ press_out (rules_of c) c i raised a
    count-out d = rw d (go (not (ltb i c.n)) (any (λ x. not (ltb x (scope_count c))) raised) (not (press_amount (rules_of c) a)))
      where
        go : (p r s : Bool) → true ≡ (p || true || r || s)
        go true r s = refl
        go false r s = refl

    pub scopes-out : within 1 (scope_count c - 1) (length raised) ≡ true → any (λ x. not (ltb x (scope_count c))) raised ≡ press_out (rules_of c) c i raised a
    scopes-out d = rw d (go (not (ltb i c.n)) (any (λ x. not (ltb x (scope_count c))) raised) (not (press_amount (rules_of c) a)) e)
      where
        go : (p r s : Bool) → (p || s) ≡ false → r ≡ (p || false || r || s)
        go true r s e = cc
        go false true s e = refl
        go false false s e = sym e

-- ---- the call that checks: number 11 is left
module _ (c : Case) (w : List ℤ) (i : ℕ) (raised : List ℕ) (a : ℤ) where
  pub range-left : active_refuted c w i raised ≡ true
      → first_refusal (asked_of_raised (rules_of c) c w i raised a) ≡ first_refusal
      (LeavesRange when (leaves_range (rules_of c) c w (moved c (active_press c w i raised a) w)) ∷ [])
  range-left u = rw u

  pub raised-left : is_rising raised ≡ true → is_in raised i ≡ false
      → first_refusal (asked_of_press (rules_of c) c w i raised a) ≡ first_refusal (asked_of_raised (rules_of c) c w i raised a)
  raised-left p q = rw (p, q)

  -- marks for the raised scopes
  pub press-marked : (marks : List ℕ) → ((x : ℕ) → is_raised marks x ≡ is_in raised x)
      → plus c (spared c w (press_by c w i (active_values c w i) (is_raised marks) a)) w ≡ moved c (active_press c w i raised a) w
  press-marked marks same =
      plus-cong c (spared c w (press_by c w i (active_values c w i) (is_raised marks) a)) w (spared c w (press_by c w i (active_values c w i) (is_in raised) a))
      (λ x k l t. ap (λ (b : Bool). if barred c w x k l then pos 0 else
      only_where (eqb x i && active_values c w i k) (neg_ℤ a) +ℤ only_where (b && not (active c w x k l)) a) (same x))

module _ (c : Case) (w : List ℤ) (i : ℕ) (raised : List ℕ) (a : ℤ) where
  abbrev asked : List Test
  asked = handed_over (rules_of c) (working_weight (rules_of c)) c w false (press_out (rules_of c) c i raised a)

  pub press-refused : {x : Refusal} → Err x ≡ outcome_of (first_refusal asked)
      → Err x ≡ (press_call (rules_of c) c w i raised a).answer × (w ≡ (press_call (rules_of c) c w i raised a).table)
  unfolding press_call
  press-refused d = (
    refused-answer (rules_of c) c w (active_press c w i raised a) asked (asked_of_press (rules_of c) c w i raised a) d,
    refused-table (rules_of c) c w
        (active_press c w i raised a) asked (asked_of_press (rules_of c) c w i raised a) d,
  )

  pub press-next : Ok tt ≡ outcome_of (first_refusal asked)
      → ((move_call (rules_of c) c w (active_press c w i raised a) (asked_of_press (rules_of c) c w i raised a)).answer ≡ (press_call (rules_of c) c w i raised
      a).answer)
      × ((move_call (rules_of c) c w (active_press c w i raised a) (asked_of_press (rules_of c) c w i raised a)).table ≡ (press_call (rules_of c) c w i raised a).table)
  unfolding press_call
  press-next d = (
    next-answer (rules_of c) c w (active_press c w i raised a) asked (asked_of_press (rules_of c) c w i raised a) d,
    next-table (rules_of c) c w
        (active_press c w i raised a) asked (asked_of_press (rules_of c) c w i raised a) d,
  )

  pub outside-limits : within_limits (rules_of c) c.n c.d c.m ≡ false → Err OutsideLimits ≡ outcome_of (first_refusal asked)
  outside-limits e = rw e

  -- arguments that are not out
  pub press-in : T (not (press_out (rules_of c) c i raised a)) → ((i < c.n) × T (all (λ x. ltb x (scope_count c)) raised)) × T (press_amount (rules_of c) a)
  press-in t =
      let s = none_out (not (ltb i c.n)) (not (within 1 (scope_count c - 1) (length raised))) (any (λ x. not (ltb x (scope_count c))) raised)
      (not (press_amount (rules_of c) a)) t in (
        (
          ltb→lt i c.n ((not-not-iff (ltb i c.n)).0 s.0),
          (all_in (λ x. ltb x (scope_count c)) raised).1 (λ x m. (not-not-iff (ltb x (scope_count c))).0 (not_T (not (ltb x (scope_count c))) (λ u.
              T_not (any (λ x. not (ltb x (scope_count c))) raised) s.1 ((any-in (λ x. not (ltb x (scope_count c))) raised).1 (x, m, u))))),
        ),
        (not-not-iff (press_amount (rules_of c) a)).0 s.2,
      )
    where
      none_out : (p q r s : Bool) → T (not (p || q || r || s)) → T (not p) × T (not r) × T (not s)
      none_out false false false false t = (tt, tt, tt)
      none_out false false false true t = absurd t
      none_out false false true s t = absurd t
      none_out false true r s t = absurd t
      none_out true q r s t = absurd t

-- ---- the press with marks and greatest weights made for it
module _ {c : Case} {w : List ℤ} (h : Handed (rules_of c) (working_weight (rules_of c)) c w) (i : ℕ) (raised : List ℕ) (a : ℤ)
    (variable : i < c.n) (inside : T (all (λ x. ltb x (scope_count c)) raised)) (amount : T (press_amount (rules_of c) a))
    (zeros : List ℕ) (clear : (y : ℕ) → get_or zeros y 0 ≡ 0) (room : scope_count c ≤ length zeros) (out : List ℤ) (space : scope_count c ≤ length out) where
  module _ {marks : List ℕ} {best : List ℤ} (e : marks ≡ marked zeros raised) (d : best ≡ (greatest_call (rules_of c) c w out).best) where
    pub best-made : BestOf c w best
    best-made = subst (λ (l : List ℤ). BestOf c w l) (sym d) (greatest-known out h space).1

    marks-long : scope_count c ≤ length marks
    marks-long = omega (arith, ap length e, marked-long raised zeros)

    marks-are : (x : ℕ) → is_raised marks x ≡ is_in raised x
    marks-are x = ap (λ (l : List ℕ). is_raised l x) e ∙ raised_is zeros raised (marks-inside raised (scope_count c) (length zeros) room inside) clear x

    module _ {values : ℕ} (v : values ≡ best_values (rules_of c) c w best i) where
      values-active : MarksOf c (active_values c w i) values
      values-active = subst (λ (s : ℕ). MarksOf c (active_values c w i) s) (sym v) (best-values-active h best-made i variable)

      -- what the search for families answers
      pub press-refuted : c.m ≤ length c.lower → c.m ≤ length c.upper
          → result_unwrap_or (values_unsupported_answer (rules_of c) c w best marks i values) false ≡ active_refuted c w i raised
      press-refuted lowers uppers =
          ap (λ (r : Result Bool Refusal). result_unwrap_or r false) (values-unsupported-is-refuted c w h best
          best-made marks marks-long lowers uppers (is_raised marks) (λ x u. refl) i variable values
          (active_values c w i) values-active)
          ∙ marks-refute c w i marks raised marks-are

      pub press-raised-is : active_refuted c w i raised ≡ true → {o : Result ⊤ Refusal} {t : List ℤ}
          → o ≡ (lower_and_raise_call (rules_of c) c w best marks i values a).answer → t ≡ (lower_and_raise_call (rules_of c) c w best marks i values a).table
          → (o ≡ (move_call (rules_of c) c w (active_press c w i raised a) (asked_of_raised (rules_of c) c w i raised a)).answer)
          × (t ≡ (move_call (rules_of c) c w (active_press c w i raised a) (asked_of_raised (rules_of c) c w i raised a)).table)
      press-raised-is u p q =
          let k = lower-and-raise-is-press h best-made marks i values (active_values c w i) values-active a marks-long variable amount in
          let g = press-marked c w i raised a marks marks-are in
          let l = range-left c w i raised a u in (
            p ∙ k.0 ∙ ap (λ (v : List ℤ). outcome_of (first_refusal (LeavesRange when (leaves_range (rules_of c) c w v) ∷ []))) g ∙ ap outcome_of (sym l),
            q ∙ k.1 ∙ ap (λ (v : List ℤ). unless_refused (first_refusal (LeavesRange when (leaves_range (rules_of c) c w v) ∷ [])) v w) g
                ∙ ap (λ o. unless_refused o (moved c (active_press c w i raised a) w) w) (sym l),
          )
