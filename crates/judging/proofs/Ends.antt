-- The numbers where the input ends, beside the replay's end. Assumes nothing.
use Rattle.std.specs.Prelude.{Result, Ok, Err, Option, Some, None, ⊤}
use Rattle.definitions.specs.declared.RefusedAt.{RefusedAt}
use mathlib.Core.Path.{◌≡◌, refl, sym, ap, ◌∙◌}
use mathlib.Core.Bool.{Bool, true, false, not, ◌||◌, or-true, or-false}
use mathlib.Core.Logic.{◌↔◌}
use mathlib.Core.List.{List, [], ◌∷◌, ◌++◌}
use Prim.Native.Nat.{ℕ}
use native.Mathlib.Omega.{arith}
use lib.IntN.{ℤ}
use lib.Dec.{T, eqb, ltb}
use lib.ListN.{length}
use Rattle.integers.specs.Words.{any, below}
use Rattle.integers.specs.Options.{none-some}
use Rattle.definitions.specs.declared.Case.{Case}
use Rattle.definitions.specs.declared.Refusal.{Refusal}
use Rattle.definitions.specs.declared.Refusal.TheVariants.{OutsideLimits, WrongLength, OutOfRange, EndsNotAscending, EdgeRepeated, CutShort}
use Rattle.definitions.specs.Rules.{Rules, rules_of}
use Rattle.definitions.specs.Refusals.{Test, ◌when◌, first_refusal}
use Rattle.definitions.specs.Answers.{outcome_of}
use Rattle.definitions.specs.Case.{lent_length, lower_end, upper_end}
use Rattle.definitions.specs.Valid.{working_weight, carry_out, within_limits, some_edge, end_outside, same_ends, weight_test, scope_test, handed_over}
use Rattle.definitions.specs.declared.Judgement.{Judgement}
use Rattle.theory.proofs.Validity.{Handed, handed}
use Rattle.theory.proofs.Replays.{none-iff}
use Rattle.checker.specs.declared.Replay.{Replay}
use Rattle.checker.specs.Checker.{is_short, record_out, ending_tests, end_standing, end_replay}
use Rattle.checker_promise.proofs.Folds.{handed-unrefused}
use Rattle.checker_promise.proofs.Logs.{log_judged}
use Rattle.tables.proofs.Order.{outcome-done, outcome-refused, first_next, first_stops}
use Rattle.judging.specs.Judging.{end_judged, finish_tests, finish_standing}

-- ---- the tests by what each says: the limits, the length, the record, the carry or an end out of range, 6, 7, and those that follow, us; the end's, with 14

abbrev lent : Bool → Bool → Bool → Bool → Bool → List Test → List Test
lent l n k x y us = OutsideLimits when l ∷ WrongLength when n ∷ OutOfRange when k ∷ EndsNotAscending when x ∷ EdgeRepeated when y ∷ us

abbrev short : Bool → List Test
short z = CutShort when z ∷ []

abbrev ended : Bool → Bool → Bool → Bool → Bool → List Test
ended l k x y z = OutsideLimits when l ∷ OutOfRange when k ∷ EndsNotAscending when x ∷ EdgeRepeated when y ∷ short z

-- neither 6, 7 nor 14 is 5
later-not : (x y z : Bool) → outcome_of (first_refusal (EndsNotAscending when x ∷ EdgeRepeated when y ∷ short z)) ≡ Err OutOfRange → ⊥
later-not true y z e = let z : ◌≡◌ {A = ℕ} 0 1 = cc in omega arith
later-not false true z e = let z : ◌≡◌ {A = ℕ} 0 1 = cc in omega arith
later-not false false true e = let z : ◌≡◌ {A = ℕ} 0 1 = cc in omega arith
later-not false false false e = let z : ◌≡◌ {A = ℕ} 0 1 = cc in omega arith

-- b: the end's number is 5
module _ (b o k e : Bool) where
  out-same : (x y z : Bool) → (T b ↔ (outcome_of (first_refusal (ended false (o || k || e) x y z)) ≡ Err OutOfRange)) → (b || k || e) ≡ (o || k || e)
  out-same x y z i = go b o k e i
    where
      go : (b o k e : Bool) → (T b ↔ (outcome_of (first_refusal (ended false (o || k || e) x y z)) ≡ Err OutOfRange)) → (b || k || e) ≡ (o || k || e)
      go true true k e i = refl
      go true false true e i = refl
      go true false false true i = refl
      go true false false false i = absurd (later-not x y z (i.0 tt))
      go false true k e i = absurd (i.1 refl)
      go false false k e i = refl

  lent_same : (l n x y z : Bool) (us : List Test) → (T b ↔ (outcome_of (first_refusal (ended l (o || k || e) x y z)) ≡ Err OutOfRange))
      → first_refusal (lent l n (b || k || e) x y us) ≡ first_refusal (lent l n (o || k || e) x y us)
  lent_same true n x y z us i = refl
  lent_same false true x y z us i = refl
  lent_same false false x y z us i = ap (λ (k : Bool). first_refusal (lent false false k x y us)) (out-same x y z i)

-- nothing lent is refused: of the end's tests 14 is left
ended-left : (l n k x y z : Bool) (us : List Test) → first_refusal (lent l n k x y us) ≡ None → first_refusal (ended l k x y z) ≡ first_refusal (short z)
ended-left true n k x y z us i = absurd (none-some (sym i))
ended-left false true k x y z us i = absurd (none-some (sym i))
ended-left false false true x y z us i = absurd (none-some (sym i))
ended-left false false false true y z us i = absurd (none-some (sym i))
ended-left false false false false true z us i = absurd (none-some (sym i))
ended-left false false false false false z us i = refl

-- nothing lent but the record is refused: the judgement is by the replay's end, and then 14 where a part line is left
module _ (at : ℕ) (good : Result Judgement RefusedAt) (z part : Bool) where
  part_left : end_judged at (outcome_of (first_refusal (short (z || part)))) good ≡ log_judged at (Ok tt) (outcome_of (first_refusal (short z))) part good
  part_left = go z part
    where
      go : (z part : Bool) → end_judged at (outcome_of (first_refusal (short (z || part)))) good
          ≡ log_judged at (Ok tt) (outcome_of (first_refusal (short z))) part good
      go true part = refl
      go false true = refl
      go false false = refl

  alike : (l n o k e x y : Bool) (us : List Test) → first_refusal (lent l n (k || e) x y us) ≡ None
      → end_judged at (outcome_of (first_refusal (lent l n (o || k || e) x y us ++ short (z || part)))) good
      ≡ log_judged at (Ok tt) (outcome_of (first_refusal (ended l (o || k || e) x y z))) part good
  alike true n o k e x y us i = absurd (none-some (sym i))
  alike false true o k e x y us i = absurd (none-some (sym i))
  alike false false true k e x y us i = refl
  alike false false false true e x y us i = absurd (none-some (sym i))
  alike false false false false true x y us i = absurd (none-some (sym i))
  alike false false false false false true y us i = absurd (none-some (sym i))
  alike false false false false false false true us i = absurd (none-some (sym i))
  alike false false false false false false false us i =
      ap (λ (k : Option Refusal). end_judged at (outcome_of k) good) (first_next (short (z || part)) us i) ∙ part_left

-- ---- the same of a case, a table and a record

module _ (c : Case) (w : List ℤ) (p : Replay) where
  abbrev r : Rules
  r = rules_of c

  abbrev limit : Bool
  limit = not (within_limits r c.n c.d c.m)

  abbrev long : Bool
  long = not (eqb (length w) (lent_length (rules_of c) c)) || false

  abbrev carried : Bool
  carried = carry_out r c

  abbrev outside : Bool
  outside = some_edge c (end_outside c)

  abbrev descending : Bool
  descending = some_edge c (λ e. not (ltb (lower_end c e) (upper_end c e)))

  abbrev repeated : Bool
  repeated = some_edge c (λ e. any (same_ends c e) (below e))

  -- numbers 8 and 15
  abbrev of_weights : List Test
  of_weights = weight_test (working_weight r) c w ∷ scope_test c w ∷ []

  abbrev is_cut : Bool
  is_cut = is_short p.due p.moved

  -- what is checked with the end's 5 is checked with the record's
  out-checked : (b : Bool) → (T b ↔ (outcome_of (first_refusal (ending_tests r c p)) ≡ Err OutOfRange))
      → first_refusal (handed_over r (working_weight r) c w false b) ≡ first_refusal (handed_over r (working_weight r) c w false (record_out r c p))
  out-checked b i = lent_same b (record_out r c p) carried outside limit long descending repeated is_cut of_weights i

  abbrev checks : List Test
  checks = handed_over r (working_weight r) c w false (record_out r c p)

  stops : (part : Bool) {x : Refusal} → first_refusal checks ≡ Some x → first_refusal (finish_tests c w p part) ≡ Some x
  stops part e = first_stops (short (is_cut || part)) checks e

  -- the end's answer, whether it is 5, and what is then checked
  module _ (good : p.standing ≡ Ok tt) {e : Result ⊤ Refusal} (end : e ≡ end_replay r c p) (b : Bool) (out : T b ↔ (e ≡ Err OutOfRange))
      {k : Result ⊤ Refusal} (check : k ≡ outcome_of (first_refusal (handed_over r (working_weight r) c w false b))) where
    end_is : e ≡ outcome_of (first_refusal (ending_tests r c p))
    unfolding end_replay
    end_is = end ∙ ap (end_standing r c p) good

    check-is : k ≡ outcome_of (first_refusal checks)
    check-is = check ∙ ap outcome_of (out-checked b (λ t. sym end_is ∙ out.0 t, λ d. out.1 (end_is ∙ d)))

    pub finish-refused : (part : Bool) {x : Refusal} → k ≡ Err x → Err x ≡ outcome_of (first_refusal (finish_tests c w p part))
    finish-refused part d = ap outcome_of (sym (stops part (outcome-refused (sym d ∙ check-is))))

    module _ (d : k ≡ Ok tt) (part : Bool) where
      passed : first_refusal checks ≡ None
      passed = outcome-done (sym d ∙ check-is)

      left : first_refusal (finish_tests c w p part) ≡ first_refusal (short (is_cut || part))
      left = first_next (short (is_cut || part)) checks passed

      pub end-part : part ≡ true → Err CutShort ≡ outcome_of (first_refusal (finish_tests c w p part))
      end-part t = ap outcome_of (sym (left ∙ ap (λ (b : Bool). first_refusal (short (is_cut || b))) t ∙ ap (λ (b : Bool). first_refusal (short b)) (or-true is_cut)))

      pub end_none : part ≡ false → e ≡ outcome_of (first_refusal (finish_tests c w p part))
      end_none t =
          end_is
          ∙ ap outcome_of (ended-left limit long (record_out r c p || carried || outside) descending repeated is_cut of_weights passed
          ∙ sym (left ∙ ap (λ (b : Bool). first_refusal (short (is_cut || b))) t ∙ ap (λ (b : Bool). first_refusal (short b)) (or-false is_cut)))

  -- a table that a call takes
  pub finish-judged : Handed r (working_weight r) c w → (at : ℕ) (part : Bool) (good : Result Judgement RefusedAt) (s : Result ⊤ Refusal) → p.standing ≡ s
      → end_judged at (finish_standing c w p part p.standing) good ≡ log_judged at (Ok tt) (end_replay r c p) part good
  unfolding end_replay
  finish-judged h at part good (Err x) e = rw e
  finish-judged h at part good (Ok tt) e =
      rw e (alike at good is_cut part limit long (record_out r c p) carried outside descending repeated of_weights (handed-unrefused h))

  -- no number is left
  pub finish-done : (part : Bool) (s : Result ⊤ Refusal) → Ok tt ≡ finish_standing c w p part s → Handed r (working_weight r) c w
  finish-done part (Err x) e = absurd (never e)
    where
      never : ◌≡◌ {A = Result ⊤ Refusal} (Ok tt) (Err x) → ⊥
      never e = let z : ◌≡◌ {A = ℕ} 0 1 = cc in omega arith
  finish-done part (Ok tt) e =
      ((handed r (working_weight r) c w false (record_out r c p)).0 ((none-iff (first_refusal checks)).1 (go (first_refusal checks) refl))).0
    where
      go : (o : Option Refusal) → first_refusal checks ≡ o → o ≡ None
      go None f = refl
      go (Some x) f = absurd (none-some (sym (outcome-done e) ∙ stops part f))
