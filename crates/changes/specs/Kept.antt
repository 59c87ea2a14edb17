-- Weights changed on any table, with each scope's greatest weight kept in `best`: what is answered and left, on all input. Assumes nothing.
use Rattle.std.specs.Prelude.{◌≡◌, Bool, not, ◌&&◌, ◌||◌, List, [], ◌∷◌, map, ℕ, ◌+◌, ◌<◌, ℤ, pos, neg_ℤ, ◌+ℤ◌, ltb, eqb, length, get_or, if◌then◌else◌, Result, Option, ⊤}
use Rattle.integers.specs.Words.{◌⇒◌, all, eq_z}
use Rattle.definitions.specs.declared.Case.{Case}
use Rattle.definitions.specs.declared.Refusal.{Refusal}
use Rattle.definitions.specs.declared.Refusal.TheVariants.{OutOfRange, LeavesRange}
use Rattle.definitions.specs.Rules.{Rules}
use Rattle.definitions.specs.Refusals.{Test, ◌when◌, first_refusal}
use Rattle.definitions.specs.Answers.{outcome_of, unless_refused}
use Rattle.definitions.specs.Case.{scope_count, scopes, each_tuple, weight, greatest}
use Rattle.definitions.specs.Valid.{limit_test, length_test}
use Rattle.definitions.specs.Moves.{Difference, spared, plus, only_where, end_variable, end_value, shift_by, press_amount}
use Rattle.calls.specs.Calls.{shift_out, is_raised}
use Rattle.tables.specs.Scopes.{best_at, written_over}
use Rattle.marks.specs.Marks.{mark, byte_of}
use Rattle.changes.specs.Spaced.{stays_with}

-- the scopes and the tuples that are touched, and what is added at each tuple that is not barred
pub record Change : Type 0 where
  pub in_scope : ℕ → Bool
  pub touches : ℕ → ℕ → ℕ → Bool
  pub adds : Difference

-- the tuple's weight is the scope's number in `best`
abbrev pub is_best : Case → List ℤ → List ℤ → ℕ → ℕ → ℕ → Bool
is_best c w best x k l = eq_z (weight c w x k l) (best_at best x)

-- the values below d with this weight; that of value k stands at from + k
abbrev pub values_with : List ℤ → ℕ → ℕ → ℤ → ℕ
values_with w from d z = byte_of (λ k. ltb k d && eq_z (get_or w (from + k) (pos 0)) z)

-- the set holds the values below D that pass
abbrev pub MarksOf : Case → (ℕ → Bool) → ℕ → Type 0
MarksOf c lowered values = (k : ℕ) → k < 8 → mark values k ≡ (ltb k c.d && lowered k)

-- the value's own weight and the edge's tuples that use it are touched
abbrev pub transfer_change : Case → ℕ → ℕ → ℕ → ℤ → Change
transfer_change c e end v a = record {
  in_scope = λ x. eqb x (end_variable c e end) || eqb x (c.n + e);
  touches = λ x k l. (eqb x (end_variable c e end) && eqb k v) || (eqb x (c.n + e) && eqb (end_value end k l) v);
  adds = shift_by c e end v a;
}

-- the whole scope of the variable and the whole raised scopes are touched
abbrev pub lowering_change : Case → List ℤ → List ℤ → List ℕ → ℕ → (ℕ → Bool) → ℤ → Change
lowering_change c w best raised i lowered a = record {
  in_scope = λ x. eqb x i || is_raised raised x;
  touches = λ x k l. eqb x i || is_raised raised x;
  adds = λ x k l.
      only_where (eqb x i && lowered k) (neg_ℤ a)
      +ℤ only_where (is_raised raised x && not (is_best c w best x k l)) a;
}

-- the table after it
abbrev pub table_after : Case → List ℤ → Change → List ℤ
table_after c w m = plus c (spared c w m.adds) w

-- every tuple that is touched keeps its range
abbrev pub stays_working : Rules → Case → List ℤ → Change → Bool
stays_working r c w m =
    all (λ x. all (λ b. b) (each_tuple c x (λ k l. m.touches x k l ⇒ stays_with r (weight c w x k l) (m.adds x k l)))) (scopes c)

-- the scopes touched get their greatest weight, the other numbers stay
abbrev pub best_after : Case → List ℤ → List ℤ → Change → List ℤ
best_after c w best m =
    written_over (map (λ x. if m.in_scope x then greatest c (table_after c w m) x else best_at best x) (scopes c)) best

-- a call that changes a lent table and `best`
pub record KeptCall : Type 0 where
  pub answer : Result ⊤ Refusal
  pub table : List ℤ
  pub best : List ℤ

abbrev pub kept_call : Case → List ℤ → List ℤ → Change → Option Refusal → KeptCall
kept_call c w best m refusal = record {
  answer = outcome_of refusal;
  table = unless_refused refusal (table_after c w m) w;
  best = unless_refused refusal (best_after c w best m) best;
}

-- an answer and what is left are the call's
abbrev pub Gives : KeptCall → Result ⊤ Refusal → List ℤ → List ℤ → Type 0
Gives call answer table best = (answer ≡ call.answer) × (table ≡ call.table) × (best ≡ call.best)

-- the same where only number 11 is left to ask
abbrev pub KeptIs : Case → List ℤ → List ℤ → Change → Bool → Result ⊤ Refusal → List ℤ → List ℤ → Type 0
KeptIs c w best m stays answer table after = Gives (kept_call c w best m (first_refusal (LeavesRange when (not stays) ∷ []))) answer table after

abbrev pub KeptBy : Rules → Case → List ℤ → List ℤ → Change → Result ⊤ Refusal → List ℤ → List ℤ → Type 0
KeptBy r c w best m answer table after = KeptIs c w best m (stays_working r c w m) answer table after

-- the change is made
abbrev pub KeptMade : Case → List ℤ → List ℤ → Change → List ℤ → List ℤ → Type 0
KeptMade c w best m table after = (table ≡ table_after c w m) × (after ≡ best_after c w best m)

module _ (r : Rules) where
  -- numbers 3, 4, 5 and 11
  abbrev pub kept_tests : Case → List ℤ → Change → Bool → Bool → List Test
  kept_tests c w m wrong out =
      limit_test r c ∷ length_test r c w wrong ∷ OutOfRange when out ∷ LeavesRange when (not (stays_working r c w m)) ∷ []

  unfoldable pub transfer_call : Case → List ℤ → List ℤ → ℕ → ℕ → ℕ → ℤ → KeptCall
  transfer_call c w best e end v a =
      let m = transfer_change c e end v a in
      kept_call c w best m (first_refusal (kept_tests c w m (ltb (length best) (scope_count c))
      (shift_out r c e end v a || not (ltb (end_variable c e end) c.n))))

  -- the variable or the amount is outside its range
  abbrev pub lowering_out : Case → ℕ → ℤ → Bool
  lowering_out c i a = not (ltb i c.n) || not (press_amount r a)

  -- the values of variable i whose weight is the number in `best`; none where 3, 4 or 5 applies
  unfoldable pub best_values : Case → List ℤ → List ℤ → ℕ → ℕ
  best_values c w best i =
      unless_refused
      (first_refusal (limit_test r c ∷ length_test r c w (ltb (length best) (scope_count c)) ∷ OutOfRange when (not (ltb i c.n)) ∷ []))
      (byte_of (λ k. ltb k c.d && is_best c w best i k 0)) 0

  unfoldable pub lower_and_raise_call : Case → List ℤ → List ℤ → List ℕ → ℕ → ℕ → ℤ → KeptCall
  lower_and_raise_call c w best raised i values a =
      let m = lowering_change c w best raised i (mark values) a in
      kept_call c w best m (first_refusal (kept_tests c w m (ltb (length best) (scope_count c) || ltb (length raised) (scope_count c))
      (lowering_out c i a)))
