-- The bytes that are prepared from a table and each scope's greatest weight: what is written, and what they say. Assumes nothing.
use mathlib.Core.Path.{◌≡◌, refl, sym, ap, subst, ◌∙◌}
use mathlib.Core.Bool.{Bool, true, false, not, ◌&&◌, ◌||◌, and-false}
use mathlib.Core.List.{List, [], ◌∷◌}
use Prim.Native.Nat.{ℕ, zero, suc, ◌+◌, ◌*◌, ◌-◌, ◌≤◌, ◌<◌}
use native.Mathlib.Omega.{arith}
use borrow.Author.Tests.{lt-ltb, le-ltb, eq-eqb, ne_eqb, eqb-true}
use lib.IntN.{ℤ}
use lib.Dec.{T, ltb, eqb, eqb→eq}
use lib.ListN.{length, get_or, take, drop, length-take, length-drop}
use lib.Seq.{get_or-take, get_or-drop}
use Rattle.std.specs.Prelude.{if◌then◌else◌, Result, Ok, Err, Some, None, ⊤}
use Rattle.integers.specs.Words.{◌⇒◌}
use Rattle.integers.specs.Tests.{tests, is_true, true-is, imp_intro, imp_elim, same_test}
use Rattle.integers.specs.Lists.{all-at, all_of}
use Rattle.integers.specs.Tables.{length-tab, get_d-tab}
use Rattle.definitions.specs.declared.Case.{Case}
use Rattle.definitions.specs.declared.Refusal.{Refusal}
use Rattle.definitions.specs.declared.Refusal.TheVariants.{OutOfRange}
use Rattle.definitions.specs.Rules.{rules_of}
use Rattle.definitions.specs.Refusals.{Test, ◌when◌, first_refusal}
use Rattle.definitions.specs.Answers.{outcome_of}
use Rattle.definitions.specs.Case.{scope_count, active}
use Rattle.definitions.specs.Valid.{working_weight, limit_test, length_test, some_edge, end_outside}
use Rattle.calls.specs.Calls.{is_marked, is_raised}
use Rattle.definitions.specs.Consistency.{refuted, all_refuted}
use Rattle.definitions.specs.Moves.{active_values}
use Rattle.theory.proofs.Shape.{ends-below}
use Rattle.theory.proofs.Validity.{none-applies, Handed}
use Rattle.theory.proofs.Words.{none_below}
use Rattle.tables.specs.Scopes.{BestOf}
use Rattle.tables.proofs.Order.{limited-by, outcome-done, outcome-refused, first_stops, first_next}
use Rattle.tables.proofs.Answered.{limits-true}
use Rattle.marks.specs.Marks.{mark, full_of, only_of}
use Rattle.marks.proofs.Laws.{mark-byte_of}
use Rattle.arcs.specs.Active.{set_where, row_where, has_best, Sized, Written}
use Rattle.arcs.specs.Tried.{tried_answer}
use Rattle.arcs.specs.Best.{allowed_best, partners_best, best_sets, best_rows}
use Rattle.arcs.specs.Best.{is_unsupported, are_unsupported, too_few, best_refusal, values_unsupported_answer, best_unsupported_answer}
use Rattle.arcs.specs.declared.Tried.TheVariants.{Unsupported, Supported}
use Rattle.arcs.proofs.Marked.{rows_of-length, rows_of-at, written-part}
use Rattle.arcs.proofs.Prepared.{lengths-taken, set-active, row-active}
use Rattle.arcs.proofs.Fixed.{not-not}
use Rattle.arcs.proofs.Refutation.{Bytes, tried-refuted}

module _ (c : Case) (w best : List ℤ) (raised : List ℕ) where
  module _ (j : ℕ) where
    pub set-unraised : get_or raised j 0 ≡ 0 → full_of c.d ≡ allowed_best c w best raised j
    set-unraised e = ap (λ (b : ℕ). if not (eqb b 0) then set_where c (has_best c w best) j else full_of c.d) (sym e)

    pub set-raised : (get_or raised j 0 ≡ 0 → ⊥) → set_where c (has_best c w best) j ≡ allowed_best c w best raised j
    set-raised ne = sym (ap (λ (b : Bool). if not b then set_where c (has_best c w best) j else full_of c.d) (ne_eqb (get_or raised j 0) 0 ne))

  module _ (e p : ℕ) where
    pub row-unraised : get_or raised (c.n + e) 0 ≡ 0 → 0 ≡ partners_best c w best raised e p
    row-unraised z = ap (λ (b : ℕ). if not (eqb b 0) then row_where c (has_best c w best) e p else 0) (sym z)

    pub row-raised : (get_or raised (c.n + e) 0 ≡ 0 → ⊥) → row_where c (has_best c w best) e p ≡ partners_best c w best raised e p
    row-raised ne = sym (ap (λ (b : Bool). if not b then row_where c (has_best c w best) e p else 0) (ne_eqb (get_or raised (c.n + e) 0) 0 ne))

  -- the parts of the arrays that are written
  pub prepared-answer : (zeros rows zeros' sets : List ℕ) → 16 * c.m ≤ length zeros
      → Written (λ q. get_or (best_rows c w best raised) q 0) 0 (16 * c.m) zeros rows
      → c.n ≤ length zeros' → Written (allowed_best c w best raised) 0 c.n zeros' sets → (i values : ℕ)
      → is_unsupported (tried_answer c.lower c.upper (take (16 * c.m) rows) (take ((c.n + c.m) - c.n) (drop c.n raised)) (take c.n sets) i
      values) ≡ are_unsupported c w best raised i values
  unfolding best_rows best_sets are_unsupported
  prepared-answer zeros rows zeros' sets room r room' s i values =
      let a = written-part (best_rows c w best raised) zeros rows (λ q. get_or (best_rows c w best raised) q 0) (16 * c.m)
      (rows_of-length (partners_best c w best raised) c.m) (λ p h. refl) room r in
      let b = written-part (best_sets c w best raised) zeros' sets (allowed_best c w best raised) c.n (length-tab (allowed_best c w best raised) 0 c.n)
      (λ p h. get_d-tab (allowed_best c w best raised) c.n p 0 h) room' s in
      let m : (c.n + c.m) - c.n ≡ c.m = omega arith in
      rw (a, b, m)

-- ---- what is asked

module _ (c : Case) (w best : List ℤ) (raised : List ℕ) (i : ℕ) where
  abbrev lengths-of : List Test
  lengths-of = limit_test (rules_of c) c ∷ length_test (rules_of c) c w (too_few c best raised) ∷ []

  abbrev arguments-of : List Test
  arguments-of = OutOfRange when (not (ltb i c.n) || some_edge c (end_outside c)) ∷ []

  abbrev checked : Result ⊤ Refusal
  checked = outcome_of (best_refusal (rules_of c) c w best raised i)

  pub lengths-refused : {x : Refusal} → Err x ≡ outcome_of (first_refusal lengths-of) → Err x ≡ checked
  lengths-refused e = sym (ap outcome_of (first_stops arguments-of lengths-of (outcome-refused e)))

  module _ (e : Ok tt ≡ outcome_of (first_refusal lengths-of)) where
    asks-on : checked ≡ outcome_of (first_refusal arguments-of)
    asks-on = ap outcome_of (first_next arguments-of lengths-of (outcome-done e))

    pub arguments-refused : (not (ltb i c.n) || some_edge c (end_outside c)) ≡ true → Err OutOfRange ≡ checked
    arguments-refused t = sym (asks-on ∙ ap (λ (b : Bool). outcome_of (first_refusal (OutOfRange when b ∷ []))) t)

    pub arguments-taken : (not (ltb i c.n) || some_edge c (end_outside c)) ≡ false → Ok tt ≡ checked
    arguments-taken t = sym (asks-on ∙ ap (λ (b : Bool). outcome_of (first_refusal (OutOfRange when b ∷ []))) t)

  -- the answers, by what was asked
  pub answer-refused : {x : Refusal} → Err x ≡ checked → (values : ℕ)
      → Err x ≡ values_unsupported_answer (rules_of c) c w best raised i values
  unfolding values_unsupported_answer
  answer-refused {x} e values = let d : best_refusal (rules_of c) c w best raised i ≡ Some x = outcome-refused e in rw d

  module _ (e : Ok tt ≡ checked) where
    pub answer-given : (values : ℕ) → Ok (are_unsupported c w best raised i values) ≡ values_unsupported_answer (rules_of c) c w
        best raised i values
    unfolding values_unsupported_answer
    answer-given values = let d : best_refusal (rules_of c) c w best raised i ≡ None = outcome-done e in rw d

    pub best-arguments-known : Sized c w × ((scope_count c ≤ length best) × (scope_count c ≤ length raised)) × (i < c.n)
    best-arguments-known =
        let d : best_refusal (rules_of c) c w best raised i ≡ None = outcome-done e in
        let p = simp tests at ((none-applies (limit_test (rules_of c) c ∷ length_test (rules_of c) c w (too_few c best raised) ∷ arguments-of)).0 (rw d tt)) in (
          record {
            limits = limited-by c p.0.0.0.0 p.0.0.0.1 p.0.0.1.0 p.0.0.1.1 p.0.1.1;
            long = p.1.0.0;
          },
          (omega (arith, p.1.0.1.0), omega (arith, p.1.0.1.1)),
          p.1.1.0.0,
        )

-- ---- where `best` holds the greatest weights, the answer is refutation

module _ (c : Case) (w : List ℤ) (h : Handed (rules_of c) (working_weight (rules_of c)) c w) (best : List ℤ) (b : BestOf c w best) (raised : List ℕ)
    (room : scope_count c ≤ length raised)
    (lowers : c.m ≤ length c.lower) (uppers : c.m ≤ length c.upper) where
  enough : too_few c best raised ≡ false
  enough = rw (le-ltb (length best) (scope_count c) b.enough, le-ltb (length raised) (scope_count c) room)

  ends : some_edge c (end_outside c) ≡ false
  ends = simp (tests, none_below) (ends-below h.shape)

  taken : (i : ℕ) → i < c.n → Ok tt ≡ checked c w best raised i
  taken i g = arguments-taken c w best raised i (lengths-taken c w (too_few c best raised) (limits-true h) h.long enough) (rw (lt-ltb i c.n g, ends))

  module _ (R : ℕ → Bool) (same : (x : ℕ) → x < scope_count c → is_raised raised x ≡ R x) where
    bytes : Bytes c w R (best_rows c w best raised) (take c.m (drop c.n raised)) (best_sets c w best raised)
    unfolding best_rows best_sets
    bytes = record {
      lowers = lowers;
      uppers = uppers;
      room = rw (rows_of-length (partners_best c w best raised) c.m) (omega arith);
      edges = record {
        count = simp (length-take, length-drop) (omega arith);
        raised = λ e u.
            ap (λ (x : ℕ). eqb x 0) (get_or-take c.m (drop c.n raised) e 0 u ∙ get_or-drop c.n raised e 0)
            ∙ sym (not-not (eqb (get_or raised (c.n + e) 0) 0)) ∙ ap not (same (c.n + e) (omega arith));
        partners = λ e p u l t.
            rows_of-at (partners_best c w best raised) c.m e p u l
            ∙ ap (λ (x : Bool). if x then row_where c (has_best c w best) e p else 0) (same (c.n + e) (omega arith) ∙ is_true (R (c.n + e)) t)
            ∙ row-active b e p u;
      };
      sets-length = length-tab (allowed_best c w best raised) 0 c.n;
      sets = λ j u.
          get_d-tab (allowed_best c w best raised) c.n j 0 u
          ∙ ap (λ (x : Bool). if x then set_where c (has_best c w best) j else full_of c.d) (same j (omega arith))
          ∙ ap (λ (x : ℕ). if R j then x else full_of c.d) (set-active b j u);
    }

    unsupported-refuted : (i : ℕ) → i < c.n → (values : ℕ) (set : ℕ → Bool) → ((k : ℕ) → k < 8 → mark values k ≡ (ltb k c.d && set k))
        → are_unsupported c w best raised i values ≡ all_refuted c w R i set
    unfolding are_unsupported
    unsupported-refuted i g values set is = ap is_unsupported (tried-refuted c w h R _ _ _ bytes i g values set is) ∙ told (all_refuted c w R i set)
      where
        told : (x : Bool) → is_unsupported (if x then Unsupported else Supported) ≡ x
        told true = refl
        told false = refl

    -- the values of a set below D
    pub values-unsupported-is-refuted : (i : ℕ) → i < c.n → (values : ℕ) (set : ℕ → Bool) → ((k : ℕ) → k < 8 → mark values k ≡ (ltb k c.d && set k))
        → values_unsupported_answer (rules_of c) c w best raised i values ≡ Ok (all_refuted c w R i set)
    values-unsupported-is-refuted i g values set is =
        sym (answer-given c w best raised i (taken i g) values)
        ∙ ap Ok (unsupported-refuted i g values set is)

    -- one value
    pub value-unsupported-is-refuted : (i k : ℕ) → i < c.n → k < c.d
        → values_unsupported_answer (rules_of c) c w best raised i (only_of k) ≡ Ok (refuted c w R i k)
    value-unsupported-is-refuted i k g l =
        values-unsupported-is-refuted i g (only_of k) (λ v. eqb v k) (λ v u. mark-byte_of (λ v. eqb v k) v u ∙ in-range v (eqb v k) refl)
        ∙ ap Ok (same_test (all_refuted c w R i (λ v. eqb v k)) (refuted c w R i k)
        (λ t. imp_elim (eqb k k) (refuted c w R i k) (all-at (λ v. eqb v k ⇒ refuted c w R i v) c.d t k l) (true-is (eqb k k) (eq-eqb k k refl)))
        (λ t.
        all_of (λ v. eqb v k ⇒ refuted c w R i v) c.d
        (λ v u. imp_intro (eqb v k) (refuted c w R i v) (λ s. subst (λ (x : ℕ). T (refuted c w R i x)) (sym (eqb→eq v k s)) t))))
      where
        in-range : (v : ℕ) (x : Bool) → eqb v k ≡ x → x ≡ (ltb v c.d && x)
        in-range v true e = let s = eqb-true v k e in sym (ap (λ (y : Bool). y && true) (lt-ltb v c.d (omega arith)))
        in-range v false e = sym (and-false (ltb v c.d))

  -- the active values, with the scopes raised whose byte is not 0
  pub best-unsupported-is-refuted : (i : ℕ) → i < c.n → best_unsupported_answer (rules_of c) c w best raised
      i ≡ Ok (all_refuted c w (is_raised raised) i (active_values c w i))
  best-unsupported-is-refuted i g =
      values-unsupported-is-refuted (is_raised raised) (λ x u. refl) i g (set_where c (has_best c w best) i) (active_values c w i) (λ k l.
      ap (λ (s : ℕ). mark s k) (set-active b i g) ∙ mark-byte_of (λ v. ltb v c.d && active c w i v 0) k l)

-- bytes that are 0 or 1
pub bytes-raised : (raised : List ℕ) (x : ℕ) → get_or raised x 0 ≤ 1 → is_raised raised x ≡ is_marked raised x
bytes-raised raised x h = by (get_or raised x 0) h
  where
    by : (b : ℕ) → b ≤ 1 → not (eqb b 0) ≡ eqb b 1
    by zero h = refl
    by (suc zero) h = refl
    by (suc (suc b)) h = absurd (omega arith)
