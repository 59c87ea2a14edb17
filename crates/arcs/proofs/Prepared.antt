-- What is asked of limits and lengths, and the marks that are written of a table and a number for each scope: where these are the greatest
-- weights, they are the active ones. Assumes nothing.
use Rattle.std.specs.Prelude.{Result, Ok, Err, Some, None, ⊤}
use mathlib.Core.Path.{◌≡◌, ap, ◌∙◌}
use mathlib.Core.Bool.{Bool, true, false, not}
use mathlib.Core.List.{List, [], ◌∷◌}
use Prim.Native.Nat.{ℕ, ◌+◌, ◌*◌, ◌≤◌, ◌<◌}
use native.Mathlib.Omega.{arith}
use borrow.Author.Tests.{le-ltb, eq-eqb}
use lib.IntN.{ℤ}
use lib.Dec.{T}
use lib.ListN.{length, get_or, drop, length-append, length-drop, get_or-append}
use Rattle.integers.specs.Tests.{tests}
use Rattle.definitions.specs.declared.Case.{Case}
use Rattle.definitions.specs.declared.Refusal.{Refusal}
use Rattle.definitions.specs.declared.Refusal.TheVariants.{OutsideLimits, WrongLength}
use Rattle.definitions.specs.Rules.{rules_of}
use Rattle.definitions.specs.Answers.{outcome_of}
use Rattle.definitions.specs.Case.{scope_count, lent_length}
use Rattle.definitions.specs.Valid.{working_weight, within_limits, limit_test, length_test}
use Rattle.definitions.specs.Lines.{overwritten}
use Rattle.theory.proofs.Validity.{none-applies, Handed}
use Rattle.tables.specs.Scopes.{BestOf, is_sized}
use Rattle.tables.proofs.Answered.{limits-true}
use Rattle.tables.proofs.Order.{limited-by, outcome-done, outcome-refused}
use Rattle.arcs.specs.Active.{set_where, row_where, has_weight, has_best, active_set, active_row, Sized}
use Rattle.arcs.specs.Active.{marked_sets, marked_rows, too_short, length_refusal, marks_refusal, marks_call, MarksAre}
use Rattle.arcs.proofs.Marked.{sets-length, sets-at, rows-length, rows_at}

-- ---- limits and lengths

module _ (c : Case) (w : List ℤ) (wrong : Bool) where
  abbrev lengths : Result ⊤ Refusal
  lengths = outcome_of (length_refusal (rules_of c) c w wrong)

  pub limits-refused : within_limits (rules_of c) c.n c.d c.m ≡ false → Err OutsideLimits ≡ lengths
  limits-refused e = rw e

  module _ (e : within_limits (rules_of c) c.n c.d c.m ≡ true) where
    pub table-refused : is_sized (rules_of c) c (length w) ≡ false → Err WrongLength ≡ lengths
    table-refused z = let n = rw e at z in rw (e, n)

    module _ (long : length w ≡ lent_length (rules_of c) c) where
      pub others-refused : wrong ≡ true → Err WrongLength ≡ lengths
      others-refused t = rw (e, eq-eqb (length w) (lent_length (rules_of c) c) long, t)

      pub lengths-taken : wrong ≡ false → Ok tt ≡ lengths
      lengths-taken t = rw (e, eq-eqb (length w) (lent_length (rules_of c) c) long, t)

  pub lengths-known : Ok tt ≡ lengths → Sized c w × T (not wrong)
  lengths-known e =
      let d : length_refusal (rules_of c) c w wrong ≡ None = outcome-done e in
      let p = simp tests at ((none-applies (limit_test (rules_of c) c ∷ length_test (rules_of c) c w wrong ∷ [])).0 (rw d tt)) in (
        record {
          limits = limited-by c p.0.0.0.0 p.0.0.0.1 p.0.0.1.0 p.0.0.1.1 p.0.1.1;
          long = p.1.0.0;
        },
        p.1.0.1,
      )

-- ---- the marks

module _ (c : Case) (w best : List ℤ) (sets rows : List ℕ) where
  abbrev asked-of-marks : Result ⊤ Refusal
  asked-of-marks = outcome_of (marks_refusal (rules_of c) c w best sets rows)

  pub marks-refused : {x : Refusal} → Err x ≡ asked-of-marks → MarksAre (marks_call (rules_of c) c w best sets rows) (Err x) sets rows
  unfolding marks_call
  marks-refused {x} e = let r : marks_refusal (rules_of c) c w best sets rows ≡ Some x = outcome-refused e in (e, rw r, rw r)

  module _ (e : Ok tt ≡ asked-of-marks) where
    pub marks-done : (sets' rows' : List ℕ) → sets' ≡ overwritten (marked_sets c w best) sets → rows' ≡ overwritten (marked_rows c w best) rows
        → MarksAre (marks_call (rules_of c) c w best sets rows) (Ok tt) sets' rows'
    unfolding marks_call
    marks-done sets' rows' p q = let r : marks_refusal (rules_of c) c w best sets rows ≡ None = outcome-done e in (e, rw r p, rw r q)

    pub marks-asked : Sized c w × (scope_count c ≤ length best) × (c.n ≤ length sets) × (16 * c.m ≤ length rows)
    marks-asked =
        let k = lengths-known c w (too_short c best sets rows) e in
        let p = simp tests at k.1 in
        (k.0, omega (arith, p.0), omega (arith, p.1.0), omega (arith, p.1.1))

-- ---- where the numbers are the greatest weights

module _ {c : Case} {w best : List ℤ} (b : BestOf c w best) where
  pub set-active : (j : ℕ) → j < c.n → set_where c (has_best c w best) j ≡ active_set c w j
  set-active j u = ap (λ (z : ℤ). set_where c (has_weight c w z) j) (b.holds j (omega arith))

  pub row-active : (e p : ℕ) → e < c.m → row_where c (has_best c w best) e p ≡ active_row c w e p
  row-active e p u = ap (λ (z : ℤ). row_where c (has_weight c w z) e p) (b.holds (c.n + e) (omega arith))

  module _ (h : Handed (rules_of c) (working_weight (rules_of c)) c w) (sets rows : List ℕ) (room : c.n ≤ length sets) (wide : 16 * c.m ≤ length rows) where
    taken : marks_refusal (rules_of c) c w best sets rows ≡ None
    taken = outcome-done (lengths-taken c w (too_short c best sets rows) (limits-true h) h.long
        (rw (le-ltb (length best) (scope_count c) b.enough, le-ltb (length sets) c.n room, le-ltb (length rows) (16 * c.m) wide)))

    -- what `active_marks` leaves
    pub marked-sets : (j : ℕ) → j < c.n → get_or (marks_call (rules_of c) c w best sets rows).sets j 0 ≡ active_set c w j
    unfolding marks_call
    marked-sets j l =
        rw taken (get_or-append (marked_sets c w best) (drop (length (marked_sets c w best)) sets) 0 j (rw (sets-length c w best) l)
        ∙ sets-at c w best j l ∙ set-active j l)

    pub marked-rows-long : 16 * c.m ≤ length (marks_call (rules_of c) c w best sets rows).rows
    unfolding marks_call
    marked-rows-long = rw taken (simp (length-append, length-drop) (omega (arith, rows-length c w best)))

    pub marked-rows : (e p : ℕ) → e < c.m → p < 16 → get_or (marks_call (rules_of c) c w best sets rows).rows (16 * e + p) 0 ≡ active_row c w e p
    unfolding marks_call
    marked-rows e p g l =
        rw taken (get_or-append (marked_rows c w best) (drop (length (marked_rows c w best)) rows) 0 (16 * e + p) (omega (arith, rows-length c w best))
        ∙ rows_at c w best e p g l ∙ row-active e p g)
