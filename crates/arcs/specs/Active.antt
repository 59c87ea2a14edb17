-- What is prepared once for a table: the active values of each variable and the active partners on each edge, as marks; and what is written
-- where a number is given for each scope, on all input. Assumes nothing.
use Rattle.std.specs.Prelude.{◌≡◌, Bool, ◌&&◌, ◌||◌, List, [], ◌∷◌, map, ℕ, ◌+◌, ◌*◌, ◌-◌, ◌≤◌, ◌<◌, ℤ, pos, ltb, length, get_or, if◌then◌else◌, Result, Option, ⊤}
use Rattle.integers.specs.Words.{below, joined, eq_z}
use Rattle.definitions.specs.declared.Case.{Case}
use Rattle.definitions.specs.declared.Refusal.{Refusal}
use Rattle.definitions.specs.Rules.{Rules, rules_of}
use Rattle.definitions.specs.Refusals.{first_refusal}
use Rattle.definitions.specs.Answers.{outcome_of, unless_refused}
use Rattle.definitions.specs.Case.{scope_count, lent_length, weight, active}
use Rattle.definitions.specs.Valid.{limit_test, length_test}
use Rattle.definitions.specs.Lines.{overwritten}
use Rattle.tables.specs.Scopes.{Limited, best_at}
use Rattle.marks.specs.Marks.{mark, byte_of, added}

-- ---- the tuples that pass a test, as marks

-- the values of variable j
abbrev pub set_where : Case → (ℕ → ℕ → ℕ → Bool) → ℕ → ℕ
set_where c f j = byte_of (λ v. ltb v c.d && f j v 0)

-- the partners on edge e: of value k of the lower end, of value l of the upper end
abbrev pub above_where : Case → (ℕ → ℕ → ℕ → Bool) → ℕ → ℕ → ℕ
above_where c f e k = byte_of (λ l. ltb l c.d && (ltb k c.d && f (c.n + e) k l))

abbrev pub below_where : Case → (ℕ → ℕ → ℕ → Bool) → ℕ → ℕ → ℕ
below_where c f e l = byte_of (λ k. ltb k c.d && (ltb l c.d && f (c.n + e) k l))

-- the sixteen bytes of edge e: eight for the lower end's values, then eight for the upper end's
abbrev pub row_where : Case → (ℕ → ℕ → ℕ → Bool) → ℕ → ℕ → ℕ
row_where c f e p = if ltb p 8 then above_where c f e p else below_where c f e (p - 8)

-- ---- the active ones, and those whose weight is the scope's number in `best`

abbrev pub active_set : Case → List ℤ → ℕ → ℕ
active_set c w j = set_where c (active c w) j

abbrev pub active_row : Case → List ℤ → ℕ → ℕ → ℕ
active_row c w e p = row_where c (active c w) e p

abbrev pub has_best : Case → List ℤ → List ℤ → ℕ → ℕ → ℕ → Bool
has_best c w best x k l = eq_z (weight c w x k l) (best_at best x)

unfoldable pub marked_sets : Case → List ℤ → List ℤ → List ℕ
marked_sets c w best = map (set_where c (has_best c w best)) (below c.n)

unfoldable pub marked_rows : Case → List ℤ → List ℤ → List ℕ
marked_rows c w best = joined (map (λ e. map (row_where c (has_best c w best) e) (below 16)) (below c.m))

-- `best` or the lent bytes are too few
abbrev pub too_short : Case → List ℤ → List ℕ → List ℕ → Bool
too_short c best sets rows = ltb (length best) (scope_count c) || (ltb (length sets) c.n || ltb (length rows) (16 * c.m))

-- a call that writes marks
pub record MarksCall : Type 0 where
  pub answer : Result ⊤ Refusal
  pub sets : List ℕ
  pub rows : List ℕ

-- an answer and what is left are the call's
abbrev pub MarksAre : MarksCall → Result ⊤ Refusal → List ℕ → List ℕ → Type 0
MarksAre call answer sets rows = (answer ≡ call.answer) × (sets ≡ call.sets) × (rows ≡ call.rows)

module _ (r : Rules) where
  -- numbers 3 and 4
  abbrev pub length_refusal : Case → List ℤ → Bool → Option Refusal
  length_refusal c w wrong = first_refusal (limit_test r c ∷ length_test r c w wrong ∷ [])

  abbrev pub marks_refusal : Case → List ℤ → List ℤ → List ℕ → List ℕ → Option Refusal
  marks_refusal c w best sets rows = length_refusal c w (too_short c best sets rows)

  unfoldable pub marks_call : Case → List ℤ → List ℤ → List ℕ → List ℕ → MarksCall
  marks_call c w best sets rows = record {
    answer = outcome_of (marks_refusal c w best sets rows);
    sets = unless_refused (marks_refusal c w best sets rows) (overwritten (marked_sets c w best) sets) sets;
    rows = unless_refused (marks_refusal c w best sets rows) (overwritten (marked_rows c w best) rows) rows;
  }

-- ---- the private functions

-- a case within the limits and a table of its length
pub record Sized (c : Case) (w : List ℤ) : Type 0 where
  pub limits : Limited c
  pub long : length w ≡ lent_length (rules_of c) c

-- the tuple has the weight `best`
abbrev pub has_weight : Case → List ℤ → ℤ → ℕ → ℕ → ℕ → Bool
has_weight c w best x k l = eq_z (weight c w x k l) best

-- the values below d whose weight is `best`; the weight of value j stands at from + j
abbrev pub best_marks : List ℤ → ℕ → ℕ → ℤ → ℕ
best_marks w from d best = byte_of (λ j. ltb j d && eq_z (get_or w (from + j) (pos 0)) best)

-- value k is added to byte 8 + l for each value l of a row
pub record AddedBelow (row k : ℕ) (S S' : List ℕ) : Type 0 where
  pub same_length : length S' ≡ length S
  pub above : (p : ℕ) → p < 8 → get_or S' p 0 ≡ get_or S p 0
  pub below : (l : ℕ) → l < 8 → get_or S' (8 + l) 0 ≡ (if mark row l then added (get_or S (8 + l) 0) k else get_or S (8 + l) 0)

-- bytes 0 to k − 1 are the rows of the values below k, and byte 8 + l holds those of them whose rows have l
pub record Crossed (row : ℕ → ℕ) (k : ℕ) (S : List ℕ) : Type 0 where
  pub rows : (p : ℕ) → p < k → get_or S p 0 ≡ row p
  pub rest : (p : ℕ) → k ≤ p → p < 8 → get_or S p 0 ≡ 0
  pub columns : (l : ℕ) → l < 8 → get_or S (8 + l) 0 ≡ byte_of (λ j. ltb j k && mark (row j) l)

-- bytes `at` to `at` + n − 1 hold f 0 to f (n − 1), and the others what they held
pub record Written (f : ℕ → ℕ) (at n : ℕ) (S S' : List ℕ) : Type 0 where
  pub same_length : length S' ≡ length S
  pub here : (p : ℕ) → p < n → get_or S' (at + p) 0 ≡ f p
  pub before : (q : ℕ) → q < at → get_or S' q 0 ≡ get_or S q 0
  pub after : (q : ℕ) → at + n ≤ q → get_or S' q 0 ≡ get_or S q 0
