-- The library's calls on all input, as document 01 and docs/DECISIONS.md say: totals, refutation, moves, lines, case files.
-- What is refused changes nothing that was lent. Assumes nothing.
use Rattle.std.specs.Prelude.{◌≡◌, Bool, true, false, not, ◌&&◌, ◌||◌, List, [], ◌∷◌, ◌++◌, ℕ, ◌+◌, ◌*◌, ◌-◌, ℤ, pos, ltb, eqb, length, get_or, take, drop, if◌then◌else◌, Result, Ok, Err, Option, Some, None, ⊤}
use Rattle.integers.specs.Words.{any, is_in, within}
use Rattle.definitions.specs.declared.Case.{Case}
use Rattle.definitions.specs.declared.Line.{Line}
use Rattle.definitions.specs.declared.Refusal.{Refusal}
use Rattle.definitions.specs.declared.Refusal.TheVariants.{NotInColumns, WrongLength, OutOfRange, RaiseNotAscending, NotRefuted, LeavesRange}
use Rattle.definitions.specs.Rules.{Rules}
use Rattle.definitions.specs.Refusals.{Test, ◌when◌, first_refusal}
use Rattle.definitions.specs.Answers.{outcome_of, unless_refused, answer_of}
use Rattle.definitions.specs.Case.{scope_count, is_variable, objective, upper_bound, active, uses_barred}
use Rattle.definitions.specs.Valid.{starting_weight, working_weight, wrong_assignment, value_out, limit_test, edge_tests, handed_over}
use Rattle.definitions.specs.Consistency.{Family, refuted, others}
use Rattle.definitions.specs.Families.{supported_value, largest_family, family_bytes, partner_bytes}
use Rattle.definitions.specs.Graph.{is_acyclic}
use Rattle.definitions.specs.Moves.{Move, shift, active_press, shift_amount, press_amount, moved, active_refuted, leaves_range}
use Rattle.definitions.specs.Lines.{read_line, line_text, line_length, line_too_wide, overwritten}
use Rattle.definitions.specs.CaseFiles.{case_text}

-- ---- answers by whether a refusal applies

-- a call that changes a lent table; one that writes to a lent output
pub record TableCall : Type 0 where
  pub answer : Result ⊤ Refusal
  pub table : List ℤ

pub record LineCall : Type 0 where
  pub answer : Result ⊤ Refusal
  pub out : List ℕ

-- the log writer's call: the lent slice and the position after it
pub record WriterCall : Type 0 where
  pub answer : Result ⊤ Refusal
  pub out : List ℕ
  pub at : ℕ

pub record WriteCall : Type 0 where
  pub answer : Result ℕ Refusal
  pub out : List ℕ

-- ---- a line written, at a width of the amount column and by whether a refusal applies

abbrev pub line_written : ℕ → List ℕ → Line → Option Refusal → LineCall
line_written width out l refusal = record {
  answer = outcome_of refusal;
  out = unless_refused refusal (overwritten (line_text width l) out) out;
}

abbrev pub line_put : ℕ → List ℕ → ℕ → Line → Option Refusal → WriterCall
line_put width out at l refusal = record {
  answer = outcome_of refusal;
  out = unless_refused refusal (take at out ++ overwritten (line_text width l) (drop at out)) out;
  at = unless_refused refusal (at + line_length width) at;
}

-- ---- arguments

-- a scope and its tuple: in a variable's scope l is 0
abbrev pub tuple_out : Case → ℕ → ℕ → ℕ → Bool
tuple_out c x k l =
    not (ltb x (scope_count c)) || not (ltb k c.d) || not (if is_variable c x then eqb l 0 else ltb l c.d)

-- a byte that is not 0 marks a raised scope
abbrev pub is_raised : List ℕ → ℕ → Bool
is_raised raised x = not (eqb (get_or raised x 0) 0)

-- raised scopes as marks: a byte for each scope, 0 or 1
abbrev pub is_marked : List ℕ → ℕ → Bool
is_marked raised x = eqb (get_or raised x 0) 1

abbrev pub is_rising : List ℕ → Bool
is_rising [] = true
is_rising (x ∷ []) = true
is_rising (x ∷ y ∷ ys) = ltb x y && is_rising (y ∷ ys)

-- ---- why a value was kept (document 02, change 3): the value, and the bytes of its family and of the partners

pub record FamilyCall : Type 0 where
  pub answer : Result ℤ Refusal
  pub family : List ℕ
  pub partners : List ℕ

-- an answer and what is left are the call's
abbrev pub FamilyIs : FamilyCall → Result ℤ Refusal → List ℕ → List ℕ → Type 0
FamilyIs call answer family partners = (answer ≡ call.answer) × (family ≡ call.family) × (partners ≡ call.partners)

abbrev pub family_refused : Refusal → List ℕ → List ℕ → FamilyCall
family_refused x family partners = record { answer = Err x; family = family; partners = partners }

-- value k of variable i with its largest family, all other scopes raised
abbrev pub family_shown : Case → List ℤ → ℕ → ℕ → List ℕ → List ℕ → FamilyCall
family_shown c w i k family partners =
    let R : ℕ → Bool = is_in (others c i) in
    let S : Family = largest_family c w R i k in
    record {
      answer = Ok (pos k);
      family = overwritten (family_bytes c S) family;
      partners = overwritten (partner_bytes c w R S) partners;
    }

-- no such value is number 5, asked last
abbrev pub family_found : Case → List ℤ → ℕ → List ℕ → List ℕ → Option Refusal → Option ℕ → FamilyCall
family_found c w i family partners (Some x) found = family_refused x family partners
family_found c w i family partners None None = family_refused OutOfRange family partners
family_found c w i family partners None (Some k) = family_shown c w i k family partners

-- the family has a byte for each variable, the partners one for each edge, end and value
abbrev pub family_short : Case → List ℕ → List ℕ → Bool
family_short c family partners = ltb (length family) c.n || ltb (length partners) (c.m * (2 * c.d))

module _ (r : Rules) where
  -- ---- totals: the range is that of working weights

  -- an unlawful assignment has no objective: number 5 (document 02, change 2)
  unfoldable pub objective_answer : Case → List ℤ → List ℕ → Result ℤ Refusal
  objective_answer c w p =
      answer_of (first_refusal (handed_over r (working_weight r) c w (wrong_assignment c p) (value_out c p || uses_barred c w p))) (objective c w p)

  unfoldable pub upper_bound_answer : Case → List ℤ → Result ℤ Refusal
  upper_bound_answer c w = answer_of (first_refusal (handed_over r (working_weight r) c w false false)) (upper_bound c w)

  unfoldable pub is_active_answer : Case → List ℤ → ℕ → ℕ → ℕ → Result Bool Refusal
  is_active_answer c w x k l = answer_of (first_refusal (handed_over r (working_weight r) c w false (tuple_out c x k l))) (active c w x k l)

  -- ---- refutation

  unfoldable pub refuted_answer : Case → List ℤ → List ℕ → ℕ → ℕ → Result Bool Refusal
  refuted_answer c w raised i k =
      answer_of
      (first_refusal (handed_over r (working_weight r) c w (not (eqb (length raised) (scope_count c)))
      (any (λ b. ltb 1 b) raised || not (ltb i c.n) || not (ltb k c.d))))
      (refuted c w (is_marked raised) i k)

  -- ---- why a value was kept

  unfoldable pub supported_value_call : Case → List ℤ → ℕ → List ℕ → List ℕ → FamilyCall
  supported_value_call c w i family partners =
      family_found c w i family partners
      (first_refusal (handed_over r (working_weight r) c w (family_short c family partners) (not (ltb i c.n))))
      (supported_value c w i)

  -- ---- whether the edges form no cycle (document 02, change 4): asked of the case alone

  unfoldable pub is_acyclic_answer : Case → Result Bool Refusal
  is_acyclic_answer c = answer_of (first_refusal (limit_test r c ∷ edge_tests r c false)) (is_acyclic c)

  -- ---- moves

  abbrev pub move_call : Case → List ℤ → Move → List Test → TableCall
  move_call c w move tests =
      record { answer = outcome_of (first_refusal tests); table = unless_refused (first_refusal tests) (moved c move w) w }

  abbrev pub shift_out : Case → ℕ → ℕ → ℕ → ℤ → Bool
  shift_out c e end v a = not (ltb e c.m) || not (ltb end 2) || not (ltb v c.d) || not (shift_amount r a)

  unfoldable pub shift_call : Case → List ℤ → ℕ → ℕ → ℕ → ℤ → TableCall
  shift_call c w e end v a =
      move_call c w (shift e end v a)
      (handed_over r (working_weight r) c w false (shift_out c e end v a)
      ++ (LeavesRange when (leaves_range r c w (moved c (shift e end v a) w)) ∷ []))

  -- raised is a list of scopes, 1 to s − 1 of them (else 5), rising and without the own scope (else 9)
  abbrev pub press_out : Case → ℕ → List ℕ → ℤ → Bool
  press_out c i raised a =
      not (ltb i c.n) || not (within 1 (scope_count c - 1) (length raised)) || any (λ x. not (ltb x (scope_count c))) raised
      || not (press_amount r a)

  unfoldable pub press_call : Case → List ℤ → ℕ → List ℕ → ℤ → TableCall
  press_call c w i raised a =
      move_call c w (active_press c w i raised a)
      (handed_over r (working_weight r) c w false (press_out c i raised a)
      ++ (RaiseNotAscending when (not (is_rising raised) || is_in raised i)
      ∷ NotRefuted when (not (active_refuted c w i raised))
      ∷ LeavesRange when (leaves_range r c w (moved c (active_press c w i raised a) w)) ∷ []))

  -- ---- lines

  unfoldable pub read_line_answer : List ℕ → Result Line Refusal
  read_line_answer bytes = elim (read_line r.amount_width bytes) [
    | None ↦ Err NotInColumns
    | Some l ↦ Ok l
  ]

  -- fewer bytes than a line are number 4, a number too wide for its column is 5
  abbrev pub write_refusal : ℕ → Line → Option Refusal
  write_refusal room l =
      first_refusal (WrongLength when (ltb room (line_length r.amount_width)) ∷ OutOfRange when (line_too_wide r.amount_width l) ∷ [])

  unfoldable pub write_line_call : List ℕ → Line → LineCall
  write_line_call out l = line_written r.amount_width out l (write_refusal (length out) l)

  -- the log writer fills a lent slice line by line: a line at position `at`, and the position after it; a refusal keeps both
  unfoldable pub put_line_call : List ℕ → ℕ → Line → WriterCall
  put_line_call out at l = line_put r.amount_width out at l (write_refusal (length out - at) l)

  -- ---- case files: the range is that of starting weights

  abbrev pub file_bytes : Case → ℕ
  file_bytes c = line_length r.amount_width * (1 + c.n * c.d + c.m * (1 + c.d * c.d))

  abbrev pub write_case_refusal : Case → List ℤ → List ℕ → Option Refusal
  write_case_refusal c w out = first_refusal (handed_over r (starting_weight r) c w (ltb (length out) (file_bytes c)) false)

  unfoldable pub write_case_call : Case → List ℤ → List ℕ → WriteCall
  write_case_call c w out = record {
    answer = answer_of (write_case_refusal c w out) (file_bytes c);
    out = unless_refused (write_case_refusal c w out) (overwritten (case_text r c w) out) out;
  }
