-- A case file line by line: what each line is asked, and what is left to read. Assumes nothing.
use Rattle.definitions.specs.declared.RefusedAt.{RefusedAt}
use Rattle.std.specs.Prelude.{Bool, true, false, not, ◌&&◌, ◌||◌, List, [], ◌∷◌, ◌++◌, ℕ, ◌+◌, ◌*◌, ◌-◌, ℤ, pos, nat_abs, ◌≡◌, eqb, get_or, take, drop, replicate, if◌then◌else◌, Result, Ok, Err, Option, Some, ⊤}
use Rattle.std.specs.Int.Signed.{lt_z}
use Rattle.integers.specs.Words.{all, any, below}
use Rattle.definitions.specs.declared.Rulebook.{Rulebook}
use Rattle.definitions.specs.declared.Line.{Line}
use Rattle.definitions.specs.declared.Refusal.{Refusal}
use Rattle.definitions.specs.declared.Refusal.TheVariants.{NotDue, OutOfRange, EndsNotAscending, EdgeRepeated, WeightOutOfRange, CutShort, ScopeBarred}
use Rattle.definitions.specs.Rules.{rules_in, edge_places}
use Rattle.definitions.specs.Refusals.{Test, ◌when◌, first_refusal}
use Rattle.definitions.specs.Answers.{outcome_of, unless_refused}
use Rattle.definitions.specs.Case.{is_barred}
use Rattle.definitions.specs.Valid.{in_starting}
use Rattle.definitions.specs.Lines.{outside}
use Rattle.definitions.specs.CaseFiles.{CaseDue, dues, due_tests, names, case_of, Reading, took, CaseCall, case_refused}
use Rattle.definitions.specs.CaseFiles.{case_taken, is_cut, first_line, read_dues}
use Rattle.case_lines.specs.declared.Sizes.{Sizes}
use Rattle.case_lines.specs.Dues.{bytes_of_line, case_with}
use Rattle.casefile.specs.Reads.{is_of_kind}

-- ---- one line

-- a weight's line that does not bar
abbrev pub plain_tests : Rulebook → Bool → ℕ → ℕ → ℕ → Line → List Test
plain_tests rulebook due a b c l =
    NotDue when (not due)
    ∷ OutOfRange when (not (names a l.a && names b l.b && names c l.c))
    ∷ WeightOutOfRange when (not (in_starting (rules_in rulebook) l.amount))
    ∷ []

-- and one that bars
abbrev pub bar_tests : Bool → Bool → ℕ → ℕ → ℕ → Line → List Test
bar_tests due closing a b c l =
    NotDue when (not due)
    ∷ OutOfRange when (not (names a l.a && names b l.b && names c l.c))
    ∷ ScopeBarred when closing
    ∷ []

-- a scope's last tuple lies at this place, and its other tuples, of which there are so many, are all barred
abbrev pub others_barred : Bool → ℕ → ℕ → List ℤ → Bool
others_barred last_one others at w = last_one && all is_barred (take others (drop (at - others) w))

abbrev pub ends_tests : ℕ → ℕ → Line → List Test
ends_tests n e l =
    NotDue when (not (is_of_kind (pos 12) true false l))
    ∷ OutOfRange when (not (names e l.a) || outside n l.b || outside n l.c)
    ∷ EndsNotAscending when (not (lt_z l.b l.c))
    ∷ []

-- an edge before e has these ends
abbrev pub joined_before : List ℕ → List ℕ → ℕ → ℕ → ℕ → Bool
joined_before lower upper e i j = any (λ f. eqb (get_or lower f 0) i && eqb (get_or upper f 0) j) (below e)

abbrev pub repeat_test : List ℕ → List ℕ → ℕ → ℕ → ℕ → List Test
repeat_test lower upper e i j = EdgeRepeated when (joined_before lower upper e i j) ∷ []

unfoldable pub ends_refusal : ℕ → List ℕ → List ℕ → ℕ → Line → Option Refusal
ends_refusal n lower upper e l = first_refusal (ends_tests n e l ++ repeat_test lower upper e (nat_abs l.b) (nat_abs l.c))

abbrev pub reading_of : Sizes → List ℕ → List ℕ → List ℤ → Reading
reading_of s lower upper w = record { case = case_with s lower upper; table = w }

unfoldable pub line_refusal : Rulebook → Reading → CaseDue → Option Line → Option Refusal
line_refusal b g due l = first_refusal (due_tests (rules_in b) g due l)

-- at the front of the bytes t
unfoldable pub due_refusal : Rulebook → Reading → CaseDue → List ℕ → Option Refusal
due_refusal b g due t = if is_cut (rules_in b) t then Some CutShort else first_refusal (due_tests (rules_in b) g due (first_line (rules_in b) t))

-- one line that was read: the answer is that of the definition, and what was lent is as it says
pub record Stepped (s : Sizes) (lower upper : List ℕ) (w : List ℤ) (l : Line) (due : CaseDue) (r : Result ⊤ Refusal) (g : Reading) : Type 0 where
  pub answer : r ≡ outcome_of (line_refusal s.rulebook (reading_of s lower upper w) due (Some l))
  pub left : g ≡ unless_refused (line_refusal s.rulebook (reading_of s lower upper w) due (Some l)) (took (reading_of s lower upper w) due (Some l))
      (reading_of s lower upper w)

-- the same of the bytes at whose front the line stands
pub record SteppedAt (s : Sizes) (lower upper : List ℕ) (w : List ℤ) (t : List ℕ) (due : CaseDue) (r : Result ⊤ Refusal) (g : Reading) : Type 0 where
  pub answer : r ≡ outcome_of (due_refusal s.rulebook (reading_of s lower upper w) due t)
  pub left : g ≡ unless_refused (due_refusal s.rulebook (reading_of s lower upper w) due t)
      (took (reading_of s lower upper w) due (first_line (rules_in s.rulebook) t)) (reading_of s lower upper w)

-- ---- what is left to read after q lines

unfoldable pub left_from : Sizes → Reading → ℕ → List ℕ → CaseCall
left_from s g q t = read_dues s.rulebook g (q + 1) (drop q (dues (case_of s.rulebook s.n s.d s.m))) (drop (bytes_of_line s.rulebook * (q + 1)) t)

abbrev pub no_ends : List ℕ
no_ends = replicate edge_places 0

-- the call that the answer and what was lent make
abbrev pub call_with : Rulebook → Result ℕ RefusedAt → Reading → CaseCall
call_with b (Ok lines) g = case_taken g lines
call_with b (Err x) g = case_refused b x.refusal x.line g.table
