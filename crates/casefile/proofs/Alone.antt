-- A case with nothing after it. Assumes nothing.
use Rattle.definitions.specs.Answers.{refused_at}
use Rattle.case_lines.specs.Dues.{bytes_of_line}
use mathlib.Core.Path.{◌≡◌, refl, ap, ap₂, ◌∙◌}
use mathlib.Core.Bool.{Bool}
use mathlib.Core.Logic.{◌≢◌}
use mathlib.Core.List.{List}
use Prim.Native.Nat.{ℕ, ◌*◌}
use lib.IntN.{ℤ}
use lib.ListN.{length, drop}
use borrow.Author.Tests.{eq-eqb, ne_eqb}
use Rattle.std.specs.Prelude.{if◌then◌else◌, Result, Ok, Err, Option, Some, None}
use Rattle.definitions.specs.declared.Rulebook.{Rulebook}
use Rattle.definitions.specs.declared.Line.{Line}
use Rattle.definitions.specs.declared.Refusal.{Refusal}
use Rattle.definitions.specs.declared.Refusal.TheVariants.{NotDue, CutShort}
use Rattle.definitions.specs.Rules.{rules_in}
use Rattle.definitions.specs.Refusals.{first_refusal}
use Rattle.definitions.specs.CaseFiles.{CaseCall, case_refused, is_cut, first_line, end_tests, rest_refusal, nothing_after, read_lines, read_lines_alone}
use Rattle.casefile.proofs.Tests.{due-none}
use Rattle.casefile.proofs.Heads.{Front, cut, bad, good}

-- ---- the bytes after the case

rest_by : Rulebook → Bool → Option Line → Option Refusal
rest_by b short o = if short then Some CutShort else first_refusal (end_tests (rules_in b) o)

module _ (b : Rulebook) (t : List ℕ) where
  pub rest-empty : length t ≡ 0 → rest_refusal (rules_in b) t ≡ None
  rest-empty h = rw (eq-eqb (length t) 0 h)

  rest_some : length t ≢ 0 → rest_refusal (rules_in b) t ≡ rest_by b (is_cut (rules_in b) t) (first_line (rules_in b) t)
  unfolding rest_by
  rest_some h = rw (ne_eqb (length t) 0 h)

  pub rest-refused : length t ≢ 0 → {f : Result Line Refusal} {x : Refusal} → Front b t f → f ≡ Err x → rest_refusal (rules_in b) t ≡ Some x
  unfolding rest_by
  rest-refused h (cut e) p = rest_some h ∙ ap (λ short. rest_by b short (first_line (rules_in b) t)) e ∙ cc
  rest-refused h (bad e f) p = rest_some h ∙ ap₂ (rest_by b) e f ∙ cc
  rest-refused h (good e f) p = cc

  pub rest_read : length t ≢ 0 → {f : Result Line Refusal} {l : Line} → Front b t f → f ≡ Ok l → rest_refusal (rules_in b) t ≡ Some NotDue
  unfolding rest_by
  rest_read h (cut e) p = cc
  rest_read h (bad e f) p = cc
  rest_read h (good {l = k} e f) p = rest_some h ∙ ap₂ (rest_by b) e f ∙ rw (due-none b k)

-- ---- the call

abbrev rest_call : Rulebook → Option Refusal → CaseCall → ℕ → CaseCall
rest_call b None call lines = call
rest_call b (Some x) call lines = case_refused b x lines call.table

module _ (b : Rulebook) (t : List ℕ) (w : List ℤ) where
  pub alone-refused : {x : Refusal} {at : ℕ} → (read_lines b t w).read.answer ≡ Err (refused_at x at) → read_lines_alone b t w ≡ read_lines b t w
  alone-refused e = ap (nothing_after b t (read_lines b t w)) e

  module _ (lines : ℕ) (e : (read_lines b t w).read.answer ≡ Ok lines) where
    alone-is : read_lines_alone b t w ≡ rest_call b (rest_refusal (rules_in b) (drop (lines * bytes_of_line b) t)) (read_lines b t w) lines
    alone-is = ap (nothing_after b t (read_lines b t w)) e ∙ go (rest_refusal (rules_in b) (drop (lines * bytes_of_line b) t)) (read_lines b t w)
      where
        go : (o : Option Refusal) (call : CaseCall) → (elim o [
          | None ↦ call
          | Some x ↦ case_refused b x lines call.table
        ]) ≡ rest_call b o call lines
        go None call = refl
        go (Some x) call = refl

    pub alone-good : rest_refusal (rules_in b) (drop (lines * bytes_of_line b) t) ≡ None → read_lines_alone b t w ≡ read_lines b t w
    alone-good h = alone-is ∙ ap (λ o. rest_call b o (read_lines b t w) lines) h

    pub alone-more : {x : Refusal} → rest_refusal (rules_in b) (drop (lines * bytes_of_line b) t) ≡ Some x
        → read_lines_alone b t w ≡ case_refused b x lines (read_lines b t w).table
    alone-more h = alone-is ∙ ap (λ o. rest_call b o (read_lines b t w) lines) h
