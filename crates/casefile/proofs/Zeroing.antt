-- A case that was taken has few places, and 0 is written past them. Assumes nothing.
use Rattle.std.specs.Prelude.{Result, Ok, Err, is_ok}
use Rattle.definitions.specs.declared.RefusedAt.{RefusedAt}
use mathlib.Core.Path.{◌≡◌, refl, sym, ap, ap₂, subst, ◌∙◌}
use mathlib.Core.Bool.{true, false}
use mathlib.Core.List.{List}
use Prim.Native.Nat.{ℕ}
use native.Mathlib.Omega.{arith}
use lib.IntN.{ℤ}
use Rattle.definitions.specs.declared.Rulebook.{Rulebook}
use Rattle.definitions.specs.declared.Case.{Case}
use Rattle.definitions.specs.declared.CaseRead.{CaseRead}
use Rattle.definitions.specs.Rules.{rules_of, coherent}
use Rattle.definitions.specs.Case.{own_length}
use Rattle.definitions.specs.CaseFiles.{CaseCall, read_lines, read_lines_alone, zeroed_from, zeroed_past}
use Rattle.theory.proofs.Validity.{valid-facts}
use Rattle.case_theory.proofs.CaseReads.{zeroed_call, zeroed-read}
use Rattle.case_theory.proofs.CaseTexts.{IsText, written_read, written-read-alone}
use Rattle.casefile.specs.Past.{FewPlaces, call_of}

-- ---- by the answer
taken-lines : (x : Result ℕ RefusedAt) → is_ok x ≡ true → (lines : ℕ) × (x ≡ Ok lines)
taken-lines (Ok lines) e = (lines, refl)
taken-lines (Err x) e = cc

module _ (call : CaseCall) where
  pub past-taken : (x : Result ℕ RefusedAt) → is_ok x ≡ true → (zeroed_past call x).table ≡ zeroed_from (own_length call.read.case) call.table
  past-taken (Ok lines) e = refl
  past-taken (Err x) e = cc

  pub past-refused : (x : Result ℕ RefusedAt) → is_ok x ≡ false → (zeroed_past call x).table ≡ call.table
  past-refused (Ok lines) e = cc
  past-refused (Err x) e = refl

  -- what is handed back
  pub handed-past : {u : CaseRead} {v w : List ℤ} → (u ≡ call.read) × (v ≡ call.table) → w ≡ (zeroed_past (call_of u v) u.answer).table
      → (u ≡ (zeroed_call call).read) × (w ≡ (zeroed_call call).table)
  handed-past (p, q) e = (p ∙ sym (zeroed-read call), e ∙ ap₂ (λ u v. (zeroed_past (call_of u v) u.answer).table) p q)

-- ---- the places of a case that was taken
text-few : (c : Case) (w : List ℤ) {lines : ℕ} {t : List ℕ} → IsText c w lines t → FewPlaces c
text-few c w h =
    let v = valid-facts (rules_of c) c w h.accepted in
    let k = coherent c.rulebook in
    (omega (arith, v.variables-most, k.variables-few), omega (arith, v.values-most, k.values-few), omega (arith, v.edges_most, k.edges_placed))

module _ (call : CaseCall) {u : CaseRead} (e : u ≡ call.read) where
  few-by : ((lines : ℕ) → (zeroed_call call).read.answer ≡ Ok lines → FewPlaces (zeroed_call call).read.case)
      → is_ok u.answer ≡ true → FewPlaces u.case
  few-by few t =
      let same : (zeroed_call call).read ≡ u = zeroed-read call ∙ sym e in
      let (lines, p) = taken-lines u.answer t in
      subst (λ (x : CaseRead). FewPlaces x.case) same (few lines (ap (λ (x : CaseRead). x.answer) same ∙ p))

module _ (b : Rulebook) (t : List ℕ) (w : List ℤ) {u : CaseRead} where
  pub lines-few : u ≡ (read_lines b t w).read → is_ok u.answer ≡ true → FewPlaces u.case
  lines-few e = few-by (read_lines b t w) e (λ lines p. text-few _ _ (written_read b t w p))

  pub alone-few : u ≡ (read_lines_alone b t w).read → is_ok u.answer ≡ true → FewPlaces u.case
  alone-few e = few-by (read_lines_alone b t w) e (λ lines p. text-few _ _ (written-read-alone b t w p))
