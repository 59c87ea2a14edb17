-- The three calls; the value is a count. Assumes nothing.
use Rattle.std.specs.Prelude.{Result, Option, Some, None}
use mathlib.Core.Path.{◌≡◌, refl, ap, ◌∙◌}
use mathlib.Core.Bool.{Bool, false, not}
use mathlib.Core.List.{List}
use Prim.Native.Nat.{ℕ}
use native.Mathlib.Omega.{arith}
use lib.IntN.{ℤ, pos}
use lib.Dec.{ltb}
use lib.Signed.{lt_z}
use Rattle.definitions.specs.declared.Case.{Case}
use Rattle.definitions.specs.declared.Refusal.{Refusal}
use Rattle.definitions.specs.Rules.{Rules, rules_of}
use Rattle.definitions.specs.Refusals.{first_refusal}
use Rattle.definitions.specs.Answers.{figure_says, value_at}
use Rattle.definitions.specs.Valid.{working_weight, handed_over}
use Rattle.definitions.specs.Families.{supported_value}
use Rattle.calls.specs.Calls.{FamilyCall, family_found, family_short, supported_value_call}
use Rattle.encoding.specs.CaseBytes.{case_in}
use Rattle.checker_library.specs.Answers.{value_of}
use Rattle.checker_library.specs.Calls.{value_call}
use borrow.Author.Tests.{le-ltb}
use Rattle.checker_library.proofs.ceiling_supported_value.Goals as goal

abbrev below : Result ℤ Refusal → Bool
below x = lt_z (value_at (figure_says x) 0) (pos 0)

found-counts : (c : Case) (w : List ℤ) (i : ℕ) (family partners : List ℕ) (asked : Option Refusal) (found : Option ℕ)
    → below (family_found c w i family partners asked found).answer ≡ false
found-counts c w i family partners (Some x) found = refl
found-counts c w i family partners None None = refl
found-counts c w i family partners None (Some k) = le-ltb k 0 (omega arith)

counts : (r : Rules) (c : Case) (w : List ℤ) (i : ℕ) (family partners : List ℕ) → below (supported_value_call r c w i family partners).answer ≡ false
unfolding supported_value_call
counts r c w i family partners =
    found-counts c w i family partners (first_refusal (handed_over r (working_weight r) c w (family_short c family partners) (not (ltb i c.n))))
    (supported_value c w i)

pub value_of-requires : goal.value_of-requires
value_of-requires c =
    let a = c.args in
    let call : Case → FamilyCall = λ x. supported_value_call (rules_of x) x a.table.now a.link a.family.now a.partners.now in
    let x = case_in a.case.now in
    ap below (c.supported_value.ensures.0 ∙ ap (λ (y : Case). (call y).answer) c.case_of.ensures)
    ∙ counts (rules_of x) x a.table.now a.link a.family.now a.partners.now

pub returns : goal.returns
unfolding value_call
returns c =
    let a = c.args in
    let (p, q, s) = c.supported_value.ensures in
    let call : Case → FamilyCall = λ x. supported_value_call (rules_of x) x a.table.now a.link a.family.now a.partners.now in
    let e = c.case_of.ensures in (
      c.value_of.ensures ∙ ap (λ (x : Result ℤ Refusal). value_of (figure_says x)) (p ∙ ap (λ (x : Case). (call x).answer) e),
      q ∙ ap (λ (x : Case). (call x).family) e,
      s ∙ ap (λ (x : Case). (call x).partners) e,
    )
