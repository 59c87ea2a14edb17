-- The total of an assignment under starting weights, and what the check of two assignments says. Assumes nothing.
use mathlib.Core.Path.{◌≡◌, refl, sym, ap, ◌∙◌}
use mathlib.Core.Bool.{Bool, true, false, not, ◌||◌}
use mathlib.Core.Logic.{◌↔◌}
use mathlib.Core.List.{List}
use Prim.Native.Nat.{ℕ}
use lib.IntN.{ℤ}
use lib.Dec.{T}
use Rattle.std.specs.Prelude.{if◌then◌else◌, Result, Ok, Err, Option, Some, None, is_some}
use Rattle.integers.specs.Tests.{not-or-iff}
use Rattle.definitions.specs.declared.Case.{Case}
use Rattle.definitions.specs.declared.Refusal.{Refusal}
use Rattle.definitions.specs.declared.Choice.{Choice}
use Rattle.definitions.specs.Rules.{rules_of, coherent}
use Rattle.definitions.specs.Refusals.{first_refusal}
use Rattle.definitions.specs.Answers.{outcome_of, answer_of}
use Rattle.definitions.specs.Case.{objective, is_assignment, uses_barred}
use Rattle.definitions.specs.Valid.{starting_weight, working_weight, wrong_assignment, value_out, handed_over}
use Rattle.calls.specs.Calls.{objective_answer}
use Rattle.definitions.specs.Scoring.{lawful_total, ranks_below, better_of}
use Rattle.theory.proofs.Validity.{handed, Valid, working-handed, lent-assignment}
use Rattle.tables.proofs.Order.{outcome-done, outcome-refused}
use Rattle.plans.specs.Totals.{total_in}

-- a figure has a total just where no refusal applies
total_of : (o : Option Refusal) (b : Bool) (z : ℤ) → T (not (is_some o)) ↔ T (not b) → total_in (answer_of o z) ≡ (if b then None else Some z)
total_of None true z f = absurd (f.0 tt)
total_of None false z f = refl
total_of (Some x) true z f = refl
total_of (Some x) false z f = absurd (f.1 tt)

-- an assignment's objective is refused just where it is unlawful
pub total-given : {c : Case} {w : List ℤ} → Valid (rules_of c) c w → (p : List ℕ) → T (is_assignment c p)
    → total_in (objective_answer (rules_of c) c w p) ≡ lawful_total c w p
unfolding objective_answer
total-given {c} {w} h p a =
    let (s, t) = (lent-assignment c p).1 a in
    let out = value_out c p || uses_barred c w p in
    let f = handed (rules_of c) (working_weight (rules_of c)) c w (wrong_assignment c p) out in
    let g = not-or-iff (value_out c p) (uses_barred c w p) in
    total_of (first_refusal (handed_over (rules_of c) (working_weight (rules_of c)) c w (wrong_assignment c p) out)) (uses_barred c w p) (objective c w p)
    (λ n. (g.0 (f.0 n).2).1, λ u. f.1 (working-handed (coherent c.rulebook) h, s, g.1 (t, u)))

chosen : (b : Bool) → ◌≡◌ {A = Result Choice Refusal} (Ok (if b then Choice.Second else Choice.First)) (if b then Ok Choice.Second else Ok Choice.First)
chosen true = refl
chosen false = refl

module _ (c : Case) (w : List ℤ) (p q : List ℕ) where
  -- what is asked of two assignments
  abbrev pub scores_asked : Option Refusal
  scores_asked = first_refusal (handed_over (rules_of c) (starting_weight (rules_of c)) c w (wrong_assignment c p || wrong_assignment c q) (value_out c p || value_out c q))

  pub both-known : Ok tt ≡ outcome_of scores_asked → Valid (rules_of c) c w × T (is_assignment c p) × T (is_assignment c q)
  both-known e =
      let d : scores_asked ≡ None = outcome-done e in
      let (v, s, t) = (handed (rules_of c) (starting_weight (rules_of c)) c w (wrong_assignment c p || wrong_assignment c q) (value_out c p || value_out c q)).0
      (rw d tt) in
      let (s₁, s₂) = (not-or-iff (wrong_assignment c p) (wrong_assignment c q)).0 s in
      let (t₁, t₂) = (not-or-iff (value_out c p) (value_out c q)).0 t in
      (v, (lent-assignment c p).0 (s₁, t₁), (lent-assignment c q).0 (s₂, t₂))

  abbrev choice_of : Option Refusal → Result Choice Refusal
  choice_of o = elim o [
    | Some x ↦ Err x
    | None ↦ if ranks_below (lawful_total c w p) (lawful_total c w q) then Ok Choice.Second else Ok Choice.First
  ]

  pub choice-refused : {x : Refusal} → Err x ≡ outcome_of scores_asked → Err x ≡ better_of (rules_of c) c w p q
  choice-refused {x} e = let d : scores_asked ≡ Some x = outcome-refused e in sym (ap choice_of d)

  pub choice-made : Ok tt ≡ outcome_of scores_asked
      → Ok (if ranks_below (lawful_total c w p) (lawful_total c w q) then Choice.Second else Choice.First) ≡ better_of (rules_of c) c w p q
  choice-made e = let d : scores_asked ≡ None = outcome-done e in chosen (ranks_below (lawful_total c w p) (lawful_total c w q)) ∙ sym (ap choice_of d)
