-- The shift after the check of what is handed over. Assumes nothing.
use Rattle.std.specs.Prelude.{Result, Ok, Err, ⊤}
use mathlib.Core.Path.{◌≡◌, sym, subst, ◌∙◌}
use mathlib.Core.Bool.{false}
use mathlib.Core.List.{List, [], ◌∷◌}
use Prim.Native.Nat.{ℕ, ◌≤◌}
use lib.IntN.{ℤ}
use lib.ListN.{length}
use Rattle.definitions.specs.declared.Case.{Case}
use Rattle.definitions.specs.declared.Refusal.{Refusal}
use Rattle.definitions.specs.declared.Refusal.TheVariants.{LeavesRange}
use Rattle.definitions.specs.Rules.{rules_of}
use Rattle.definitions.specs.Refusals.{Test, ◌when◌, first_refusal}
use Rattle.definitions.specs.Answers.{outcome_of}
use Rattle.definitions.specs.Case.{scope_count}
use Rattle.definitions.specs.Valid.{working_weight, handed_over}
use Rattle.definitions.specs.Moves.{shift, moved, leaves_range}
use Rattle.calls.specs.Calls.{move_call, shift_out, shift_call}
use Rattle.theory.proofs.Validity.{Handed}
use Rattle.tables.specs.Scopes.{BestOf, greatest_call}
use Rattle.tables.proofs.Best.{greatest-known}
use Rattle.changes.specs.Kept.{transfer_call}
use Rattle.changes.proofs.TransferLaws.{transfer-is-shift}
use Rattle.moves.proofs.Answers.{refused-answer, refused-table, next-answer, next-table}

-- ---- the call, by what the check answers
module _ (c : Case) (w : List ℤ) (e end v : ℕ) (a : ℤ) where
  abbrev asked : List Test
  asked = handed_over (rules_of c) (working_weight (rules_of c)) c w false (shift_out (rules_of c) c e end v a)

  abbrev leaves : List Test
  leaves = LeavesRange when (leaves_range (rules_of c) c w (moved c (shift e end v a) w)) ∷ []

  pub shift-refused : {x : Refusal} → Err x ≡ outcome_of (first_refusal asked)
      → Err x ≡ (shift_call (rules_of c) c w e end v a).answer × (w ≡ (shift_call (rules_of c) c w e end v a).table)
  unfolding shift_call
  shift-refused d = (refused-answer (rules_of c) c w (shift e end v a) asked leaves d, refused-table (rules_of c) c w (shift e end v a) asked leaves d)

  shift-next : Ok tt ≡ outcome_of (first_refusal asked)
      → ((move_call (rules_of c) c w (shift e end v a) leaves).answer ≡ (shift_call (rules_of c) c w e end v a).answer)
      × ((move_call (rules_of c) c w (shift e end v a) leaves).table ≡ (shift_call (rules_of c) c w e end v a).table)
  unfolding shift_call
  shift-next d = (next-answer (rules_of c) c w (shift e end v a) asked leaves d, next-table (rules_of c) c w (shift e end v a) asked leaves d)

  -- the transfer with the greatest weights made for it
  pub shift-given : Ok tt ≡ outcome_of (first_refusal asked) → Handed (rules_of c) (working_weight (rules_of c)) c w → shift_out (rules_of c) c e end v a ≡ false
      → (out : List ℤ) → scope_count c ≤ length out → {best : List ℤ} → best ≡ (greatest_call (rules_of c) c w out).best
      → {o : Result ⊤ Refusal} {t : List ℤ}
      → o ≡ (transfer_call (rules_of c) c w best e end v a).answer → t ≡ (transfer_call (rules_of c) c w best e end v a).table
      → (o ≡ (shift_call (rules_of c) c w e end v a).answer) × (t ≡ (shift_call (rules_of c) c w e end v a).table)
  shift-given d h inside out space g p q =
      let k = transfer-is-shift h (subst (λ (l : List ℤ). BestOf c w l) (sym g) (greatest-known out h space).1) e end v a inside in
      let n = shift-next d in
      (p ∙ k.0 ∙ n.0, q ∙ k.1 ∙ n.1)
