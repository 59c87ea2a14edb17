use Rattle.std.proofs.lemmas.Result.{err_from_is_err_and}
use Rattle.std.specs.Prelude.{Option, Some, None, Err}
use mathlib.Core.Path.{◌≡◌, sym, ◌∙◌}
use Prim.Native.Nat.{ℕ}
use Rattle.definitions.specs.declared.Refusal.{Refusal}
use Rattle.definitions.specs.Answers.{outcome_of, answer_of}
use Rattle.pressing.proofs.ask_round.Goals as goal

-- the same refusal, whatever is answered where there is none
refused-alike : (o : Option Refusal) (n : ℕ) {x : Refusal} → Err x ≡ outcome_of o → Err x ≡ answer_of o n
refused-alike None n e = cc
refused-alike (Some y) n e = cc

pub returns-in_err-check_round : goal.returns-in_err-check_round
returns-in_err-check_round c =
    let p = err_from_is_err_and c.from_residual.result c.from_residual.ensures.1 in
    rw (p.1, p.2) (refused-alike _ 0 (sym c.in_err-check_round.was ∙ c.check_round.ensures))
