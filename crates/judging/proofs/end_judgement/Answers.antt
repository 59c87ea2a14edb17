use Rattle.std.specs.Prelude.{Result, Ok, Err, ⊤}
use Rattle.std.specs.Result.{is_ok}
use mathlib.Core.Path.{◌≡◌, refl, sym, ◌∙◌}
use mathlib.Core.Bool.{true}
use Prim.Native.Nat.{ℕ}
use native.Mathlib.Omega.{arith}
use Rattle.definitions.specs.declared.Refusal.{Refusal}
use Rattle.judging.proofs.Ends.{finish-done}
use Rattle.judging.proofs.end_judgement.Goals as goal

good : (s : Result ⊤ Refusal) → true ≡ is_ok s → s ≡ Ok tt
good (Ok _) e = refl
good (Err x) e = let z : ◌≡◌ {A = ℕ} 0 1 = cc in absurd (omega arith)

pub good_judgement-requires : goal.good_judgement-requires
good_judgement-requires c =
    let a = c.args in
    let j = a.judging in
    finish-done j.case a.table.now j.replay a.part j.replay.standing
    (sym (good c.finish_standing.result c.in_ok-map_err.ensures.variant) ∙ c.finish_standing.ensures)
