use mathlib.Core.Path.{◌≡◌, refl, ◌∙◌}
use Prim.Native.Nat.{ℕ, ◌<◌}
use native.Mathlib.Omega.{arith}
use Rattle.std.specs.Prelude.{Option, Some, None, unwrap_or}
use Rattle.definitions.specs.Rules.{scope_places}
use Rattle.lines.proofs.RaiseTexts.{raised-line}
use Rattle.checker.proofs.raise_runs.scope_or_none.Goals as goal

-- what is below the number given where nothing is there, is there
there : {P : ℕ → Type 0} (n : ℕ) (o : Option ℕ) → ((x : ℕ) → Some x ≡ o → P x) → unwrap_or o n < n → P (unwrap_or o n)
there n None f h = absurd (omega arith)
there n (Some x) f h = f x refl

pub returns : goal.returns
returns c =
    rw c.unwrap_or.ensures (there scope_places c.raised_scope.result (λ x e. raised-line c.args.width c.args.bytes.now c.requires (e ∙ c.raised_scope.ensures)))
