use mathlib.Core.Path.{◌≡◌, sym, ap, ◌∙◌}
use Prim.Native.Nat.{ℕ, ◌-◌}
use lib.IntN.{pos}
use lib.ListN.{length, drop, length-drop}
use mir.Facts.{to_z-of_z}
use Rattle.tables.proofs.Search.{and-true}
use Rattle.definitions.specs.Case.{own_length}
use Rattle.definitions.specs.Valid.{zeros_from}
use native.Mathlib.Omega.{arith}
use lib.Seq.{take_all}
use Rattle.integers.specs.Words.{all, eq_z}
use Rattle.tables.proofs.weight_outcome.Goals as goal
use Rattle.tables.proofs.weight_outcome.Goals.{After-all_zero}

-- whether all past the own places are 0
past : (c : After-all_zero) → c.all_zero.result ≡ zeros_from (own_length c.args.case) c.args.table.now
past c =
    let w = c.args.table.now in
    let own = c.own_length-own.result in
    c.all_zero.ensures
    ∙ ap (all (λ z. eq_z z (pos 0))) (take_all (length w - own) (drop own w) (omega (arith, length-drop own w)))
    ∙ ap (λ (p : ℕ). zeros_from p w) c.own_length-own.ensures

pub returns-then-all_zero : goal.returns-then-all_zero
returns-then-all_zero c =
    let z = sym (past (goal.at.returns-then-all_zero c).After-all_zero) ∙ c.if-all_zero.true in
    rw (z, and-true) (simp (to_z-of_z c.ranges.low, to_z-of_z c.ranges.high) at c.own_outcome.ensures)
