use mathlib.Core.Path.{◌≡◌, sym, ap, ◌∙◌}
use Prim.Native.Nat.{ℕ, ◌-◌, ◌≤◌}
use native.Mathlib.Omega.{arith}
use lib.IntN.{pos}
use lib.ListN.{length, drop, length-drop}
use lib.Seq.{take_all}
use mir.Facts.{to_z-of_z}
use Rattle.integers.specs.Words.{all, eq_z}
use Rattle.definitions.specs.Case.{own_length}
use Rattle.definitions.specs.Valid.{zeros_from}
use Rattle.tables.proofs.Paired.{first-paired}
use Rattle.tables.proofs.both.is_first.Goals as goal
use Rattle.tables.proofs.both.is_first.Goals.{After-all_zero, Start}

-- src/lib.rt:398:9
-- whether all past the own places are 0
past : (c : After-all_zero) → c.all_zero.result ≡ zeros_from (own_length c.args.case) c.args.starting.now
past c =
    let w = c.args.starting.now in
    let own = c.own_length-own.result in
    c.all_zero.ensures
    ∙ ap (all (λ z. eq_z z (pos 0))) (take_all (length w - own) (drop own w) (omega (arith, length-drop own w)))
    ∙ ap (λ (p : ℕ). zeros_from p w) c.own_length-own.ensures

fits : (i : Start) → own_length i.args.case ≤ length i.args.starting.now
fits i = omega (arith, i.requires.limited.own-lent, i.requires.starting_len.0)

pub returns-then-all_zero : goal.returns-then-all_zero
returns-then-all_zero c =
    let a = c.args in
    (simp (to_z-of_z c.ranges.low, to_z-of_z c.ranges.high, c.own_length-own.ensures) at c.all_paired.ensures)
    ∙ first-paired a.low a.high a.case a.starting.now a.table.now (fits (goal.at.returns-then-all_zero c).Start) (sym (past (goal.at.returns-then-all_zero c).After-all_zero) ∙ c.if-all_zero.true)
