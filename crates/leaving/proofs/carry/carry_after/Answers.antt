use mathlib.Core.Path.{◌≡◌, sym, ap, ap₂, subst, ◌∙◌}
use Prim.Native.Nat.{ℕ, ◌+◌, ◌≤◌}
use native.Mathlib.Omega.{arith}
use lib.IntN.{◌+ℤ◌, +ℤ_idl}
use mir.Syntax.{w64}
use borrow.Author.Rules.{rules}
use mir.Val.{to_z, of_z, SFits}
use mir.Facts.{to_z-of_z}
use Rattle.integers.specs.Linear.{read_back}
use Rattle.tables.proofs.Bounds.{sum_more}
use Rattle.leaving.specs.Scopes.{growth, edge_growth}
use Rattle.leaving.proofs.Growth.{carry_to, carry-fits, carry-whole}
use Rattle.leaving.proofs.carry.carry_after.Goals as goal
use Rattle.leaving.proofs.carry.carry_after.Goals.{After-edge_growth-carry, After-scope_growth, Start}

base : (c : After-scope_growth) → let a = c.args in
    to_z w64 (of_z w64 a.case.carry) +ℤ to_z w64 (of_z w64 c.scope_growth.result)
    ≡ a.case.carry +ℤ growth a.case a.starting.now a.table.now a.variable
base c =
    let g = c.scope_growth in
    ap₂ ◌+ℤ◌ (read_back w64 c.args.case.carry (search rules))
    (read_back w64 g.result g.type_inv ∙ g.ensures)

fits : (i : Start) (e : ℕ) → e ≤ i.args.case.m → let a = i.args in
    SFits w64 (carry_to a.case a.starting.now a.table.now i.requires.both_handed a.variable e)
fits i = let a = i.args in carry-fits a.case a.starting.now a.table.now i.requires.both_handed a.variable i.requires.variable_lt_n

pub overflow_add-carry : goal.overflow_add-carry
overflow_add-carry c = rw (base (goal.at.overflow_add-carry c).After-scope_growth) (subst (SFits w64) (+ℤ_idl _) (fits (goal.at.overflow_add-carry c).Start 0 (omega arith)))

pub loop-e-init : goal.loop-e-init
loop-e-init c = to_z-of_z (overflow_add-carry c) ∙ base (goal.at.loop-e-init c).After-scope_growth ∙ sym (+ℤ_idl _)

next : (c : After-edge_growth-carry) → let a = c.args in
    to_z w64 c.loop-e.carry-bits +ℤ to_z w64 (of_z w64 c.edge_growth-carry.result)
    ≡ carry_to a.case a.starting.now a.table.now c.requires.both_handed a.variable (c.loop-e.e + 1)
next c =
    let a = c.args in
    let g = c.edge_growth-carry in
    sum_more (edge_growth a.case a.starting.now a.table.now a.variable)
    (a.case.carry +ℤ growth a.case a.starting.now a.table.now a.variable) c.loop-e.e c.loop-e.invariant
    (read_back w64 g.result g.type_inv ∙ g.ensures)

pub overflow_add-carry-in-loop-e : goal.overflow_add-carry-in-loop-e
overflow_add-carry-in-loop-e c = rw (next c) (fits (goal.at.overflow_add-carry-in-loop-e c).Start (c.loop-e.e + 1) (omega arith))

pub loop-e-preserved : goal.loop-e-preserved
loop-e-preserved c = to_z-of_z (overflow_add-carry-in-loop-e c) ∙ next c

pub returns : goal.returns
returns c = let a = c.args in
    let e : c.loop-e.e ≡ a.case.m = omega arith in
    c.loop-e.invariant ∙ ap (carry_to a.case a.starting.now a.table.now c.requires.both_handed a.variable) e
    ∙ carry-whole a.case a.starting.now a.table.now c.requires.both_handed a.variable
