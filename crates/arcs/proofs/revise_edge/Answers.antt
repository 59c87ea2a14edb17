use mathlib.Core.Path.{refl, ap, ap₂, ◌∙◌}
use native.Mathlib.Omega.{arith}
use lib.ListN.{get_or, set}
use Rattle.arcs.specs.Sweeps.{change_of, both_of}
use Rattle.arcs.proofs.Steps.{swept-free, swept-edge}
use borrow.Author.Rules.{rules}
use Rattle.arcs.proofs.revise_edge.Goals as goal

pub returns-then-raised-e-eq0 : goal.returns-then-raised-e-eq0
returns-then-raised-e-eq0 c =
    swept-free _ _ _ _ _ c.requires.well_formed _ refl (λ j. omega (arith, c.type_inv.sets j)) _ c.requires.e_in_bounds c.if-raised-e-eq0.true

pub returns : goal.returns
returns c =
    let a = c.args in
    let i = get_or a.lower.now a.e 0 in
    let j = get_or a.upper.now a.e 0 in
    let S = a.sets.now in
    let S₁ = c.revise-kept.new.sets in
    let e₁ = c.revise-kept.ensures in
    let e₂ = c.revise-left.ensures in
    swept-edge _ _ _ _ _ c.requires.well_formed S refl (λ j. search rules) a.e c.requires.e_in_bounds S₁ _ _ _
    (λ j. search rules) c.if-raised-e-eq0.false (e₁.0 ∙ ap (set S i) e₁.1) refl
    (e₂.0 ∙ ap (set S₁ j) e₂.1) refl _
    (c.edge_change.ensures ∙ ap₂ both_of (ap (change_of (get_or S i 0)) e₁.1) (ap (change_of (get_or S₁ j 0)) e₂.1))
