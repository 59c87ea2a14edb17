use mathlib.Core.Path.{◌≡◌, ap, subst, ◌∙◌}
use Prim.Native.Nat.{ℕ}
use native.Mathlib.Omega.{arith}
use lib.IntN.{ℤ, pos}
use lib.ListN.{get_or}
use mir.Syntax.{w64}
use Rattle.integers.specs.Linear.{read_back}
use Rattle.arcs.specs.Active.{set_where, has_weight, has_best, Written}
use Rattle.arcs.proofs.Marked.{written_next, sets-written}
use borrow.Author.Rules.{rules}
use Rattle.arcs.proofs.write_sets.Goals as goal

pub loop-j-preserved : goal.loop-j-preserved
loop-j-preserved c =
    let a = c.args in
    let l = c.loop-j in
    written_next _ _ _ _ _ l.invariant (omega (arith, l.invariant.same_length, c.requires.case_in_bounds.1))
    (c.set_with.ensures
    ∙ ap (λ (b : ℤ). set_where a.case (has_weight a.case a.table.now b) l.j)
    (read_back w64 (get_or a.best.now l.j (pos 0)) (search rules)))

pub returns : goal.returns
returns c =
    let a = c.args in
    let l = c.loop-j in
    let all : l.j ≡ a.case.n = omega arith in
    sets-written _ _ _ _ _ c.requires.case_in_bounds.1
    (subst (λ (n : ℕ). Written (set_where a.case (has_best a.case a.table.now a.best.now)) 0 n a.sets.now l.sets) all l.invariant)
