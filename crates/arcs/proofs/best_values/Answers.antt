use mathlib.Core.Path.{◌≡◌, refl, sym, ap, subst, ◌∙◌}
use mathlib.Core.Bool.{Bool, true, false}
use borrow.Author.Tests.{eqb-true, eq-eqb}
use lib.Dec.{T, T_not, eqb}
use Prim.Native.Nat.{◌+◌, ◌-◌, ◌<◌, ◌^◌}
use native.Mathlib.Omega.{arith}
use lib.IntN.{ℤ, pos}
use lib.ListN.{get_or}
use mir.Syntax.{w64}
use mir.Val.{hbits, of_z}
use lib.Signed.{mag}
use Rattle.integers.specs.Words.{eq_z}
use Rattle.integers.specs.Linear.{read_back, same_bits, other-bits}
use Rattle.arcs.specs.Active.{best_marks}
use Rattle.arcs.proofs.Marked.{values_from, values-none, values-next, values-all}
use borrow.Author.Rules.{rules}
use Rattle.arcs.proofs.best_values.Goals as goal

same-words : (a b : ℤ) → mag a < 2 ^ hbits w64 → mag b < 2 ^ hbits w64 → eqb (of_z w64 a) (of_z w64 b) ≡ eq_z a b
same-words a b p q = go (eqb (of_z w64 a) (of_z w64 b)) refl
  where
    go : (x : Bool) → eqb (of_z w64 a) (of_z w64 b) ≡ x → x ≡ eq_z a b
    go true e = same_bits a b p q (eqb-true (of_z w64 a) (of_z w64 b) e)
    go false e = other-bits a b p q (λ h. T_not false tt (subst T (sym (eq-eqb (of_z w64 a) (of_z w64 b) h) ∙ e) tt))

pub loop-j-init : goal.loop-j-init
loop-j-init c = values-none _ _

pub loop-j-preserved : goal.loop-j-preserved
loop-j-preserved c =
    let a = c.args in
    let l = c.loop-j in
    let weight = get_or a.table.now (a.from + (l.j - 1)) (pos 0) in
    values-next _ a.d l.j (l.j - 1) (omega arith) (omega arith) _ _ _ l.invariant
    (same-words weight a.best (search rules) c.ranges.best.sfits ∙ ap (eq_z weight) (sym (read_back w64 a.best c.ranges.best.sfits)))
    c.push-set.ensures

pub returns : goal.returns
returns c =
    let a = c.args in
    let z : c.loop-j.j ≡ 0 = omega arith in
    c.loop-j.invariant ∙ ap (values_from _ a.d) z ∙ values-all _ a.d ∙ ap (best_marks a.table.now a.from a.d)
    (read_back w64 a.best c.ranges.best.sfits)
