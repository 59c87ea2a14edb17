use mathlib.Core.Path.{◌≡◌, sym, ap, subst, ◌∙◌}
use mathlib.Core.Bool.{Bool, ◌&&◌}
use Prim.Native.Nat.{ℕ, ◌+◌, ◌-◌, ◌<◌}
use native.Mathlib.Omega.{arith}
use lib.Dec.{ltb}
use lib.IntN.{ℤ, pos}
use lib.ListN.{get_or}
use mir.Syntax.{w64}
use mir.Val.{to_z, of_z}
use mir.Facts.{to_z-of_z}
use borrow.Author.Rules.{rules}
use Rattle.integers.specs.Words.{eq_z}
use Rattle.integers.specs.Linear.{read_back}
use Rattle.marks.specs.Marks.{mark}
use Rattle.marks.proofs.Laws.{byte_small}
use Rattle.changes.specs.Kept.{values_with}
use Rattle.changes.proofs.ValueLaws.{best-values-none, best-values-next, best-values-all}
use Rattle.changes.proofs.values_with.Goals as goal

pub loop-j-init : goal.loop-j-init
loop-j-init c =
    let a = c.args in
    (omega arith, best-values-none (λ v. eq_z (get_or a.table.now (a.from + v) (pos 0)) (to_z w64 (of_z w64 a.weight))) a.count)

pub loop-j-preserved : goal.loop-j-preserved
loop-j-preserved c =
    let l = c.loop-j in
    let a = c.args in
    let f : ℕ → Bool = λ v. eq_z (get_or a.table.now (a.from + v) (pos 0)) (to_z w64 (of_z w64 a.weight)) in
    let read = read_back w64 (get_or a.table.now (a.from + (l.j - 1)) (pos 0)) (search rules) in (
      subst (λ (x : ℕ). x < 256) (sym c.push-set.ensures) (byte_small _),
      best-values-next f a.count l.j (l.j - 1) l.set c.push-set.result c.same_weight.result (omega (arith, c.loop-j-test.true))
          (omega (arith, c.loop-j-test.true)) l.invariant.1
          (c.same_weight.ensures ∙ ap (λ (z : ℤ). eq_z z (to_z w64 (of_z w64 a.weight))) read) c.push-set.ensures,
    )

pub returns : goal.returns
returns c =
    let a = c.args in
    let l = c.loop-j in
    let z : l.j ≡ 0 = omega (arith, c.loop-j-test.false) in
    let f : ℕ → Bool = λ v. eq_z (get_or a.table.now (a.from + v) (pos 0)) (to_z w64 (of_z w64 a.weight)) in
    best-values-all f a.count l.set l.invariant.0 (subst (λ (j : ℕ). (v : ℕ) → v < 8 → mark l.set v ≡ (ltb (j + v) a.count && f (j + v))) z
    l.invariant.1)
    ∙ ap (values_with a.table.now a.from a.count) (to_z-of_z c.ranges.weight)
