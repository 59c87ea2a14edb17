use mathlib.Core.Path.{◌≡◌, sym, ap, ap₂, ◌∙◌}
use mathlib.Core.Bool.{Bool, ◌||◌}
use Prim.Native.Nat.{ℕ}
use native.Mathlib.Omega.{arith}
use lib.Dec.{eqb}
use lib.ListN.{get_or}
use lib.Seq.{get_or-take, length-take-le}
use Rattle.tables.proofs.Search.{any_next}
use Rattle.joining.specs.Steps.{end_before}
use Rattle.joining.proofs.ends.end_before.Goals as goal

pub loop-end-preserved : goal.loop-end-preserved
loop-end-preserved c = let a = c.args in
    let l = c.loop-end in
    ap₂ (λ (x : Bool) (y : ℕ). x || eqb y a.i) l.invariant
    (get_or-take a.e a.lower.now l.end-index 0 (omega (arith, length-take-le a.e a.lower.now c.requires)))
    ∙ sym (any_next (λ f. eqb (get_or a.lower.now f 0) a.i) l.end-index)

pub returns : goal.returns
returns c = let a = c.args in
    let e : c.loop-end.end-index ≡ a.e = omega (arith, length-take-le a.e a.lower.now c.requires) in
    c.loop-end.invariant ∙ ap (λ n. end_before a.lower.now n a.i) e
