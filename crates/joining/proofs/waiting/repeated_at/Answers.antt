use mathlib.Core.Path.{◌≡◌, sym, ap, ap₂, ◌∙◌}
use mathlib.Core.Bool.{Bool, ◌||◌}
use Prim.Native.Nat.{ℕ, ◌≤◌}
use native.Mathlib.Omega.{arith}
use lib.Dec.{eqb}
use lib.ListN.{length, get_or}
use lib.Seq.{get_or-take, length-take-le}
use Rattle.integers.specs.Words.{any, below}
use Rattle.tables.proofs.Search.{any_next}
use Rattle.joining.proofs.waiting.repeated_at.Goals as goal

pub loop-before-preserved : goal.loop-before-preserved
loop-before-preserved c = let a = c.args in
    let l = c.loop-before in
    let end = get_or a.lower.now a.e 0 in
    let h : a.e ≤ length a.lower.now = omega arith in
    ap₂ (λ (x : Bool) (y : ℕ). x || eqb end y) l.invariant
    (get_or-take a.e a.lower.now l.before-index 0 (omega (arith, length-take-le a.e a.lower.now h)))
    ∙ sym (any_next (λ f. eqb end (get_or a.lower.now f 0)) l.before-index)

pub returns : goal.returns
returns c = let a = c.args in
    let h : a.e ≤ length a.lower.now = omega arith in
    let e : c.loop-before.before-index ≡ a.e = omega (arith, length-take-le a.e a.lower.now h) in
    c.loop-before.invariant ∙ ap (λ n. any (λ g. eqb (get_or a.lower.now a.e 0) (get_or a.lower.now g 0)) (below n)) e
