use Rattle.std.specs.Prelude.{Ok}
use mathlib.Core.Path.{◌≡◌, sym, ap, ◌∙◌}
use mathlib.Core.Bool.{false}
use Prim.Native.Nat.{ℕ, ◌+◌, ◌<◌}
use native.Mathlib.Omega.{arith}
use lib.IntN.{pos, ◌+ℤ◌}
use Rattle.integers.specs.Words.{within_z, minus}
use lib.Dec.{T}
use mir.Syntax.{w64}
use mir.Val.{to_z, of_z}
use mir.Facts.{to_z-of_z}
use lib.ListN.{get_or, take}
use lib.Seq.{get_or-take, length-take-le}
use borrow.Author.Count.{below_more}
use borrow.Author.Tests.{not-true, not-false}
use Rattle.integers.specs.Linear.{read_back}
use Rattle.integers.specs.Tests.{true-is}
use Rattle.integers.specs.Sums.{Σ}
use Rattle.definitions.specs.Rules.{rules_of, coherent}
use Rattle.definitions.specs.Valid.{in_working, carry_out}
use Rattle.tables.specs.Scopes.{best_at}
use Rattle.tables.proofs.Bounds.{sum_more, sum_fits, sum-given, sum-refused}
use Rattle.tables.proofs.sum_in_range.Goals as goal
use Rattle.tables.proofs.sum_in_range.Goals.{After-is_working, After-struct_told-1, Else-carry_out, Else-not-is_working}

-- the carry is in its range
carry-in : (c : Else-carry_out) → carry_out (rules_of c.args.case) c.args.case ≡ false
carry-in c = sym c.carry_out.ensures ∙ c.if-carry_out.false

carry-read : (c : After-struct_told-1) → let a = c.args in
    to_z w64 (of_z w64 a.case.carry) ≡ a.case.carry
carry-read c = read_back w64 c.args.case.carry c.struct_told-1.given.1.1.1.1.1.0.1

-- the number at x, and that x is a scope
value : (c : After-is_working) → (c.loop-weight.weight-index < c.args.case.n + c.args.case.m)
    × (get_or (take c.scope_count-scopes.result c.args.best.now) c.loop-weight.weight-index (pos 0) ≡ best_at c.args.best.now c.loop-weight.weight-index)
value c =
    let b = c.args.best.now in
    let n = c.scope_count-scopes.result in
    let i = c.loop-weight.weight-index in
    let h : i < n = omega (arith, length-take-le n b (omega arith)) in
    (omega arith, get_or-take n b i (pos 0) h)

asked : (c : After-is_working) → c.is_working.result ≡ in_working (rules_of c.args.case) (best_at c.args.best.now c.loop-weight.weight-index)
asked c = rw (read_back w64 _ c.weight-1.given, (value c).1) at c.is_working.ensures

pub returns-then-not-is_working : goal.returns-then-not-is_working
returns-then-not-is_working c = let a = c.args in
    let d = (goal.at.returns-then-not-is_working c).After-is_working in
    sum-refused a.case (best_at a.best.now) (carry-in (goal.at.returns-then-not-is_working c).Else-carry_out) c.loop-weight.weight-index (value d).0
    (sym (asked d) ∙ not-true _ c.if-not-is_working.true-raw)

-- what holds of the scopes up to x, and their sum
passed : (c : Else-not-is_working) → (y : ℕ) → y < c.loop-weight.weight-index + 1 → T (in_working (rules_of c.args.case) (best_at c.args.best.now y))
passed c = below_more _ _ c.loop-weight.invariant.0 (true-is _ (sym (asked (goal.at.Else-not-is_working c).After-is_working) ∙ not-false _ c.if-not-is_working.false-raw))

next : (c : Else-not-is_working) → let f = best_at c.args.best.now in
    to_z w64 c.loop-weight.sum-bits +ℤ to_z w64 (of_z w64 (get_or (take c.scope_count-scopes.result c.args.best.now) c.loop-weight.weight-index (pos 0)))
    ≡ Σ f 0 (c.loop-weight.weight-index + 1) +ℤ to_z w64 (of_z w64 c.args.case.carry)
next c =
    let f = best_at c.args.best.now in
    let d = (goal.at.Else-not-is_working c).After-is_working in
    sum_more f (to_z w64 (of_z w64 c.args.case.carry)) c.loop-weight.weight-index c.loop-weight.invariant.1
    (read_back w64 _ d.weight-1.given ∙ (value d).1)

pub overflow_add-sum : goal.overflow_add-sum
overflow_add-sum c = let a = c.args in
    let e = (goal.at.overflow_add-sum c).Else-not-is_working in
    rw (next e, carry-read (goal.at.overflow_add-sum c).After-struct_told-1) (sum_fits (best_at a.best.now) (coherent a.case.rulebook) (c.loop-weight.weight-index + 1)
    (omega (arith, (value (goal.at.overflow_add-sum c).After-is_working).0)) (passed e)
    a.case.carry (true-is _ (not-false (within_z (minus (rules_of a.case).carried) (pos (rules_of a.case).carried) a.case.carry) (carry-in (goal.at.overflow_add-sum c).Else-carry_out))))

pub loop-weight-preserved : goal.loop-weight-preserved
loop-weight-preserved c =
    let e = (goal.at.loop-weight-preserved c).Else-not-is_working in
    (passed e, to_z-of_z (overflow_add-sum c) ∙ next e)

pub returns : goal.returns
returns c = let l = c.loop-weight in
    let a = c.args in
    let e : l.weight-index ≡ a.case.n + a.case.m = omega (arith, length-take-le c.scope_count-scopes.result a.best.now (omega arith)) in
    ap Ok (rw (e, carry-read (goal.at.returns c).After-struct_told-1) at l.invariant.1)
    ∙ sum-given a.case (best_at a.best.now) (carry-in (goal.at.returns c).Else-carry_out) (λ y h. l.invariant.0 y (omega arith))
