use mathlib.Core.Path.{sym, ap, ◌∙◌}
use mathlib.Core.Bool.{not}
use Prim.Native.Nat.{◌<◌}
use native.Mathlib.Omega.{arith}
use lib.ListN.{length}
use borrow.Author.Tests.{ne_eqb}
use Rattle.integers.specs.Tests.{true-is}
use Rattle.engine.proofs.Trims.{enough-without, enough-kept, dropped-free, dropped-not}
use Rattle.engine.proofs.trim.drop_scope.Goals as goal

pub returns-then-enough-x-eq0 : goal.returns-then-enough-x-eq0
returns-then-enough-x-eq0 c = λ w p n.
    let a = c.args in
    let long : a.x < length a.raised.now = omega (arith, c.requires) in
    let m = enough-without a.case w a.variable a.x long n c.if-enough-x-eq0.true in
    (m, dropped-free a.case w a.variable a.x long m)

pub returns : goal.returns
returns c = λ w p n.
    let a = c.args in
    let long : a.x < length a.raised.now = omega (arith, c.requires) in (
      enough-kept a.case w a.variable a.x long n,
      dropped-not a.case w a.variable a.x long (n.inside a.x c.requires.variable_lt_n.1
          (true-is _ (ap not (ne_eqb _ _ c.if-enough-x-eq0.false)))) (sym (c.refutes.ensures w p) ∙ c.if-refutes.false),
    )
