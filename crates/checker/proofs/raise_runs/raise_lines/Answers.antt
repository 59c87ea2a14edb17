use Rattle.std.specs.Prelude.{Some}
use mathlib.Core.Path.{◌≡◌, subst}
use mathlib.Core.Logic.{◌≢◌}
use Prim.Native.Nat.{ℕ, ◌+◌, ◌-◌, ◌≤◌, ◌<◌}
use native.Mathlib.Omega.{arith}
use lib.ListN.{length, take, drop, length-set, length-drop}
use Rattle.integers.specs.Tests.{tests}
use Rattle.definitions.specs.Rules.{rules_in}
use Rattle.definitions.specs.Lines.{read_line, line_length}
use Rattle.definitions.specs.RoundLines.{raise_line}
use Rattle.checker.proofs.Raising.{one-raise-line}
use Rattle.checker.proofs.raise_runs.raise_lines.Goals as goal
use Rattle.checker.proofs.raise_runs.raise_lines.Goals.{After-amount_width-width, Else-not-x-scopes}

line-is : (c : After-amount_width-width) → c.line_length-line.result ≡ line_length (rules_in c.args.rulebook).amount_width
line-is c = c.line_length-line.ensures

in_order : (c : Else-not-x-scopes) → (c.scope_or_none-x.result < c.args.scopes) × (c.loop-more.above ≤ c.scope_or_none-x.result)
    × (c.scope_or_none-x.result ≢ c.args.variable)
in_order c = let ((b, u), o) = simp tests at c.if-not-x-scopes.false in (b, u, o)

abbrev line : (c : Else-not-x-scopes) → ℕ
line c = c.line_length-line.result

read : (c : Else-not-x-scopes) → (width : ℕ) → line_length width ≡ (line c)
    → read_line width (take (line c) (drop c.loop-more.at c.args.bytes.now)) ≡ Some (raise_line c.scope_or_none-x.result)
read c width e =
    let z : (c.loop-more.at + (line c)) - c.loop-more.at ≡ (line c) = omega arith in
    let w : c.amount_width-width.result ≡ width = omega (arith, line-is (goal.at.Else-not-x-scopes c).After-amount_width-width, c.amount_width-width.ensures) in
    subst (λ (v : ℕ). read_line v (take (line c) (drop c.loop-more.at c.args.bytes.now)) ≡ Some (raise_line c.scope_or_none-x.result)) w
    (rw z at (c.scope_or_none-x.ensures (omega (arith, (in_order c).0, c.requires.1))))

pub loop-more-preserved : goal.loop-more-preserved
loop-more-preserved c = let a = c.args in let l = c.loop-more in let b = a.bytes.now in let (below, above, other) = in_order c in
    let more = c.loop-more-test.true in
    let left = c.if-bytes-at.false in
    let long : line c ≤ length (drop l.at b) = omega (arith, length-drop l.at b, l.invariant, left) in (
      omega (arith, l.invariant),
      omega (arith, l.invariant, more, line-is (goal.at.loop-more-preserved c).After-amount_width-width),
      omega (arith, l.invariant, left),
      simp length-set l.invariant.3,
      one-raise-line (line c) a.scopes a.variable a.left a.next a.raised.now b a.from l.more l.above l.at
          c.scope_or_none-x.result l.raised l.invariant.4 long (read c) more l.invariant.0 below above other,
    )
