use mathlib.Core.Path.{◌≡◌, sym}
use Prim.Native.Nat.{suc, ◌-◌}
use native.Mathlib.Omega.{arith}
use lib.Dec.{not_T}
use Rattle.integers.specs.Tests.{is_true, is_false}
use Rattle.calls.specs.Calls.{is_rising}
use Rattle.moves.proofs.Rising.{rising-iff}
use Rattle.moves.proofs.is_rising.Goals as goal

pub returns-then-scopes-j : goal.returns-then-scopes-j
returns-then-scopes-j c = let l = c.args.scopes.now in
    let e : suc (c.loop-j.j - 1) ≡ c.loop-j.j = omega arith in
    sym (is_false (is_rising l) (not_T (is_rising l) (λ t. let u = rw e at ((rising-iff l).0 t (c.loop-j.j - 1) (omega arith)) in omega arith)))

pub returns : goal.returns
returns c = let l = c.args.scopes.now in
    sym (is_true (is_rising l) ((rising-iff l).1 (λ k h. c.loop-j.invariant k (omega arith))))
