use mathlib.Core.Path.{◌≡◌, sym}
use mathlib.Core.Logic.{◌≢◌}
use mathlib.Core.Bool.{true, false}
use Prim.Native.Nat.{ℕ, ◌^◌, ◌<◌}
use lib.IntN.{ℤ, pos}
use lib.Dec.{lit<}
use lib.Signed.{mag}
use mir.Syntax.{w64}
use borrow.Author.Rules.{rules}
use mir.Val.{hbits, of_z}
use Rattle.integers.specs.Words.{eq_z}
use Rattle.integers.specs.Linear.{read_back, same_bits, other-bits}
use Rattle.checker.proofs.kinds.move_line.Goals as goal

is-kind : (kind : ℤ) → mag kind < 2 ^ hbits w64 → (k : ℕ) → mag (pos k) < 2 ^ hbits w64 → of_z w64 kind ≡ of_z w64 (pos k) → eq_z kind (pos k) ≡ true
is-kind kind f k h e = sym (same_bits kind (pos k) f h e)

not-kind : (kind : ℤ) → mag kind < 2 ^ hbits w64 → (k : ℕ) → mag (pos k) < 2 ^ hbits w64 → of_z w64 kind ≢ of_z w64 (pos k) → eq_z kind (pos k) ≡ false
not-kind kind f k h e = sym (other-bits kind (pos k) f h e)

pub returns-then-line-eq1 : goal.returns-then-line-eq1
returns-then-line-eq1 c = rw (is-kind c.args.line.kind (search rules) 1 (lit< tt) c.if-line-eq1.true) (record { table_after = c.shift_line.ensures.by_index c.args.raised.now; best_of_2 = c.shift_line.ensures.best_of_2 })

pub returns-then-line-eq2 : goal.returns-then-line-eq2
returns-then-line-eq2 c = let a = c.args in
    let e = rw (read_back w64 a.line.amount (search rules)) at (c.begin_line.ensures a.case a.table.now) in
    rw (not-kind c.args.line.kind (search rules) 1 (lit< tt) c.if-line-eq1.false, is-kind c.args.line.kind (search rules) 2 (lit< tt) c.if-line-eq2.true) (record { table_after = e; best_of_2 = c.requires.best_of })

pub returns : goal.returns
returns c = let a = c.args in
    rw (not-kind c.args.line.kind (search rules) 1 (lit< tt) c.if-line-eq1.false, not-kind c.args.line.kind (search rules) 2 (lit< tt) c.if-line-eq2.false, not-kind c.args.line.kind (search rules) 4 (lit< tt) c.if-line-eq4.false)
    (record { table_after = c.begin_line-2.ensures a.case a.table.now; best_of_2 = c.requires.best_of })
