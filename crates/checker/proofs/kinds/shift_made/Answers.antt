use Rattle.std.specs.Prelude.{None}
use mathlib.Core.Path.{ap, ◌∙◌}
use lib.IntN.{pos, nat_abs}
use mir.Syntax.{w64}
use borrow.Author.Rules.{rules}
use Rattle.integers.specs.Linear.{read_back}
use Rattle.changes.proofs.TransferLaws.{transfer-is-shift}
use Rattle.checker.specs.declared.Replay.{Replay}
use Rattle.checker.specs.Checker.{fresh_of}
use Rattle.checker.proofs.Taking.{shift-counts, shift-inside}
use Rattle.checker.proofs.kinds.shift_made.Goals as goal

-- any record: a shift's numbers ask for none
abbrev any : Replay
any = fresh_of None (pos 0)

pub index-edge-requires : goal.index-edge-requires
index-edge-requires c = let a = c.args in
    rw (read_back w64 a.line.a (search rules)) (shift-counts a.case a.table.now any a.line (c.requires.t any)).0

pub index-end-requires : goal.index-end-requires
index-end-requires c = let a = c.args in
    rw (read_back w64 a.line.b (search rules)) (shift-counts a.case a.table.now any a.line (c.requires.t any)).1

pub index-value-requires : goal.index-value-requires
index-value-requires c = let a = c.args in
    rw (read_back w64 a.line.c (search rules)) (shift-counts a.case a.table.now any a.line (c.requires.t any)).2

pub returns : goal.returns
returns c = let a = c.args in let l = a.line in
    let e = rw (
      c.index-edge.ensures ∙ ap nat_abs (read_back w64 l.a (search rules)),
      c.index-end.ensures ∙ ap nat_abs (read_back w64 l.b (search rules)),
      c.index-value.ensures ∙ ap nat_abs (read_back w64 l.c (search rules)),
      read_back w64 l.amount (search rules),
    ) at c.transfer.ensures in
    let k = transfer-is-shift c.requires.handed c.requires.best_of (nat_abs l.a) (nat_abs l.b) (nat_abs l.c) l.amount
    (shift-inside a.case a.table.now any l (c.requires.t any)) in
    record { value = λ p. (e.0 ∙ k.0, e.1 ∙ k.1); best_of_2 = rw (e.1, e.2) k.2 }
