use mathlib.Core.Path.{sym, ap, ◌∙◌}
use mathlib.Core.Bool.{or-false}
use lib.Dec.{lit<}
use lib.IntN.{pos}
use mir.Syntax.{w64}
use borrow.Author.Rules.{rules}
use Rattle.definitions.specs.Rules.{rules_of}
use Rattle.definitions.specs.Moves.{press_amount}
use Rattle.definitions.specs.Replay.{begin_out}
use Rattle.integers.specs.Linear.{read_back, same_bits, other-bits}
use Rattle.checker.proofs.Numbers.{from-test}
use Rattle.checker.proofs.ranges.move_out.Goals as goal

pub returns-then-line-eq1 : goal.returns-then-line-eq1
returns-then-line-eq1 c = λ w p e. let l = c.args.line in
    rw (sym (same_bits l.kind (pos 1) (search rules) (lit< tt) c.if-line-eq1.true)) (c.shift_out.ensures w p)

pub returns-then-line-eq2 : goal.returns-then-line-eq2
returns-then-line-eq2 c = λ w p e. let a = c.args in let l = a.line in
    rw (
      sym (other-bits l.kind (pos 1) (search rules) (lit< tt) c.if-line-eq1.false),
      sym (same_bits l.kind (pos 2) (search rules) (lit< tt) c.if-line-eq2.true),
      c.begin_out.ensures,
      c.is_press_amount.ensures ∙ ap (press_amount (rules_of a.case)) (read_back w64 l.amount (search rules)),
    )

pub returns-then-line-eq4 : goal.returns-then-line-eq4
returns-then-line-eq4 c = λ w p e. let a = c.args in let l = a.line in
    rw (
      sym (other-bits l.kind (pos 1) (search rules) (lit< tt) c.if-line-eq1.false),
      sym (other-bits l.kind (pos 2) (search rules) (lit< tt) c.if-line-eq2.false),
      sym (same_bits l.kind (pos 4) (search rules) (lit< tt) c.if-line-eq4.true),
      e,
      c.most_rounds.ensures,
    )
    (from-test (rules_of a.case).rounds a.rounds)

pub returns : goal.returns
returns c = λ w p e. let a = c.args in let l = a.line in
    rw (
      sym (other-bits l.kind (pos 1) (search rules) (lit< tt) c.if-line-eq1.false),
      sym (other-bits l.kind (pos 2) (search rules) (lit< tt) c.if-line-eq2.false),
      sym (other-bits l.kind (pos 4) (search rules) (lit< tt) c.if-line-eq4.false),
      c.begin_out-2.ensures,
    )
    (sym (or-false (begin_out a.case l)))
