use mathlib.Core.Path.{◌≡◌, sym, ap, ◌∙◌}
use mathlib.Core.Bool.{false}
use Prim.Native.Nat.{◌<◌}
use native.Mathlib.Omega.{arith}
use lib.IntN.{nat_abs}
use lib.Dec.{eqb}
use borrow.Author.Tests.{eq-eqb, ne_eqb}
use mir.Syntax.{w64}
use borrow.Author.Rules.{rules}
use Rattle.integers.specs.Linear.{read_back}
use Rattle.definitions.specs.Rules.{rules_of, scope_places}
use Rattle.definitions.specs.Case.{scope_count}
use Rattle.theory.proofs.Replays.{inside}
use Rattle.tables.proofs.Answered.{limits-known}
use Rattle.checker.specs.declared.Replay.{Replay}
use Rattle.checker.specs.Checker.{Asked, not_above_last, of_raise}
use Rattle.checker.specs.Taken.{last_step, good_replay}
use Rattle.checker.proofs.Taking.{raise-table, raise-record, taken-done, raise-last, raise-more}
use Rattle.checker.proofs.presses.raise_line.Goals as goal
use Rattle.checker.proofs.presses.raise_line.Goals.{After-not_above, Else-x-variable}

abbrev record-before : (c : After-not_above) → Replay
record-before c = good_replay c.args.progress c.args.raised.now

abbrev asked : (c : After-not_above) → Asked
asked c = let a = c.args in of_raise (rules_of a.case) a.case a.table.now (record-before c) a.variable a.target a.left a.last a.line

scope-is : (c : After-not_above) → c.index-x.result ≡ nat_abs c.args.line.a
scope-is c = c.index-x.ensures ∙ ap nat_abs (read_back w64 c.args.line.a (search rules))

above-is : (c : After-not_above) → not_above_last c.args.last (nat_abs c.args.line.a) ≡ c.not_above.result
above-is c = sym (c.not_above.ensures ∙ ap (not_above_last c.args.last) (scope-is c))

placed : (c : After-not_above) → c.index-x.result < scope_places
placed c = omega (arith, (scope-is c), inside (scope_count c.args.case) c.args.line.a c.requires.t, (limits-known c.requires.handed).scopes-placed)

-- another scope than the variable's own
other : (c : Else-x-variable) → let a = c.args in eqb (nat_abs a.line.a) a.variable ≡ false
other c = let a = c.args in ne_eqb (nat_abs a.line.a) a.variable (λ e. c.if-x-variable.false (scope-is (goal.at.Else-x-variable c).After-not_above ∙ e))

pub last_raise-requires : goal.last_raise-requires
last_raise-requires c = record {
  handed = c.requires.handed;
  best_of = c.requires.best_of;
  raised_len = (
    c.requires.raised_len.0,
    c.requires.raised_len.1,
    c.requires.raised_len.2,
    placed (goal.at.last_raise-requires c).After-not_above,
  );
}

pub returns-then-left-eq1 : goal.returns-then-left-eq1
returns-then-left-eq1 c = let a = c.args in let w = a.table.now in let p = record-before (goal.at.returns-then-left-eq1 c).After-not_above in record {
  table_after = c.last_raise.ensures.table_after
      ∙ ap (last_step a.case w p a.variable a.target) (scope-is (goal.at.returns-then-left-eq1 c).After-not_above)
      ∙ raise-last a.case w p a.variable a.target a.left a.last a.line (above-is (goal.at.returns-then-left-eq1 c).After-not_above ∙ c.if-not_above.false) (other (goal.at.returns-then-left-eq1 c).Else-x-variable)
      (eq-eqb a.left 1 c.if-left-eq1.true);
  best_of_2 = c.last_raise.ensures.best_of_2;
}

pub bounds-raised-x : goal.bounds-raised-x
bounds-raised-x c = omega (arith, placed (goal.at.bounds-raised-x c).After-not_above, c.requires.raised_len.0)

pub returns : goal.returns
returns c = let a = c.args in
    let w = a.table.now in let r = a.raised.now in let p = record-before (goal.at.returns c).After-not_above in
    let o = ne_eqb a.left 1 c.if-left-eq1.false in record {
      table_after = taken-done c.with_due.result w w _ p (asked (goal.at.returns c).After-not_above) c.with_due.ensures
          (raise-table a.case w a.progress r a.variable a.target a.left a.last a.line o)
          (raise-record a.case w a.progress r a.variable a.target a.left a.last a.line o (scope-is (goal.at.returns c).After-not_above))
          (raise-more a.case w p a.variable a.target a.left a.last a.line (above-is (goal.at.returns c).After-not_above ∙ c.if-not_above.false) (other (goal.at.returns c).Else-x-variable) o);
      best_of_2 = c.requires.best_of;
    }
