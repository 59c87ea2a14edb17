use mathlib.Core.Path.{◌≡◌, sym, ◌∙◌}
use mathlib.Core.Bool.{true}
use lib.IntN.{pos}
use lib.Seq.{set-get_or}
use mir.Syntax.{w64}
use mir.Val.{to_z, of_z}
use mir.Facts.{to_z-of_z}
use Rattle.integers.specs.Tests.{true-is, imp_elim}
use Rattle.integers.specs.Linear.{read_back}
use Rattle.definitions.specs.Rules.{rules_of}
use Rattle.changes.specs.Scopes.{rest_of, is_touched}
use Rattle.tables.proofs.Order.{own-places}
use Rattle.changes.proofs.LoweringLaws.{lowering-amounts, untouched}
use Rattle.changes.proofs.lower_scope.Goals as goal
use Rattle.changes.proofs.lower_scope.Goals.{After-rest_of}

touched : (c : After-rest_of) → is_touched c.args.variable c.args.x c.args.mark ≡ true
touched c = sym c.is_touched.ensures ∙ c.if-is_touched.true

rest-is : (c : After-rest_of) → to_z w64 (of_z w64 c.rest_of.result) ≡ rest_of c.args.mark c.args.amount
rest-is c = read_back w64 c.rest_of.result c.rest_of.type_inv ∙ rw (to_z-of_z c.ranges.amount) at c.rest_of.ensures

pub change_scope-requires : goal.change_scope-requires
change_scope-requires c =
    let a = c.args in
    let t = (goal.at.change_scope-requires c).After-rest_of in record {
      in_scope = c.requires.in_scope.0;
      amounts = rw (c.values_in-lowered.ensures, to_z-of_z c.ranges.held, to_z-of_z c.ranges.amount, rest-is t)
          (lowering-amounts (rules_of a.case) a.variable a.values a.x a.mark a.amount a.held c.requires.t_2);
      t = rw (c.values_in-lowered.ensures, to_z-of_z c.ranges.held, to_z-of_z c.ranges.amount, rest-is t)
          (imp_elim (is_touched a.variable a.x a.mark) _ c.requires.t (true-is _ (touched t)));
    }

pub returns-then-is_touched : goal.returns-then-is_touched
returns-then-is_touched c =
    let e = touched (goal.at.returns-then-is_touched c).After-rest_of in record { table_after = rw (c.values_in-lowered.ensures, to_z-of_z c.ranges.held, to_z-of_z c.ranges.amount, rest-is (goal.at.returns-then-is_touched c).After-rest_of) at c.change_scope.ensures; best_after = rw e c.keep_greatest.ensures }

pub returns-else-is_touched : goal.returns-else-is_touched
returns-else-is_touched c =
    let a = c.args in
    let e = sym c.is_touched.ensures ∙ c.if-is_touched.false in record { table_after = sym (untouched a.case a.table.now (own-places a.case c.requires.in_scope.0.limited a.table.now c.requires.in_scope.0.long) a.variable a.values a.x a.mark a.amount a.held e); best_after = rw e (sym (set-get_or a.best.now a.x (pos 0))) }
