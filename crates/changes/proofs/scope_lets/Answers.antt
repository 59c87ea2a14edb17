use mathlib.Core.Path.{◌≡◌, sym, ◌∙◌}
use mir.Syntax.{w64}
use mir.Val.{to_z, of_z}
use mir.Facts.{to_z-of_z}
use Rattle.integers.specs.Linear.{read_back}
use Rattle.definitions.specs.Rules.{rules_of}
use Rattle.changes.specs.Scopes.{rest_of}
use Rattle.changes.proofs.LoweringLaws.{lowering-amounts}
use Rattle.changes.proofs.scope_lets.Goals as goal
use Rattle.changes.proofs.scope_lets.Goals.{After-rest_of}

rest-is : (c : After-rest_of) → let a = c.args in to_z w64 (of_z w64 c.rest_of.result) ≡ rest_of a.mark a.amount
rest-is c = read_back w64 c.rest_of.result c.rest_of.type_inv ∙ rw (to_z-of_z c.ranges.amount) at c.rest_of.ensures

pub scope_stays-requires : goal.scope_stays-requires
scope_stays-requires c =
    let a = c.args in record {
      in_scope = c.requires.in_scope;
      amounts = rw (to_z-of_z c.ranges.best, to_z-of_z c.ranges.amount, rest-is c, c.values_in-lowered.ensures)
          (lowering-amounts (rules_of a.case) a.variable a.values a.x a.mark a.amount a.best c.requires.t);
    }

pub returns : goal.returns
returns c =
    let e = sym c.is_touched.ensures ∙ c.if-not-is_touched.false in
    rw e (rw (to_z-of_z c.ranges.best, to_z-of_z c.ranges.amount, rest-is (goal.at.returns c).After-rest_of, c.values_in-lowered.ensures) at c.scope_stays.ensures)
