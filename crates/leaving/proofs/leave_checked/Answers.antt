use mathlib.Core.Path.{◌≡◌, ap, ◌∙◌}
use mir.Syntax.{w64}
use Rattle.integers.specs.Linear.{read_back}
use Rattle.logs.specs.Leave.{case_without, carried_case, fresh_case, table_without}
use Rattle.leaving.proofs.Restart.{fresh-handed, carried-handed}
use Rattle.leaving.proofs.leave_checked.Goals as goal
use Rattle.leaving.proofs.leave_checked.Goals.{After-remove_scopes-2}

fresh-is : (t : After-remove_scopes-2) → let a = t.args in
    t.case_without-fresh.result ≡ fresh_case a.case a.variable
fresh-is t = t.case_without-fresh.ensures

carried-is : (t : After-remove_scopes-2) → let a = t.args in
    t.case_without-carried.result ≡ carried_case a.case a.variable a.starting.now a.table.now
carried-is t =
    let a = t.args in
    let r = t.carry_after-carry in
    t.case_without-carried.ensures ∙ ap (case_without a.case a.variable) (read_back w64 r.result r.type_inv ∙ r.ensures)

starting-is : (t : After-remove_scopes-2) → let a = t.args in
    t.remove_scopes.new.table ≡ table_without a.case a.variable a.starting.now
starting-is t = t.remove_scopes.ensures

weights-are : (t : After-remove_scopes-2) → let a = t.args in
    t.remove_scopes-2.new.table ≡ table_without a.case a.variable a.table.now
weights-are t = t.remove_scopes-2.ensures

pub restarts-requires : goal.restarts-requires
restarts-requires c = let a = c.args in
    let t = (goal.at.restarts-requires c).After-remove_scopes-2 in record {
      handed = carried-handed a.case a.variable a.starting.now a.table.now _ _ _ _ (carried-is t) (fresh-is t) (starting-is t) (weights-are t)
          c.requires.both_handed c.requires.variable_lt_n.0 c.requires.variable_lt_n.1;
      handed_2 = fresh-handed a.case a.variable a.starting.now a.table.now _ _ _ _ (carried-is t) (fresh-is t) (starting-is t) (weights-are t)
          c.requires.both_handed c.requires.variable_lt_n.0 c.requires.variable_lt_n.1;
    }
