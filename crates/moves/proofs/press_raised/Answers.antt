use mathlib.Core.Path.{◌≡◌, sym, ap, ◌∙◌}
use Prim.Native.Nat.{◌≤◌}
use native.Mathlib.Omega.{arith}
use lib.IntN.{pos}
use lib.ListN.{length, replicate}
use mir.Facts.{to_z-of_z}
use borrow.Author.Rules.{rules}
use Rattle.definitions.specs.Rules.{edge_places, scope_places}
use Rattle.definitions.specs.Case.{scope_count}
use Rattle.definitions.specs.Moves.{active_refuted}
use Rattle.tables.proofs.Answered.{limits-known}
use Rattle.std.specs.Prelude.{Bool, false, Result}
use Rattle.std.specs.Result.{result_unwrap_or}
use Rattle.definitions.specs.declared.Refusal.{Refusal}
use Rattle.moves.proofs.MarkLaws.{marks-inside, zeros}
use Rattle.moves.proofs.PressLaws.{press-refuted, press-raised-is}
use Rattle.moves.proofs.press_raised.Goals as goal
use Rattle.moves.proofs.press_raised.Goals.{After-unwrap_or, Start}

few : (s : Start) → scope_count s.args.case ≤ scope_places
few s = omega (arith, limits-known s.requires.handed)

ends : (s : Start) → (length s.args.case.lower ≡ edge_places) × (length s.args.case.upper ≡ edge_places)
ends s = (search rules, search rules)

pub mark_scopes-requires : goal.mark_scopes-requires
mark_scopes-requires c =
    marks-inside c.args.raised.now (scope_count c.args.case) scope_places (few (goal.at.mark_scopes-requires c).Start) c.requires.variable_lt_n.1

told : (c : After-unwrap_or) → let a = c.args in c.unwrap_or.result ≡ active_refuted a.case a.table.now a.variable a.raised.now
told c =
    let a = c.args in
    c.unwrap_or.ensures ∙ ap (λ (r : Result Bool Refusal). result_unwrap_or r false) c.values_unsupported-refuted.ensures
    ∙ press-refuted c.requires.handed a.variable a.raised.now a.amount c.requires.variable_lt_n.0 c.requires.variable_lt_n.1 c.requires.t
    (replicate scope_places 0) (λ y. zeros scope_places y) (few (goal.at.After-unwrap_or c).Start)
    (replicate scope_places (pos 0)) (few (goal.at.After-unwrap_or c).Start)
    c.mark_scopes.ensures c.greatest_weights.ensures.1 c.best_values-values.ensures
    (omega (arith, (ends (goal.at.After-unwrap_or c).Start).0, limits-known c.requires.handed))
    (omega (arith, (ends (goal.at.After-unwrap_or c).Start).1, limits-known c.requires.handed))

pub returns-then-not-unwrap_or : goal.returns-then-not-unwrap_or
returns-then-not-unwrap_or c =
    let e = sym (told (goal.at.returns-then-not-unwrap_or c).After-unwrap_or) ∙ c.if-not-unwrap_or.true in
    record { value = rw e; table_after = rw e }

pub returns : goal.returns
returns c =
    let a = c.args in
    let p = rw (to_z-of_z c.ranges.amount) at c.lower_and_raise.ensures in
    let h = press-raised-is c.requires.handed a.variable a.raised.now a.amount c.requires.variable_lt_n.0 c.requires.variable_lt_n.1 c.requires.t
    (replicate scope_places 0) (λ y. zeros scope_places y) (few (goal.at.returns c).Start) (replicate scope_places (pos 0)) (few (goal.at.returns c).Start)
    c.mark_scopes.ensures c.greatest_weights.ensures.1 c.best_values-values.ensures
    (sym (told (goal.at.returns c).After-unwrap_or) ∙ c.if-not-unwrap_or.false) p.0 p.1 in record { value = h.0; table_after = h.1 }
