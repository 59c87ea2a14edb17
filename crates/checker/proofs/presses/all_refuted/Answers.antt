use mathlib.Core.Path.{◌≡◌, refl, ap, ◌∙◌}
use mathlib.Core.Bool.{Bool}
use Prim.Native.Nat.{◌+◌, ◌≤◌}
use native.Mathlib.Omega.{arith}
use lib.ListN.{length}
use Rattle.std.specs.Prelude.{Result, Ok, false}
use Rattle.std.specs.Result.{result_unwrap_or}
use Rattle.definitions.specs.declared.Refusal.{Refusal}
use Rattle.definitions.specs.Rules.{rules_of, edge_places}
use Rattle.definitions.specs.Consistency.{all_refuted}
use Rattle.definitions.specs.Moves.{active_values}
use Rattle.calls.specs.Calls.{is_raised}
use Rattle.tables.proofs.Answered.{limits-known}
use Rattle.arcs.specs.Best.{values_unsupported_answer}
use Rattle.arcs.proofs.Best.{values-unsupported-is-refuted}
use borrow.Author.Rules.{rules}
use Rattle.checker.proofs.presses.all_refuted.Goals as goal
use Rattle.checker.proofs.presses.all_refuted.Goals.{Start}

ends : (c : Start) → (length c.args.case.lower ≡ edge_places) × (length c.args.case.upper ≡ edge_places)
ends c = (search rules, search rules)

-- what the search for families answers
abbrev asked : (s : Start) → Bool
asked s =
    let a = s.args in
    all_refuted a.case a.table.now (is_raised a.raised.now) a.variable (active_values a.case a.table.now a.variable)

answer : (s : Start) → let a = s.args in
    values_unsupported_answer (rules_of a.case) a.case a.table.now a.best.now a.raised.now a.variable a.values
    ≡ Ok (asked s)
answer s =
    let a = s.args in
    let h = s.requires.handed in
    let l = limits-known h in
    let room : a.case.n + a.case.m ≤ length a.raised.now = omega (arith, l.scopes-placed, s.requires.raised_len.0) in
    values-unsupported-is-refuted a.case a.table.now h a.best.now s.requires.best_of a.raised.now room
    (omega (arith, l.edges_placed, (ends s).0)) (omega (arith, l.edges_placed, (ends s).1)) (is_raised a.raised.now) (λ x u. refl)
    a.variable s.requires.raised_len.1 a.values (active_values a.case a.table.now a.variable) s.requires.marks_of

pub returns : goal.returns
returns c = c.unwrap_or.ensures ∙ ap (λ (r : Result Bool Refusal). result_unwrap_or r false) (c.values_unsupported.ensures ∙ answer (goal.at.returns c).Start)
