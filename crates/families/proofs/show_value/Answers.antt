use Rattle.std.specs.Prelude.{Ok}
use mathlib.Core.Path.{◌≡◌, sym, ap, subst, ◌∙◌}
use mathlib.Core.List.{List}
use Prim.Native.Nat.{ℕ, ◌+◌, ◌*◌, ◌≤◌}
use native.Mathlib.Omega.{arith}
use lib.ListN.{length, get_or}
use Rattle.definitions.specs.Rules.{variable_places, edge_places, scope_places}
use Rattle.definitions.specs.Case.{scope_count}
use Rattle.tables.specs.Scopes.{Limited, BestOf}
use Rattle.tables.proofs.Answered.{limits-known}
use Rattle.tables.proofs.Best.{greatest-known}
use Rattle.marks.proofs.Laws.{byte_small}
use Rattle.arcs.specs.Closure.{row_places}
use Rattle.arcs.proofs.Prepared.{marked-sets, marked-rows-long, marked-rows}
use Rattle.families.proofs.Shown.{Marked, shown-none, shown-some}
use borrow.Author.Rules.{rules}
use Rattle.families.proofs.show_value.Goals as goal
use Rattle.families.proofs.show_value.Goals.{After-active_marks, After-greatest_weights, Start}

limits : (s : Start) → Limited s.args.case
limits s = limits-known s.requires.handed

best-known : (c : After-greatest_weights) → let a = c.args in BestOf a.case a.table.now c.greatest_weights.new.best
best-known c =
    let a = c.args in
    let room : scope_count a.case ≤ scope_places = omega (arith, (limits (goal.at.After-greatest_weights c).Start).scopes-placed) in
    subst (BestOf a.case a.table.now) (sym c.greatest_weights.ensures.1) (greatest-known _ c.requires.handed room).1

ends-placed : (s : Start) → (length s.args.case.lower ≡ edge_places) × (length s.args.case.upper ≡ edge_places)
ends-placed s = (search rules, search rules)

-- what `active_marks` left
marks-known : (c : After-active_marks) → let a = c.args in
    Marked a.case a.table.now c.active_marks.new.rows c.active_marks.new.sets
marks-known c =
    let l = limits (goal.at.After-active_marks c).Start in
    let b = best-known (goal.at.After-active_marks c).After-greatest_weights in
    let few : c.args.case.n ≤ variable_places = l.variables-placed in
    let wide : 16 * c.args.case.m ≤ row_places = omega (arith, l.edges_placed) in
    record {
      lowers = omega (arith, (ends-placed (goal.at.After-active_marks c).Start).0, l.edges_placed);
      uppers = omega (arith, (ends-placed (goal.at.After-active_marks c).Start).1, l.edges_placed);
      room = subst (λ (x : List ℕ). 16 * c.args.case.m ≤ length x) (sym c.active_marks.ensures.2) (marked-rows-long b c.requires.handed _ _ few wide);
      places = omega (arith, c.active_marks.auto.sets, l.variables-placed);
      sets-are = λ j u. ap (λ (x : List ℕ). get_or x j 0) c.active_marks.ensures.1 ∙ marked-sets b c.requires.handed _ _ few wide j u;
      rows_are = λ e p u v. ap (λ (x : List ℕ). get_or x (16 * e + p) 0) c.active_marks.ensures.2 ∙ marked-rows b c.requires.handed _ _ few wide e p u v;
    }

pub lowest_supported-requires : goal.lowest_supported-requires
lowest_supported-requires c =
    let k = marks-known (goal.at.lowest_supported-requires c).After-active_marks in
    record {
      limited = limits (goal.at.lowest_supported-requires c).Start;
      variable_lt_n = (c.requires.in-range, rw (k.sets-are c.args.variable c.requires.in-range) (byte_small _));
    }

pub returns-in_default : goal.returns-in_default
returns-in_default c =
    let a = c.args in
    let k = (goal.at.returns-in_default c).After-active_marks in
    shown-none a.case a.table.now c.requires.handed a.variable c.requires.in-range _ _ (marks-known k) a.family.now a.partners.now (c.in_default.ensures {u = tt})

pub returns : goal.returns
returns c =
    let a = c.args in
    let k = (goal.at.returns c).After-active_marks in
    let f = c.in-Some.found in
    let r = shown-some a.case a.table.now c.requires.handed a.variable c.requires.in-range _ _ (marks-known k) a.family.now a.partners.now
    f.value c.in-Some.ensures.0 f.sets _ _ c.in-Some.ensures.1 c.write_family.ensures c.write_partners.ensures in
    (ap Ok (search rules) ∙ r.0, r.1, r.2)
