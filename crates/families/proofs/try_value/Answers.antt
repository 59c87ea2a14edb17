use mathlib.Core.Path.{◌≡◌, ap, ◌∙◌}
use native.Mathlib.Omega.{arith}
use lib.ListN.{length, take, set, length-set}
use lib.Seq.{length-take-le, take-set-lt, take_at}
use Rattle.definitions.specs.Rules.{variable_places}
use Rattle.arcs.specs.Closure.{closure_answer, closure_sets}
use Rattle.families.specs.Closing.{all_raised, left_answer, left_sets}
use borrow.Author.Rules.{rules}
use Rattle.families.proofs.try_value.Goals as goal
use Rattle.families.proofs.try_value.Goals.{After-only, Start}

sets-places : (s : Start) → length s.args.sets ≡ variable_places
sets-places s = search rules

work-places : (c : After-only) → length (set c.args.sets c.args.variable c.only.result) ≡ variable_places
work-places c = length-set c.args.sets c.args.variable c.only.result ∙ sets-places (goal.at.After-only c).Start

pub returns : goal.returns
unfolding left_answer left_sets
returns c =
    let a = c.args in
    let work = take-set-lt a.case.n a.sets a.variable c.only.result c.requires.variable_lt_n
    ∙ ap (set (take a.case.n a.sets) a.variable) c.only.ensures in (
      c.closure-closed.ensures.value
          ∙ ap (closure_answer a.case.lower a.case.upper a.rows.now (all_raised a.case)) work,
      take_at _ _ _ (c.closure-closed.auto.sets ∙ length-take-le a.case.n _ (omega (arith, work-places (goal.at.returns c).After-only, c.requires.limited.variables-placed)))
          ∙ c.closure-closed.ensures.sets_after
          ∙ ap (closure_sets a.case.lower a.case.upper a.rows.now (all_raised a.case)) work,
    )
