use mathlib.Core.Path.{◌≡◌, sym, ap, ap₂, ◌∙◌}
use mathlib.Core.Bool.{true}
use lib.IntN.{◌+ℤ◌}
use lib.Signed.{le_z}
use mir.Syntax.{w64}
use mir.Val.{to_z, of_z}
use mir.Facts.{to_z-of_z}
use Rattle.definitions.specs.Rules.{rules_in, coherent}
use Rattle.definitions.specs.Valid.{in_working}
use Rattle.pair_choice.specs.PairChoice.{all_working}
use Rattle.pair_choice.proofs.Ranges.{first-fit, two-fit, three-fit}
use Rattle.pair_choice.proofs.tuple_stays.Goals as goal
use Rattle.pair_choice.proofs.tuple_stays.Goals.{After-all_working, After-is_working, After-is_working-2, Else-not-all_working, Else-not-is_working}

told : (c : After-all_working) → let a = c.args in all_working (rules_in a.rulebook) a.own a.other a.weight ≡ c.all_working.result
told c = sym (rw (to_z-of_z c.ranges.own, to_z-of_z c.ranges.other, to_z-of_z c.ranges.weight) at c.all_working.ensures)

all-work : (c : Else-not-all_working) → let a = c.args in all_working (rules_in a.rulebook) a.own a.other a.weight ≡ true
all-work c = told (goal.at.Else-not-all_working c).After-all_working ∙ c.if-not-all_working.false

pub overflow_add-first : goal.overflow_add-first
overflow_add-first c =
    rw (to_z-of_z c.ranges.weight, to_z-of_z c.ranges.own)
    (first-fit (coherent c.args.rulebook) c.args.own c.args.other c.args.weight (all-work c))

first-told : (c : After-is_working) → let a = c.args in
    in_working (rules_in a.rulebook) (a.weight +ℤ a.own) ≡ c.is_working.result
first-told c =
    sym (c.is_working.ensures ∙ ap (in_working (rules_in c.args.rulebook))
    (to_z-of_z (overflow_add-first (goal.at.After-is_working c).Else-not-all_working) ∙ ap₂ ◌+ℤ◌ (to_z-of_z c.ranges.weight) (to_z-of_z c.ranges.own)))

pub returns-then-not-is_working : goal.returns-then-not-is_working
returns-then-not-is_working c = rw (all-work (goal.at.returns-then-not-is_working c).Else-not-all_working, first-told (goal.at.returns-then-not-is_working c).After-is_working ∙ c.if-not-is_working.true)

pub overflow_add-both : goal.overflow_add-both
overflow_add-both c =
    rw (to_z-of_z c.ranges.own, to_z-of_z c.ranges.other)
    (two-fit (coherent c.args.rulebook) c.args.own c.args.other c.args.weight (all-work (goal.at.overflow_add-both c).Else-not-all_working))

pub overflow_add-both-2 : goal.overflow_add-both-2
overflow_add-both-2 c =
    rw (to_z-of_z (overflow_add-both c), to_z-of_z c.ranges.own, to_z-of_z c.ranges.other, to_z-of_z c.ranges.weight)
    (three-fit (coherent c.args.rulebook) c.args.own c.args.other c.args.weight (all-work (goal.at.overflow_add-both-2 c).Else-not-all_working))

both_is : (c : Else-not-is_working) → let a = c.args in
    to_z w64 (of_z w64 (to_z w64 (of_z w64 (to_z w64 (of_z w64 a.own) +ℤ to_z w64 (of_z w64 a.other))) +ℤ to_z w64 (of_z w64 a.weight)))
    ≡ (a.own +ℤ a.other) +ℤ a.weight
both_is c =
    to_z-of_z (overflow_add-both-2 c) ∙ ap₂ ◌+ℤ◌ (to_z-of_z (overflow_add-both c) ∙ ap₂ ◌+ℤ◌ (to_z-of_z c.ranges.own) (to_z-of_z c.ranges.other)) (to_z-of_z c.ranges.weight)

both_told : (c : After-is_working-2) → let a = c.args in
    in_working (rules_in a.rulebook) ((a.own +ℤ a.other) +ℤ a.weight) ≡ c.is_working-2.result
both_told c =
    sym (c.is_working-2.ensures ∙ ap (in_working (rules_in c.args.rulebook)) (both_is (goal.at.After-is_working-2 c).Else-not-is_working))

pub returns-then-not-is_working-2 : goal.returns-then-not-is_working-2
returns-then-not-is_working-2 c =
    rw (all-work (goal.at.returns-then-not-is_working-2 c).Else-not-all_working, first-told (goal.at.returns-then-not-is_working-2 c).After-is_working ∙ c.if-not-is_working.false, both_told (goal.at.returns-then-not-is_working-2 c).After-is_working-2 ∙ c.if-not-is_working-2.true)

pub returns : goal.returns
returns c =
    rw (all-work (goal.at.returns c).Else-not-all_working, first-told (goal.at.returns c).After-is_working ∙ c.if-not-is_working.false, both_told (goal.at.returns c).After-is_working-2 ∙ c.if-not-is_working-2.false)
    (ap₂ le_z (both_is (goal.at.returns c).Else-not-is_working) (to_z-of_z c.ranges.most))
