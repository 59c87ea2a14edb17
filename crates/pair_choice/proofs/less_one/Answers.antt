use mathlib.Core.Path.{◌≡◌, sym, ap, ap₂, ◌∙◌}
use mathlib.Core.Bool.{true}
use lib.IntN.{ℤ, pos, ◌+ℤ◌, ◌-ℤ◌}
use mir.Facts.{to_z-of_z}
use Rattle.definitions.specs.Rules.{rules_in, coherent}
use Rattle.pair_choice.specs.PairChoice.{all_working}
use Rattle.pair_choice.proofs.Ranges.{two-fit, three-fit, less-fit}
use Rattle.pair_choice.proofs.less_one.Goals as goal
use Rattle.pair_choice.proofs.less_one.Goals.{After-all_working, Else-not-all_working}

told : (c : After-all_working) → let a = c.args in all_working (rules_in a.rulebook) a.own a.other a.weight ≡ c.all_working.result
told c = sym (rw (to_z-of_z c.ranges.own, to_z-of_z c.ranges.other, to_z-of_z c.ranges.weight) at c.all_working.ensures)

all-work : (c : Else-not-all_working) → let a = c.args in all_working (rules_in a.rulebook) a.own a.other a.weight ≡ true
all-work c = told (goal.at.Else-not-all_working c).After-all_working ∙ c.if-not-all_working.false

pub overflow_add-result : goal.overflow_add-result
overflow_add-result c =
    rw (to_z-of_z c.ranges.own, to_z-of_z c.ranges.other)
    (two-fit (coherent c.args.rulebook) c.args.own c.args.other c.args.weight (all-work c))

pub overflow_add-result-2 : goal.overflow_add-result-2
overflow_add-result-2 c =
    rw (to_z-of_z (overflow_add-result c), to_z-of_z c.ranges.own, to_z-of_z c.ranges.other, to_z-of_z c.ranges.weight)
    (three-fit (coherent c.args.rulebook) c.args.own c.args.other c.args.weight (all-work c))

pub overflow_sub-result : goal.overflow_sub-result
overflow_sub-result c =
    rw (to_z-of_z (overflow_add-result-2 c), to_z-of_z (overflow_add-result c), to_z-of_z c.ranges.own, to_z-of_z c.ranges.other, to_z-of_z c.ranges.weight)
    (less-fit (coherent c.args.rulebook) c.args.own c.args.other c.args.weight (all-work c))

pub returns : goal.returns
returns c =
    rw (all-work c) (to_z-of_z (overflow_sub-result c) ∙ ap (λ (z : ℤ). z -ℤ pos 1) (to_z-of_z (overflow_add-result-2 c)
    ∙ ap₂ ◌+ℤ◌ (to_z-of_z (overflow_add-result c) ∙ ap₂ ◌+ℤ◌ (to_z-of_z c.ranges.own) (to_z-of_z c.ranges.other)) (to_z-of_z c.ranges.weight)))
