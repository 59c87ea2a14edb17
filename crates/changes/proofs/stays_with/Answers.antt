use mathlib.Core.Path.{◌≡◌, sym, ◌∙◌}
use lib.IntN.{pos, ◌-ℤ◌}
use mir.Syntax.{w64}
use mir.Val.{to_z, of_z}
use mir.Facts.{to_z-of_z}
use Rattle.integers.specs.Words.{within_z, minus}
use Rattle.integers.specs.Linear.{read_back}
use Rattle.definitions.specs.Rules.{rules_in, coherent}
use Rattle.changes.proofs.SpacedLaws.{low_fits, high_fits, stays-in, stays_out}
use Rattle.changes.proofs.stays_with.Goals as goal
use Rattle.changes.proofs.stays_with.Goals.{After-is_within, After-least_working, After-most_working}

least-is : (c : After-least_working) → to_z w64 (of_z w64 c.least_working.result) ≡ minus (rules_in c.args.rulebook).working
least-is c = read_back w64 c.least_working.result c.least_working.type_inv ∙ c.least_working.ensures

pub overflow_sub-low : goal.overflow_sub-low
overflow_sub-low c = rw (least-is c, to_z-of_z c.ranges.by) (low_fits (coherent c.args.rulebook) c.args.by c.requires)

most-is : (c : After-most_working) → to_z w64 (of_z w64 c.most_working.result) ≡ pos (rules_in c.args.rulebook).working
most-is c = read_back w64 c.most_working.result c.most_working.type_inv ∙ c.most_working.ensures

pub overflow_sub-high : goal.overflow_sub-high
overflow_sub-high c = rw (most-is c, to_z-of_z c.ranges.by) (high_fits (coherent c.args.rulebook) c.args.by c.requires)

told : (c : After-is_within) → let r = rules_in c.args.rulebook in
    c.is_within.result ≡ within_z (minus r.working -ℤ c.args.by) (pos r.working -ℤ c.args.by) c.args.weight
told c =
    rw (to_z-of_z (overflow_sub-low (goal.at.After-is_within c).After-least_working), to_z-of_z (overflow_sub-high (goal.at.After-is_within c).After-most_working), least-is (goal.at.After-is_within c).After-least_working, most-is (goal.at.After-is_within c).After-most_working, to_z-of_z c.ranges.weight, to_z-of_z c.ranges.by) at c.is_within.ensures

pub returns-then-is_within : goal.returns-then-is_within
returns-then-is_within c =
    stays-in (rules_in c.args.rulebook) c.args.weight c.args.by (sym (told (goal.at.returns-then-is_within c).After-is_within) ∙ c.if-is_within.true)

pub returns : goal.returns
returns c =
    (rw (to_z-of_z c.ranges.weight) at c.is_barred.ensures)
    ∙ stays_out (rules_in c.args.rulebook) c.args.weight c.args.by (sym (told (goal.at.returns c).After-is_within) ∙ c.if-is_within.false)
