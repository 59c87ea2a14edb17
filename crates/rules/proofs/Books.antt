-- A number shown to be that of each rulebook is that of the rulebook it is asked of. Assumes nothing.
use mathlib.Core.Path.{◌≡◌}
use Rattle.definitions.specs.declared.Rulebook.{Rulebook}
use Rattle.definitions.specs.declared.Rulebook.TheVariants.{Desk}
use Rattle.definitions.specs.Rules.{Rules, rules_in}

pub of-book : {A : Type 0} (f : Rules → A) (b : Rulebook) {desk : A} → desk ≡ f (rules_in Desk) → desk ≡ f (rules_in b)
of-book f Desk e = e
