use mathlib.Core.Path.{◌≡◌, sym, ◌∙◌}
use mathlib.Core.Bool.{true}
use Rattle.definitions.specs.Rules.{rules_of}
use Rattle.definitions.specs.Valid.{within_limits}
use Rattle.tables.proofs.Order.{limited}
use Rattle.joining.proofs.drop_waiting.Goals as goal
use Rattle.joining.proofs.drop_waiting.Goals.{Then-within_limits}

within : (c : Then-within_limits) → let k = c.args.case in within_limits (rules_of k) k.n k.d k.m ≡ true
within c = sym c.within_limits.ensures ∙ c.if-within_limits.true

pub own_length-requires : goal.own_length-requires
own_length-requires c = limited c.args.case (within (goal.at.own_length-requires c).Then-within_limits)
