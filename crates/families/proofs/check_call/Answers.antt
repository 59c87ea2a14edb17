use mathlib.Core.Path.{sym, ◌∙◌}
use Rattle.tables.proofs.Order.{limited}
use Rattle.families.proofs.check_call.Goals as goal

pub too_short-short-requires : goal.too_short-short-requires
too_short-short-requires c = limited c.args.case (sym c.within_limits.ensures ∙ c.if-not-within_limits.false)
