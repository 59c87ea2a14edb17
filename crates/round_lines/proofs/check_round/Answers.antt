use mathlib.Core.Path.{sym, ◌∙◌}
use Rattle.tables.proofs.Order.{limited}
use Rattle.round_lines.proofs.check_round.Goals as goal

pub too_short-requires : goal.too_short-requires
too_short-requires c = limited c.args.case (sym c.within_limits.ensures ∙ c.if-not-within_limits.false)
