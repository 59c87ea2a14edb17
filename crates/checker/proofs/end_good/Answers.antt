use mathlib.Core.Path.{sym, ◌∙◌}
use Rattle.tables.proofs.Order.{limited}
use Rattle.checker.proofs.end_good.Goals as goal

pub record_out-out-requires : goal.record_out-out-requires
record_out-out-requires c = limited c.args.case
    (sym c.within_limits.ensures ∙ c.if-not-within_limits.false)
