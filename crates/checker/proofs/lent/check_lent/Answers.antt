use mathlib.Core.Path.{sym, ◌∙◌}
use Rattle.tables.proofs.Order.{limited}
use Rattle.checker.proofs.lent.check_lent.Goals as goal

pub record_out-beyond-requires : goal.record_out-beyond-requires
record_out-beyond-requires c = limited c.args.case
    (sym c.within_limits.ensures ∙ c.if-not-within_limits.false)
