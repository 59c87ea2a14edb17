use mathlib.Core.Path.{refl, ◌∙◌}
use native.Mathlib.Omega.{arith}
use Rattle.pair_rounds.proofs.Texts.{shifted_none}
use Rattle.pair_rounds.proofs.Ends.{value-ready, value-done}
use Rattle.pair_rounds.proofs.shift_end.Goals as goal

pub loop-value-init : goal.loop-value-init
loop-value-init c = (
  refl,
  refl,
  refl,
  shifted_none c.args.from c.args.out.now c.requires.ready.greatest-held,
)

pub shift_value-at-requires : goal.shift_value-at-requires
shift_value-at-requires c =
    let h = value-ready c.requires.ready c.args.end c.requires.allows c.requires.end_in_bounds (omega arith) c.loop-value.invariant.2 c.loop-value.invariant.3 in record { ready = h.0; allows = h.1.0; value_in_bounds = h.1.1 }

pub loop-value-preserved : goal.loop-value-preserved
loop-value-preserved c =
    let k = c.shift_value-at.auto in (
      k.table ∙ c.loop-value.invariant.0,
      k.best ∙ c.loop-value.invariant.1,
      k.out ∙ c.loop-value.invariant.2,
      value-done c.requires.ready c.args.end c.requires.allows c.requires.end_in_bounds (omega arith) c.loop-value.invariant.2 c.loop-value.invariant.3 c.shift_value-at.ensures,
    )
