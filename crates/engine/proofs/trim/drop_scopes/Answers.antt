use mathlib.Core.Path.{refl, ◌∙◌}
use native.Mathlib.Omega.{arith}
use Rattle.engine.proofs.Trims.{trim-next, trim-first}
use Rattle.engine.proofs.trim.drop_scopes.Goals as goal

pub loop-x-init : goal.loop-x-init
loop-x-init c =
    let a = c.args in
    (refl, refl, λ w p o q. (q, trim-first a.case w a.variable a.raised.now o))

pub loop-x-preserved : goal.loop-x-preserved
loop-x-preserved c =
    let a = c.args in
    let d = c.drop_scope in (
      d.auto.raised ∙ c.loop-x.invariant.0,
      d.auto.enough ∙ c.loop-x.invariant.1,
      λ w p o q.
          let (b, e) = c.loop-x.invariant.2 w p o q in
          let (f, g) = d.ensures w p b in (
            f,
            trim-next a.case w a.variable (omega arith)
                (omega (arith, c.loop-x.invariant, c.requires)) g ∙ e,
          ),
    )
