use mathlib.Core.Path.{sym, ◌∙◌}
use Rattle.arcs.proofs.Search.{lowest-struck}
use Rattle.arcs.proofs.Trying.{trying_start, trying-end, tried-own, trying-found, trying-next, outside-none}
use Rattle.arcs.proofs.none_alone.Goals as goal

pub loop-untried-init : goal.loop-untried-init
loop-untried-init c =
    let a = c.args in (
      trying_start _ _ _ (outside-none a.lower.now a.upper.now a.rows.now a.raised.now a.sets.now a.variable c.requires.filled.1) _
          c.common-untried.ensures,
      c.requires.filled.2,
    )

pub has_family-requires : goal.has_family-requires
has_family-requires c =
    let l = c.loop-untried in
    record { well_formed = c.requires.well_formed; filled = (c.requires.filled.0, c.requires.filled.1, l.invariant.1); t = tried-own _ _ _ _ l.invariant.0 _ c.loop-untried-test.true c.lowest-k.ensures }

pub returns-then-has_family : goal.returns-then-has_family
returns-then-has_family c =
    trying-found _ _ _ _ c.loop-untried.invariant.0 _ c.loop-untried-test.true c.lowest-k.ensures (sym c.has_family.ensures ∙ c.if-has_family.true)

pub loop-untried-smaller : goal.loop-untried-smaller
loop-untried-smaller c =
    (lowest-struck _ _ _ c.loop-untried.invariant.0.small c.loop-untried-test.true c.lowest-k.ensures c.strike-untried.ensures).1

pub loop-untried-preserved : goal.loop-untried-preserved
loop-untried-preserved c =
    let l = c.loop-untried in (
      trying-next _ _ _ _ l.invariant.0 _ c.loop-untried-test.true c.lowest-k.ensures (sym c.has_family.ensures ∙ c.if-has_family.false) _ c.strike-untried.ensures,
      c.has_family.auto.work ∙ l.invariant.1,
    )

pub returns : goal.returns
returns c = trying-end _ _ _ _ c.loop-untried.invariant.0 c.loop-untried-test.false
