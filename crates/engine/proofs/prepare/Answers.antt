use mathlib.Core.Path.{◌∙◌}
use native.Mathlib.Omega.{arith}
use Rattle.pair_choice.proofs.Pairs.{lowest-pair-is}
use Rattle.engine.specs.Search.{Prepared}
use Rattle.engine.proofs.Asking.{marks-prepared}
use Rattle.engine.proofs.prepare.Goals as goal

pub returns : goal.returns
returns c =
    let a = c.args in
    let k = c.active_marks in
    let p : Prepared a.case a.table.now k.new.sets k.new.rows = rw (k.ensures.1, k.ensures.2) (marks-prepared c.requires.handed.0 c.requires.handed.1 a.acts.now a.rows.now c.requires.n_in_bounds.0 c.requires.n_in_bounds.1) in (
      c.lowest_pair.ensures
          ∙ lowest-pair-is p.handed c.requires.handed.1 k.new.sets k.new.rows p.acts-are p.rows_are
          (omega (arith, c.requires.n_in_bounds.0, k.auto.sets)) p.rows_long,
      p,
    )
