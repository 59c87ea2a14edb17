use mathlib.Core.Path.{◌∙◌}
use Prim.Native.Nat.{◌<◌}
use native.Mathlib.Omega.{arith}
use mir.Syntax.{w64}
use borrow.Author.Rules.{rules}
use Rattle.integers.specs.Linear.{read_back}
use Rattle.definitions.specs.Rules.{coherent}
use Rattle.definitions.specs.Case.{scope_count}
use Rattle.tables.specs.Scopes.{best_at}
use Rattle.gaps.proofs.Lesser.{working-small, scopes-none, scopes-next, scopes-bounded}
use Rattle.gaps.proofs.gap_of_scopes.Goals as goal

pub loop-x-init : goal.loop-x-init
loop-x-init c = let a = c.args in scopes-none a.case a.table.now a.best.now a.raised.now a.variable

pub limited_gap-least-requires : goal.limited_gap-least-requires
limited_gap-least-requires c =
    let l = c.loop-x in
    let a = c.args in
    let h : l.x < scope_count a.case = omega arith in
    let b = best_at a.best.now l.x in record {
      limited = (c.requires.limited.0, c.requires.limited.1, h);
      t = (
        rw (read_back w64 b (search rules)) (working-small (coherent a.case.rulebook) b (c.requires.all_working l.x h)),
        rw l.invariant (scopes-bounded a.case a.table.now a.best.now a.raised.now a.variable l.x),
      );
    }

pub loop-x-preserved : goal.loop-x-preserved
loop-x-preserved c =
    let l = c.loop-x in
    let a = c.args in
    let r = c.limited_gap-least in
    scopes-next a.case a.table.now a.best.now a.raised.now a.variable l.x l.invariant
    (read_back w64 r.result r.type_inv ∙ rw (read_back w64 (best_at a.best.now l.x) (search rules)) at r.ensures)
