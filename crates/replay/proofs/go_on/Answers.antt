use mathlib.Core.Path.{◌≡◌, refl, sym, ◌∙◌}
use Prim.Native.Nat.{◌-◌, ◌≤◌}
use native.Mathlib.Omega.{arith}
use borrow.Author.Rules.{rules}
use lib.ListN.{length, take}
use Rattle.replay.specs.Turns.{desk_line}
use Rattle.replay.proofs.Turning.{goes_none, goes-next, fill-kept, fill-full}
use Rattle.replay.proofs.go_on.Goals as goal

pub loop-init : goal.loop-init
loop-init g c =
    (refl, refl, goes_none (length c.args.buf.now - desk_line) c.args.first c.args.table.now c.args.buf.now c.requires.0 c.requires.1)

pub loop-preserved : goal.loop-preserved
loop-preserved g c =
    let (lt, lb, goes) = c.loop.invariant in
    let read = c.fill-next.new.buf in
    let held = c.loop.state.held in
    let fits : held ≤ length read = omega (arith, goes.fits, c.fill-next.auto) in
    let whole : c.fill-next.result.to - 0 ≡ c.fill-next.result.to = omega arith in
    let long : length read ≡ length c.args.buf.now = omega (arith, c.fill-next.auto) in
    let turned = rw whole at c.turn-state.ensures in
    let full = rw long at (fill-full c.fill-next.ensures.fills fits goes.short) in (
      search rules,
      search rules,
      goes-next goes (sym c.is_over.ensures ∙ c.if-is_over.false) (take c.fill-next.result.to read)
          (fill-kept c.fill-next.ensures.fills fits) full turned,
    )
