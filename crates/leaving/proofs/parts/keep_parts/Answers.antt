use mathlib.Core.Path.{sym, ap₂, ◌∙◌}
use Prim.Native.Nat.{◌+◌, ◌≤◌}
use native.Mathlib.Omega.{arith}
use lib.ListN.{length}
use Rattle.tables.proofs.Parts.{part-own}
use Rattle.leaving.proofs.Kept.{place-next, kept_step}
use Rattle.leaving.proofs.parts.keep_parts.Goals as goal
use Rattle.leaving.proofs.parts.keep_parts.Goals.{After-stays-stay}

-- the part of scope x ends within the table
room : (c : After-stays-stay) → c.loop-x.from + c.size_of-size.result ≤ length c.loop-x.table
room c =
    omega (arith, c.loop-x.invariant.0, c.size_of-size.ensures, c.loop-x.invariant.2, part-own c.args.case c.loop-x.x (omega arith), c.requires.limited.own-lent, c.requires.table_len)

pub keep_part-to-requires : goal.keep_part-to-requires
keep_part-to-requires c = (c.loop-x.invariant.1, room (goal.at.keep_part-to-requires c).After-stays-stay)

pub loop-x-preserved : goal.loop-x-preserved
loop-x-preserved c = let a = c.args in
    let l = c.loop-x in
    let n = c.size_of-size in
    let p = c.keep_part-to.ensures in
    let step = kept_step a.case a.variable a.table.now l.x l.table c.keep_part-to.new.table l.from l.to n.result c.keep_part-to.result
    c.stays-stay.result l.invariant.0 n.ensures c.stays-stay.ensures l.invariant.3 l.invariant.4 p in (
      ap₂ ◌+◌ l.invariant.0 n.ensures ∙ sym (place-next a.case a.variable l.x (omega arith)),
      p.room,
      p.long ∙ l.invariant.2,
      step.0,
      step.1,
    )
