use mathlib.Core.Path.{sym}
use native.Mathlib.Omega.{arith}
use Rattle.marks.proofs.Laws.{mark-small}
use Rattle.arcs.proofs.Trying.{only-filled, copy-filled, copy-well, alone-family}
use Rattle.arcs.proofs.has_family.Goals as goal

pub settle-requires : goal.settle-requires
settle-requires c =
    let k = mark-small _ _ (omega (arith, c.type_inv.sets c.args.variable)) c.requires.t in record {
      well_formed = copy-well c.args.sets.now c.args.variable c.requires.filled.1 _ _ c.copy_from_slice.ensures.after _ _ _ _ c.requires.well_formed;
      filled = copy-filled c.args.sets.now c.args.variable c.requires.filled.1 _ _ c.copy_from_slice.ensures.after (only-filled _ _ c.only.ensures k)
          c.requires.filled.0;
    }

pub returns : goal.returns
returns c =
    sym (alone-family _ _ _ _ c.args.sets.now c.args.variable c.requires.filled.1 _ _ _ c.only.ensures c.copy_from_slice.ensures.after c.requires.well_formed
    c.requires.t _ _
    c.settle.ensures)
