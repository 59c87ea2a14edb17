use mathlib.Core.Path.{refl, ap, ap₂, ◌∙◌}
use mathlib.Core.Bool.{Bool}
use mathlib.Core.List.{List}
use Prim.Native.Nat.{ℕ, ◌+◌, ◌*◌}
use lib.IntN.{ℤ}
use mir.Facts.{to_z-of_z}
use Rattle.std.specs.Prelude.{if◌then◌else◌, Ok, Err}
use Rattle.definitions.specs.declared.Refusal.TheVariants.{LeavesRange}
use Rattle.tables.proofs.Order.{own-places}
use Rattle.changes.proofs.TransferLaws.{TransferPlaces, row-places, column-places, transfer-inside, transfer-separate, transfer-is}
use Rattle.changes.proofs.TransferLaws.{transfer-made}
use Rattle.changes.proofs.transfer_checked.Goals as goal
use Rattle.changes.proofs.transfer_checked.Goals.{Else-end-eq0, Then-end-eq0}

-- the places, at either end
row : (c : Then-end-eq0) → let a = c.args in
    TransferPlaces a.case a.edge a.end a.value (c.end_variable.result * a.case.d + a.value)
    (a.case.n * a.case.d + a.edge * (a.case.d * a.case.d) + a.value * a.case.d) 1
row c =
    let a = c.args in
    row-places a.case a.edge a.end a.value _ _ c.requires.edge_lt_m.0 c.requires.edge_lt_m.2 c.requires.edge_lt_m.3
    (ap (λ (i : ℕ). i * a.case.d + a.value) c.end_variable.ensures) c.if-end-eq0.true refl

column : (c : Else-end-eq0) → let a = c.args in
    TransferPlaces a.case a.edge a.end a.value (c.end_variable.result * a.case.d + a.value)
    (a.case.n * a.case.d + a.edge * (a.case.d * a.case.d) + a.value) a.case.d
column c =
    let a = c.args in
    column-places a.case a.edge a.end a.value _ _ c.requires.edge_lt_m.0 c.requires.edge_lt_m.2 c.requires.edge_lt_m.3
    (ap (λ (i : ℕ). i * a.case.d + a.value) c.end_variable.ensures) c.if-end-eq0.false refl

pub transfer_by-requires : goal.transfer_by-requires
transfer_by-requires c = let a = c.args in
    let p = row (goal.at.transfer_by-requires c).Then-end-eq0 in
    let k = transfer-inside a.case a.table.now (own-places a.case c.requires.limited.0 a.table.now c.requires.limited.1) a.edge a.end a.value _ _ _ a.amount c.requires.edge_lt_m.0 c.requires.edge_lt_m.2 p in record {
      inside = k.0;
      inside_2 = k.1;
      t = (rw (to_z-of_z c.ranges.amount) c.requires.t, p.spread);
      by_index = transfer-separate a.case a.table.now (own-places a.case c.requires.limited.0 a.table.now c.requires.limited.1) a.edge a.end
          a.value _ _ _ a.amount c.requires.edge_lt_m.0 c.requires.edge_lt_m.2 p;
    }

pub transfer_by-requires-else-end-eq0 : goal.transfer_by-requires-else-end-eq0
transfer_by-requires-else-end-eq0 c = let a = c.args in
    let p = column (goal.at.transfer_by-requires-else-end-eq0 c).Else-end-eq0 in
    let k = transfer-inside a.case a.table.now (own-places a.case c.requires.limited.0 a.table.now c.requires.limited.1) a.edge a.end a.value _ _ _ a.amount c.requires.edge_lt_m.0 c.requires.edge_lt_m.2 p in record {
      inside = k.0;
      inside_2 = k.1;
      t = (rw (to_z-of_z c.ranges.amount) c.requires.t, p.spread);
      by_index = transfer-separate a.case a.table.now (own-places a.case c.requires.limited.0 a.table.now c.requires.limited.1) a.edge a.end
          a.value _ _ _ a.amount c.requires.edge_lt_m.0 c.requires.edge_lt_m.2 p;
    }

pub returns-then-end-eq0 : goal.returns-then-end-eq0
returns-then-end-eq0 c = let a = c.args in
    let p = row (goal.at.returns-then-end-eq0 c).Then-end-eq0 in
    let r = c.transfer_by in record {
      value = (rw (to_z-of_z c.ranges.amount) at r.ensures.value)
          ∙ ap (λ (b : Bool). if b then Ok tt else Err LeavesRange)
          (transfer-is a.case a.table.now (own-places a.case c.requires.limited.0 a.table.now c.requires.limited.1) a.edge a.end a.value _ _ _ a.amount c.requires.edge_lt_m.0 c.requires.edge_lt_m.2 p);
      table_after = (rw (to_z-of_z c.ranges.amount) at r.ensures.table_after)
          ∙ ap₂ (λ (b : Bool) (t : List ℤ). if b then t else a.table.now)
          (transfer-is a.case a.table.now (own-places a.case c.requires.limited.0 a.table.now c.requires.limited.1) a.edge a.end a.value _ _ _ a.amount c.requires.edge_lt_m.0 c.requires.edge_lt_m.2 p)
          (transfer-made a.case a.table.now (own-places a.case c.requires.limited.0 a.table.now c.requires.limited.1) a.edge a.end a.value _ _ _ a.amount c.requires.edge_lt_m.0 c.requires.edge_lt_m.2 p);
    }

pub returns-else-end-eq0 : goal.returns-else-end-eq0
returns-else-end-eq0 c = let a = c.args in
    let p = column (goal.at.returns-else-end-eq0 c).Else-end-eq0 in
    let r = c.transfer_by-else-end-eq0 in record {
      value = (rw (to_z-of_z c.ranges.amount) at r.ensures.value)
          ∙ ap (λ (b : Bool). if b then Ok tt else Err LeavesRange)
          (transfer-is a.case a.table.now (own-places a.case c.requires.limited.0 a.table.now c.requires.limited.1) a.edge a.end a.value _ _ _ a.amount c.requires.edge_lt_m.0 c.requires.edge_lt_m.2 p);
      table_after = (rw (to_z-of_z c.ranges.amount) at r.ensures.table_after)
          ∙ ap₂ (λ (b : Bool) (t : List ℤ). if b then t else a.table.now)
          (transfer-is a.case a.table.now (own-places a.case c.requires.limited.0 a.table.now c.requires.limited.1) a.edge a.end a.value _ _ _ a.amount c.requires.edge_lt_m.0 c.requires.edge_lt_m.2 p)
          (transfer-made a.case a.table.now (own-places a.case c.requires.limited.0 a.table.now c.requires.limited.1) a.edge a.end a.value _ _ _ a.amount c.requires.edge_lt_m.0 c.requires.edge_lt_m.2 p);
    }
