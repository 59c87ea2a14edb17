use Rattle.std.specs.Prelude.{Result}
use Rattle.definitions.specs.declared.Refusal.{Refusal}
use mathlib.Core.Path.{◌≡◌, ap, ◌∙◌}
use mathlib.Core.List.{List}
use Prim.Native.Nat.{ℕ, ◌-◌}
use native.Mathlib.Omega.{arith}
use lib.IntN.{pos}
use lib.ListN.{length, take, length-replicate}
use lib.Seq.{length-take-le}
use Rattle.definitions.specs.declared.CaseSize.{CaseSize}
use Rattle.definitions.specs.declared.Rulebook.TheVariants.{Desk}
use Rattle.definitions.specs.Places.{table_places}
use Rattle.definitions.specs.CaseFiles.{case_size}
use Rattle.definitions.specs.Programs.{table_for}
use Rattle.judging.proofs.Tables.{table-most, table-lent}
use Rattle.press.proofs.Calls.{read_all}
use Rattle.press.proofs.main.Goals as goal

pub slice_bounds-weights-end : goal.slice_bounds-weights-end
slice_bounds-weights-end c =
    omega (
      arith,
      c.table_length-long.ensures,
      table-most Desk (take c.fill-filled.result.to c.fill-filled.new.buf),
      ap length c.weights-weights.ensures,
      length-replicate table_places (pos 0),
    )

pub run-printed-requires : goal.run-printed-requires
run-printed-requires c =
    let filled = c.fill-filled.result.to in
    let input : List ℕ = take filled c.fill-filled.new.buf in
    let size : (Result CaseSize Refusal) = case_size Desk input in
    let long : c.table_length-long.result - 0 ≡ length (table_for size) = omega (arith, c.table_length-long.ensures) in
    let count = length-take-le filled c.fill-filled.new.buf (c.fill-filled.ensures.fills.within (omega arith)) in (
      ap (λ (n : ℕ). take n c.weights-weights.result) long ∙ ap (take (length (table_for size))) c.weights-weights.ensures
          ∙ table-lent size table_places (table-most Desk input),
      read_all c.fill-filled.new.buf filled (omega (arith, c.fill-filled.auto)) count c.fill-filled.ensures.fills.ends,
    )
