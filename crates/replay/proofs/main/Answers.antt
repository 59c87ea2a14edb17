use Rattle.std.specs.Prelude.{Result}
use Rattle.definitions.specs.declared.Refusal.{Refusal}
use mathlib.Core.Path.{◌≡◌, ap, ◌∙◌}
use Prim.Native.Nat.{ℕ, ◌-◌}
use native.Mathlib.Omega.{arith}
use lib.ListN.{length, take}
use Rattle.definitions.specs.declared.CaseSize.{CaseSize}
use Rattle.definitions.specs.declared.Rulebook.TheVariants.{Desk}
use Rattle.definitions.specs.Places.{table_places}
use Rattle.definitions.specs.CaseFiles.{case_size}
use Rattle.definitions.specs.Programs.{table_for}
use Rattle.judging.proofs.Tables.{table-lent}
use borrow.Author.Rules.{rules}
use Rattle.replay.proofs.main.Goals as goal

pub text_of_input-part-requires : goal.text_of_input-part-requires
text_of_input-part-requires c =
    let long = c.table_length-long.result in
    let filled = c.fill-filled.result.to in
    let buf = c.fill-filled.new.buf in
    let size : (Result CaseSize Refusal) = case_size Desk (take filled buf) in
    let (is, most) = c.table_length-long.ensures in
    let all : filled - 0 ≡ filled = omega arith in
    let same : long ≡ length (table_for size) = is ∙ ap (λ (n : ℕ). length (table_for (case_size Desk (take n buf)))) all in
    let so-many : long - 0 ≡ length (table_for size) = omega arith in record {
      to_in_bounds = (c.fill-filled.ensures.fills.within (omega arith), c.fill-filled.ensures.fills.ends);
      buf_len = (search rules, search rules);
      table_value = ap (λ (n : ℕ). take n c.weights-weights.result) so-many ∙ ap (take (length (table_for size))) c.weights-weights.ensures
          ∙ table-lent size table_places (omega arith);
    }
