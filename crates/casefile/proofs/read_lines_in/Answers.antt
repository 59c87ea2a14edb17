use mathlib.Core.Path.{refl, sym, ◌∙◌}
use mathlib.Core.List.{[]}
use Rattle.casefile.proofs.Cases.{handed-same, case-wrong, case-right, case-length, case-refused, head-whole, sizes-limited}
use Rattle.casefile.proofs.read_lines_in.Goals as goal

pub returns-then-table-size : goal.returns-then-table-size
returns-then-table-size c =
    let a = c.args in
    handed-same (case-wrong a.rulebook a.bytes.now a.table.now c.in-Ok.size
    (sym c.case_size_in.ensures ∙ c.in-Ok.is) c.if-table-size.true) (c.file_refused-then-table-size.ensures [], refl)

pub read_body-requires : goal.read_body-requires
read_body-requires c =
    let a = c.args in
    let e = sym c.case_size_in.ensures ∙ c.in-Ok.is in record {
      sizes_limited = sizes-limited a.rulebook a.bytes.now a.table.now c.in-Ok.size e;
      rulebook_in_bounds = head-whole a.rulebook a.bytes.now a.table.now c.in-Ok.size e;
      sizes_in_bounds = case-length a.rulebook a.bytes.now
          a.table.now c.in-Ok.size e c.if-table-size.false;
    }

pub returns-in-Err : goal.returns-in-Err
returns-in-Err c =
    let a = c.args in
    handed-same (case-refused a.rulebook a.bytes.now a.table.now (sym c.case_size_in.ensures ∙ c.in-Err.is))
    (c.file_refused.ensures [], refl)

pub returns-else-table-size : goal.returns-else-table-size
returns-else-table-size c =
    let a = c.args in
    handed-same (case-right a.rulebook a.bytes.now a.table.now c.in-Ok.size
    (sym c.case_size_in.ensures ∙ c.in-Ok.is) c.if-table-size.false) c.read_body.ensures
