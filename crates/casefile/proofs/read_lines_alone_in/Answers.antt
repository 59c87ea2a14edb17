use Rattle.std.specs.Prelude.{Ok}
use mathlib.Core.Path.{◌≡◌, sym, ap, ◌∙◌}
use mathlib.Core.List.{[]}
use Prim.Native.Nat.{◌*◌, ◌≤◌}
use native.Mathlib.Omega.{arith}
use lib.ListN.{length}
use Rattle.definitions.specs.CaseFiles.{read_lines}
use Rattle.case_lines.specs.Dues.{bytes_of_line}
use Rattle.tables.proofs.Order.{outcome-done, outcome-refused}
use Rattle.casefile.proofs.Cases.{handed-same, read_whole}
use Rattle.casefile.proofs.Alone.{alone-good, alone-more}
use Rattle.casefile.proofs.read_lines_alone_in.Goals as goal
use Rattle.casefile.proofs.read_lines_alone_in.Goals.{After-line_length, In-Ok}

-- what was read, and that its lines are there
read_here : (k : In-Ok) → let a = k.args in
    (read_lines a.rulebook a.bytes.now a.table.now).read.answer ≡ Ok k.in-Ok.lines
read_here k = sym (ap (λ c. c.answer) k.read_lines_in-read.ensures.0) ∙ k.in-Ok.is

lines-here : (c : After-line_length) → let a = c.args in let lines = c.in-Ok.lines in
    (lines * c.line_length.result ≡ lines * bytes_of_line a.rulebook) × (lines * bytes_of_line a.rulebook ≤ length a.bytes.now)
lines-here c =
    let a = c.args in
    (ap (λ n. c.in-Ok.lines * n) c.line_length.ensures, read_whole a.rulebook a.bytes.now a.table.now (read_here (goal.at.After-line_length c).In-Ok))

pub overflow_mul-lines : goal.overflow_mul-lines
overflow_mul-lines c = omega (arith, lines-here c)

pub check_rest-requires : goal.check_rest-requires
check_rest-requires c = omega (arith, lines-here c)

pub returns-in-Ok-check_rest : goal.returns-in-Ok-check_rest
returns-in-Ok-check_rest c =
    let a = c.args in
    handed-same (alone-good a.rulebook a.bytes.now a.table.now c.in-Ok.lines (read_here (goal.at.returns-in-Ok-check_rest c).In-Ok)
    (outcome-done (sym c.in-Ok-check_rest.is ∙ (rw (lines-here (goal.at.returns-in-Ok-check_rest c).After-line_length).0 at c.check_rest.ensures))))
    c.read_lines_in-read.ensures

pub returns-in-Err : goal.returns-in-Err
returns-in-Err c =
    let a = c.args in
    handed-same (alone-more a.rulebook a.bytes.now a.table.now c.in-Ok.lines (read_here (goal.at.returns-in-Err c).In-Ok)
    (outcome-refused (sym c.in-Err.is ∙ (rw (lines-here (goal.at.returns-in-Err c).After-line_length).0 at c.check_rest.ensures))))
    (c.file_refused.ensures [], c.read_lines_in-read.ensures.1)
