use mathlib.Core.Path.{sym}
use native.Mathlib.Omega.{arith}
use Rattle.drivers.proofs.Laws.{not-zero-ends}
use Rattle.drivers.proofs.print_table.Goals as goal

pub returns-then-table-shown : goal.returns-then-table-shown
returns-then-table-shown c = let a = c.args in sym (not-zero-ends a.table.now a.shown (omega arith))
