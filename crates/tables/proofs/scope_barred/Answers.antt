use mathlib.Core.Path.{ap, ◌∙◌}
use native.Mathlib.Omega.{arith}
use Rattle.integers.specs.Words.{all}
use Rattle.definitions.specs.Case.{is_barred}
use Rattle.tables.proofs.Parts.{part-barred}
use Rattle.tables.proofs.scope_barred.Goals as goal

pub returns : goal.returns
returns c = let a = c.args in
    c.all_barred.ensures ∙ ap (all is_barred) c.scope_part.ensures ∙ part-barred a.case a.table.now (omega arith) a.x (omega arith)
