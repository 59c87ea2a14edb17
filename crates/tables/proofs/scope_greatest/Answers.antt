use mathlib.Core.Path.{ap, ◌∙◌}
use native.Mathlib.Omega.{arith}
use mir.Syntax.{w64}
use Rattle.integers.specs.Linear.{read_back}
use Rattle.integers.specs.Words.{greatest_of}
use Rattle.tables.proofs.Parts.{part-greatest}
use Rattle.tables.proofs.scope_greatest.Goals as goal

pub returns : goal.returns
returns c = let a = c.args in
    read_back w64 c.greatest.result c.greatest.type_inv ∙ c.greatest.ensures ∙ ap greatest_of c.scope_part.ensures
    ∙ part-greatest a.case a.table.now (omega arith) a.x (omega arith)
